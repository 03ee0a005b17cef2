use Rattle.house_model.proofs.KeyOrderLemmas.{drawn_persons-moves}
use Rattle.house_model.proofs.SeededSettingLemmas.{IsSetting-drawn, denominator-seeded, HasFormedNames-seeded}
use Rattle.house_model.proofs.register_laws.register_makes_seeded_setting.Goals as goal

pub returns-clause-setting : goal.returns-clause-setting
returns-clause-setting c = λ seed seats clusters reviews reg register some seats_in_range clusters_in_range reviews_in_range.
    IsSetting-drawn seed seats clusters reviews reg (record {
      register = register;
      some = some;
      seats_in_range = seats_in_range;
      clusters_in_range = clusters_in_range;
      reviews_in_range = reviews_in_range;
    })

pub returns-clause-persons : goal.returns-clause-persons
returns-clause-persons c = drawn_persons-moves

pub returns-clause-denominator : goal.returns-clause-denominator
returns-clause-denominator c = denominator-seeded

pub returns-clause-names : goal.returns-clause-names
returns-clause-names c = λ seed seats clusters reviews reg h. HasFormedNames-seeded seed seats clusters reviews reg h.names_formed
