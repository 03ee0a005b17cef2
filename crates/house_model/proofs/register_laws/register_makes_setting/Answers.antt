use Rattle.house_model.proofs.RegisterPeopleLemmas.{length-people}
use Rattle.house_model.proofs.RegisterSettingLemmas.{IsSetting-registered_setting}
use Rattle.house_model.proofs.register_laws.register_makes_setting.Goals as goal

pub returns : goal.returns
returns c = record {
  setting = λ seats clusters reviews reg register some placed seats_in_range clusters_in_range reviews_in_range places_in_range.
      IsSetting-registered_setting seats clusters reviews reg (record {
        register = register;
        some = some;
        placed = placed;
        seats_in_range = seats_in_range;
        clusters_in_range = clusters_in_range;
        reviews_in_range = reviews_in_range;
        places_in_range = places_in_range;
      });
  people = length-people;
}
