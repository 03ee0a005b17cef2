use Rattle.house_base.specs.Setting.{size}
use Rattle.house_base.proofs.Settings.{same_owner, owner_from-first}
use Rattle.house_base.proofs.laws.applicants_have_one_owner.Goals as goal

pub returns-clause-one : goal.returns-clause-one
returns-clause-one c = λ s a b place setting. same_owner 0 s.owners (size s) a b place setting.in_turn

pub returns-clause-found : goal.returns-clause-found
returns-clause-found c = owner_from-first
