use Rattle.std.proofs.Common.{◌≡◌, map, take}
use Rattle.house_model.specs.Register.{persons}
use Rattle.house_model.specs.Seeds.{person_key}
use Rattle.cluster_draw.proofs.placings.keys.Given as goal

abbrev pub invariant-loop-person : goal.invariant-loop-person
invariant-loop-person l = l.keys.items ≡ map (person_key l.seed) (take l.person (persons l.book))
