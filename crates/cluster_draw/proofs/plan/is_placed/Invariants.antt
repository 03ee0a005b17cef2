use Rattle.std.proofs.Common.{◌≡◌, true, take}
use Rattle.std.specs.List.{list_all}
use Rattle.house_base.specs.Text.{among}
use Rattle.house_model.specs.Register.{persons, placed_names}
use Rattle.cluster_draw.proofs.plan.is_placed.Given as goal

abbrev pub invariant-loop-person : goal.invariant-loop-person
invariant-loop-person l = list_all (among (placed_names l.book)) (take l.person (persons l.book)) ≡ true
