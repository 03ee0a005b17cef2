use Rattle.std.proofs.Common.{◌↔◌, length}
use Rattle.house_model.specs.Text.{lines}
use Rattle.twin_check.specs.Agree.{Agree}
use Rattle.twin_check.proofs.agree.agree.Given as goal

-- the two agree exactly where what is left of them does
abbrev pub invariant-loop-one : goal.invariant-loop-one
invariant-loop-one l = Agree l.name (lines l.a) (lines l.b) ↔ Agree l.name (lines l.rest_of_a) (lines l.rest_of_b)

abbrev pub decreases-loop-one : goal.decreases-loop-one
decreases-loop-one l = length l.rest_of_a
