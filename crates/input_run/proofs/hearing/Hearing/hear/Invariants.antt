use Rattle.std.proofs.Common.{◌≡◌, ℕ, List, ◌++◌, length}
use Rattle.house_model.specs.declared.goal.Goal.{Goal}
use Rattle.house_model.specs.Text.{Lines}
use Rattle.input_run.specs.Hearing.{HasHeard}
use Rattle.input_run.specs.Kept.{keeps}
use Rattle.input_run.proofs.hearing.Hearing.hear.Given as goal

-- the bytes so far were heard, and lines are kept as before
abbrev pub invariant-loop-rest : goal.invariant-loop-rest
invariant-loop-rest l = record {
  heard : (g : Goal) (opening : Lines) (heard : List ℕ) → HasHeard g opening heard l.fn.self →
      (front : List ℕ) × (l.piece ≡ front ++ l.rest) × HasHeard g opening (heard ++ front) l.self;
  keeps : keeps l.self.run ≡ keeps l.fn.self.run;
}

abbrev pub decreases-loop-rest : goal.decreases-loop-rest
decreases-loop-rest l = length l.rest
