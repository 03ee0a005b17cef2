-- The end of a run that comes to its report, and its outcome.
use Rattle.std.proofs.Common.{◌≡◌, ℕ, Result, Ok, Err, Vec, sym, ap, ◌∙◌, subst}
use Rattle.std.specs.Prelude.{IfOk}
use Rattle.house_base.specs.declared.answer.Reason.{Reason}
use Rattle.house_base.specs.Text.{Text}
use Rattle.house_model.specs.declared.goal.Goal.TheVariants as goal
use Rattle.house_model.specs.Ending.{Ended, in_force, stop_of}
use Rattle.house_model.specs.Headline.{AreOfCall}
use Rattle.house_model.specs.Report.{OutcomeParts}
use Rattle.house_model.specs.Runs.{end_of, halt}
use Rattle.house_model.specs.Text.{Lines}
use Rattle.house_model.proofs.RunEndLemmas.{done-parts}
use Rattle.house_core.specs.declared.step.Ending.{Ending}
use Rattle.house_core.specs.declared.step.Ending.TheVariants as ending
use Rattle.house_core.specs.Ends.{IsEnding, IsOutcome}
use Rattle.house_core.proofs.EndingLemmas.{in_force_all}
use Rattle.reserve_list.specs.Board.{IsRanked}
use Rattle.reserve_list.specs.Leaving.{reserve_text}
use Rattle.reserve_list.specs.Told.{reserve_told}
use Rattle.reserve_list.proofs.OutcomeLemmas.{outcome-ranked}
use Rattle.reserve_text.specs.declared.text.Reserve.{Reserve}
use Rattle.reserve_text.specs.Reserve.{IsReserve}

-- how the run of a whole call ends
pub ends_done : (lines : Lines) (answer : Ending) → AreOfCall lines → IsEnding (end_of goal.Run lines) goal.Run (in_force (halt goal.Run) lines) answer →
    IsEnding Ended.Done goal.Run (in_force (halt goal.Run) lines) answer
ends_done lines answer call ends = subst (λ (e : Ended). IsEnding e goal.Run (in_force (halt goal.Run) lines) answer) call.done ends

all_in_force : (lines : Lines) → AreOfCall lines → in_force (halt goal.Run) lines ≡ lines
unfolding stop_of
all_in_force lines call = in_force_all (halt goal.Run) lines (done-parts lines call.done).0

-- its outcome is that of all its lines
outcome_here : (lines : Lines) (o : OutcomeParts) → AreOfCall lines → IsEnding (end_of goal.Run lines) goal.Run (in_force (halt goal.Run) lines) (ending.Done o) → IsOutcome lines o
outcome_here lines o call ends = subst (λ (ls : Lines). IsOutcome ls o) (all_in_force lines call) (ends_done lines (ending.Done o) call ends)

pub ranked_here : (lines : Lines) (o : OutcomeParts) → AreOfCall lines → IsEnding (end_of goal.Run lines) goal.Run (in_force (halt goal.Run) lines) (ending.Done o) → IsRanked o
ranked_here lines o call ends =
    let here = outcome_here lines o call ends in
    subst IsRanked (sym here.value) (outcome-ranked _ _ _ here.assigned here.drawn)

-- what is told of the outcome is told of the lines
pub told_here : {E : Type 0} (r : Result Reserve E) (lines : Lines) (o : OutcomeParts) (bytes : Text) → AreOfCall lines →
    IsEnding (end_of goal.Run lines) goal.Run (in_force (halt goal.Run) lines) (ending.Done o) → IfOk r (IsReserve (reserve_text o bytes)) → IfOk r (IsReserve (reserve_told bytes lines))
told_here {E} r lines o bytes call ends told =
    subst (λ (o : OutcomeParts). IfOk r (IsReserve (reserve_text o bytes))) (outcome_here lines o call ends).value told
