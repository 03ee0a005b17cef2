-- What all lines come to, from what the lines that were taken do.
use Rattle.std.proofs.Common.{◌≡◌, ℕ, ◌-◌, ◌≤◌, List, [], ◌++◌, length, take, refl, sym, ap, ◌∙◌, subst, arith, length-append, take_all}
use Rattle.std.specs.Prelude.{replicate}
use Rattle.house_base.specs.Text.{Text}
use Rattle.house_base.specs.declared.answer.Took.{Took}
use Rattle.house_base.specs.declared.answer.Took.TheVariants as took
use Rattle.house_core.specs.House.{Standing}
use Rattle.house_model.specs.declared.goal.Goal.TheVariants as goal
use Rattle.house_model.specs.Ending.{in_force}
use Rattle.house_model.specs.EndTexts.{IsEndText, IsTextOfEnd}
use Rattle.house_model.specs.LineMarks.{marks, marks_after}
use Rattle.house_model.specs.Runs.{end_of, halt, taken}
use Rattle.house_model.specs.Text.{Lines}
use Rattle.house_model.proofs.MarkLemmas.{length-marks, length-marks_after}
use Rattle.end_text.specs.End.{IsEndOf}
use Rattle.end_text.specs.declared.end.RunEnd.{RunEnd}
use Rattle.replay_check.specs.Rerun.{HasRun, IsRerun}

-- a list that is filled up to a length, and is no longer than this
filled_up : (front made : List Took) (n k behind : ℕ) (fill : Took) → made ≡ front → length front ≡ k → behind ≡ n - k → length (front ++ replicate behind fill) ≡ n →
    take n made ++ replicate (n - length made) fill ≡ front ++ replicate behind fill
filled_up front made n k behind fill same long left all =
    let parts = length-append front (replicate behind fill) in
    let short : length front ≤ n = omega (arith, all, parts) in
    ap (λ ms. take n ms ++ replicate (n - length ms) fill) same
    ∙ ap (λ ms. ms ++ replicate (n - length front) fill) (take_all n front short)
    ∙ ap (λ m. front ++ replicate m fill) (ap (λ m. n - m) long ∙ sym left)

marks_are : (lines : Lines) → marks lines ≡ marks_after goal.Run [] (taken goal.Run lines) ++ replicate (length lines - length (taken goal.Run lines)) took.Kept
unfolding marks
marks_are lines = refl

-- the marks of all lines, from those of the lines that were taken
marks_filled : (lines : Lines) (made : List Took) (n : ℕ) → n ≡ length lines → made ≡ marks_after goal.Run [] (taken goal.Run lines) →
    take n made ++ replicate (n - length made) took.Kept ≡ marks lines
marks_filled lines made n all marked =
    ap (λ m. take m made ++ replicate (m - length made) took.Kept) all
    ∙ filled_up (marks_after goal.Run [] (taken goal.Run lines)) made (length lines) (length (taken goal.Run lines)) (length lines - length (taken goal.Run lines)) took.Kept marked
    (length-marks_after goal.Run [] (taken goal.Run lines)) refl (sym (ap length (marks_are lines)) ∙ length-marks lines)
    ∙ sym (marks_are lines)

-- the text of the end
text_of_lines : (lines : Lines) (house : Standing) (made : List Took) (text : Text) (run : HasRun lines house made) →
    IsTextOfEnd (end_of goal.Run run.front) goal.Run (in_force (halt goal.Run) run.front) text → IsEndText lines text
text_of_lines lines house made text run says =
    subst (λ e. IsTextOfEnd e goal.Run (taken goal.Run lines) text) run.same_end
    (subst (λ ls. IsTextOfEnd (end_of goal.Run run.front) goal.Run ls text) run.same_lines says)

-- the lines were run, the end was told, and the marks were filled up
pub rerun_of : (lines : Lines) (house : Standing) (made filled : List Took) (n : ℕ) (end : RunEnd) (text : Text) (run : HasRun lines house made) → IsEndOf goal.Run run.front end text → n ≡ length lines →
    filled ≡ take n made ++ replicate (n - length made) took.Kept → IsRerun lines filled end text
rerun_of lines house made filled n end text run told all is = record {
  marked = is ∙ marks_filled lines made n all run.marked;
  ends = told.ends ∙ run.same_end;
  says = text_of_lines lines house made text run told.says;
}
