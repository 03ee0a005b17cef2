-- What becomes of the lines of a run, one by one.
use Rattle.std.proofs.Common.{◌≡◌, suc, ◌-◌, ◌≤◌, cond, [], ◌∷◌, ◌++◌, length, Option, Some, None, refl, sym, ap, ◌∙◌, arith, append-nil, append_assoc, length-append}
use Rattle.std.specs.Prelude.{is_some, replicate}
use Rattle.std.proofs.lemmas.List.{length-replicate}
use Rattle.house_base.specs.declared.answer.Took.TheVariants as took
use Rattle.house_base.specs.Text.{Text}
use Rattle.house_model.specs.declared.goal.Goal.{Goal}
use Rattle.house_model.specs.declared.goal.Goal.TheVariants as goal
use Rattle.house_model.specs.Ending.{Halt, Rule, in_force, in_force_after, stop_of}
use Rattle.house_model.specs.LineMarks.{marks, marks_after}
use Rattle.house_model.specs.Reviews.{took_of}
use Rattle.house_model.specs.Runs.{halt, taken}
use Rattle.house_model.specs.Text.{Lines}
use Rattle.house_model.proofs.SettledLemmas.{in_force-free}

pub length-marks_after : (g : Goal) (before lines : Lines) → length (marks_after g before lines) ≡ length lines
length-marks_after g before [] = refl
length-marks_after g before (line ∷ lines) = ap (λ n. suc n) (length-marks_after g (before ++ line ∷ []) lines)

-- the mark of one line more
pub marks_after-push : (g : Goal) (before lines : Lines) (line : Text) →
    marks_after g before (lines ++ line ∷ []) ≡ marks_after g before lines ++ took_of g (before ++ lines) line ∷ []
marks_after-push g before [] line = ap (λ xs. took_of g xs line ∷ []) (sym (append-nil before))
marks_after-push g before (x ∷ lines) line =
    ap (λ ms. took_of g before x ∷ ms)
    (marks_after-push g (before ++ x ∷ []) lines line
    ∙ ap (λ xs. marks_after g (before ++ x ∷ []) lines ++ took_of g xs line ∷ []) (append_assoc before (x ∷ []) lines))

in_force-shorter : (rule : Rule) (before lines : Lines) → length (in_force_after rule before lines) ≤ length lines
in_force-shorter rule before [] = omega arith
in_force-shorter rule before (line ∷ lines) = by (rule before line) (in_force-shorter rule (before ++ line ∷ []) lines) where
  rest : Lines
  rest = in_force_after rule (before ++ line ∷ []) lines

  by : (why : Option Halt) → length rest ≤ length lines → length (cond (is_some why) [] (line ∷ rest)) ≤ length (line ∷ lines)
  by (Some why) more = omega arith
  by None more = omega (arith, more)

taken-shorter : (lines : Lines) → length (taken goal.Run lines) ≤ length lines
unfolding taken in_force
taken-shorter lines = in_force-shorter (halt goal.Run) [] lines

-- each line has a mark
pub length-marks : (lines : Lines) → length (marks lines) ≡ length lines
unfolding marks
length-marks lines =
    let said = taken goal.Run lines in
    let behind = length lines - length said in
    let shorter = taken-shorter lines in
    let parts = length-append (marks_after goal.Run [] said) (replicate behind took.Kept) in
    let front = length-marks_after goal.Run [] said in
    let rest = length-replicate behind took.Kept in
    omega (arith, shorter, parts, front, rest)

-- where no line ends the run, each has the mark of what became of it
pub marks-unstopped : (lines : Lines) → stop_of (halt goal.Run) lines ≡ None → marks lines ≡ marks_after goal.Run [] lines
unfolding marks taken in_force stop_of
marks-unstopped lines free =
    let said : taken goal.Run lines ≡ lines = in_force-free (halt goal.Run) [] lines free in
    let none : length lines - length lines ≡ 0 = omega arith in
    ap (λ xs. marks_after goal.Run [] xs ++ replicate (length lines - length xs) took.Kept) said
    ∙ (ap (λ n. marks_after goal.Run [] lines ++ replicate n took.Kept) none ∙ append-nil (marks_after goal.Run [] lines))
