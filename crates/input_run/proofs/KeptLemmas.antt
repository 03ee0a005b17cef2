-- What a run keeps of a line that it has taken.
use Rattle.std.proofs.Common.{◌≡◌, ℕ, [], ◌∷◌, ◌++◌, Option, Some, None, sym, ap, ◌∙◌, subst}
use Rattle.std.specs.Prelude.{IfSome}
use Rattle.house_base.specs.declared.answer.Took.{Took}
use Rattle.house_base.specs.Text.{Text}
use Rattle.house_core.proofs.EndingLemmas.{in_force_all}
use Rattle.house_core.specs.House.{Standing, StandsFor}
use Rattle.house_model.specs.declared.goal.Goal.{Goal}
use Rattle.house_model.specs.Ending.{Halt, in_force, stop_of}
use Rattle.house_model.specs.LineMarks.{marks_after}
use Rattle.house_model.specs.Reviews.{took_of}
use Rattle.house_model.specs.Runs.{halt}
use Rattle.house_model.specs.Text.{Lines}
use Rattle.house_model.proofs.MarkLemmas.{marks_after-push}
use Rattle.input_run.proofs.EndLemmas.{stopped_before}
use Rattle.input_run.specs.declared.kept.Kept.{Kept}
use Rattle.input_run.specs.declared.line_run.LineRun.{LineRun}
use Rattle.input_run.specs.Hearing.{GoOn}
use Rattle.input_run.specs.Kept.{AreKept, HasTaken, KeepsMore}

-- A line after which no line has ended the run is kept.
pub kept_more : (g : Goal) (lines : Lines) (x : Text) (took : Took) (before after : Option Kept) → stop_of (halt g) lines ≡ None
    → stop_of (halt g) (lines ++ x ∷ []) ≡ None → took ≡ took_of g lines x → IfSome before (AreKept g (in_force (halt g) lines)) → KeepsMore before after x took
    → IfSome after (AreKept g (in_force (halt g) (lines ++ x ∷ [])))
kept_more g lines x took None None free free_still is kept more = tt
kept_more g lines x took None (Some after) free free_still is kept more = absurd more
kept_more g lines x took (Some before) None free free_still is kept more = absurd more
kept_more g lines x took (Some before) (Some after) free free_still is kept more =
    let said : in_force (halt g) lines ≡ lines = in_force_all (halt g) lines free in
    let said_still : in_force (halt g) (lines ++ x ∷ []) ≡ lines ++ x ∷ [] = in_force_all (halt g) (lines ++ x ∷ []) free_still in
    record {
      lines = more.0 ∙ (ap (λ ls. ls ++ x ∷ []) (kept.lines ∙ said) ∙ sym said_still);
      marks = more.1
          ∙ (ap (λ ms. ms ++ took ∷ []) (kept.marks ∙ ap (marks_after g []) said)
          ∙ (ap (λ t. marks_after g [] lines ++ t ∷ []) is
          ∙ (sym (marks_after-push g [] lines x) ∙ ap (marks_after g []) (sym said_still))));
    }

-- A line that ends the run is not.
pub kept_still : (g : Goal) (lines : Lines) (x : Text) (t : ℕ × Halt) (kept : Option Kept) → stop_of (halt g) lines ≡ None → stop_of (halt g) (lines ++ x ∷ []) ≡ Some t
    → IfSome kept (AreKept g (in_force (halt g) lines)) → IfSome kept (AreKept g (in_force (halt g) (lines ++ x ∷ [])))
kept_still g lines x t None free stop kept = tt
kept_still g lines x t (Some k) free stop kept =
    let same : in_force (halt g) lines ≡ in_force (halt g) (lines ++ x ∷ []) = in_force_all (halt g) lines free ∙ sym (stopped_before g lines x t free stop) in
    record { lines = kept.lines ∙ same; marks = kept.marks ∙ ap (marks_after g []) same }

-- a run that has taken a line more
pub line_taken : (g : Goal) (lines : Lines) (x : Text) (took : Took) (old new : LineRun) (house : Standing) → HasTaken g lines old → GoOn g lines
    → StandsFor g (lines ++ x ∷ []) house → new.house ≡ house → stop_of (halt g) (lines ++ x ∷ []) ≡ None → took ≡ took_of g lines x → KeepsMore old.kept new.kept x took
    → HasTaken g (lines ++ x ∷ []) new
line_taken g lines x took old new house taken go stands same free is more = record {
  stands = subst (StandsFor g (lines ++ x ∷ [])) (sym same) stands;
  kept = kept_more g lines x took old.kept new.kept go.unstopped free is taken.kept more;
}

-- a run that a line has ended
pub line_ended : (g : Goal) (lines : Lines) (x : Text) (t : ℕ × Halt) (old new : LineRun) → HasTaken g lines old → GoOn g lines
    → StandsFor g (lines ++ x ∷ []) new.house → stop_of (halt g) (lines ++ x ∷ []) ≡ Some t → new.kept ≡ old.kept → HasTaken g (lines ++ x ∷ []) new
line_ended g lines x t old new taken go stands stop same = record {
  stands = stands;
  kept = kept_still g lines x t new.kept go.unstopped stop (subst (λ kept. IfSome kept (AreKept g (in_force (halt g) lines))) (sym same) taken.kept);
}

-- a run that keeps lines and has taken none
pub none_kept : (g : Goal) (run : LineRun) (kept : Kept) → StandsFor g [] run.house → run.kept ≡ Some kept → kept.lines ≡ [] → kept.marks.items ≡ [] → HasTaken g [] run
unfolding in_force
none_kept g run kept stands keeps lines marks = record {
  stands = stands;
  kept = subst (λ k. IfSome k (AreKept g (in_force (halt g) []))) (sym keeps) (record { lines = lines; marks = marks });
}
