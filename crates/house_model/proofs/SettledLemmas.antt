-- What is settled for a goal holds of the lines that were taken.
use Rattle.std.proofs.Common.{◌≡◌, ◌+◌, Bool, true, false, ◌||◌, cond, eqb, [], ◌∷◌, ◌++◌, length, None, is_some, refl, sym, ap, ◌∙◌, subst, inl, inr, arith}
use Rattle.std.proofs.lemmas.Bool.{false≢true, cases_Bool, and_parts, cond-true, cond-false, eqb-true, false_from_ne_true}
use Rattle.house_base.specs.Text.{Text}
use Rattle.peer_selection.specs.FirstAssignment.{IsFirst, has_assignment}
use Rattle.peer_selection.specs.Profile.{is_valid}
use Rattle.house_model.specs.declared.goal.Goal.{Goal}
use Rattle.house_model.specs.declared.goal.Goal.TheVariants as goal
use Rattle.house_model.specs.declared.verb.Verb.TheVariants as verb
use Rattle.house_model.specs.Ending.{Rule, Ended, stop_after, in_force_after, in_force}
use Rattle.house_model.specs.Runs.{halt, through_assign, looked_at, settles, end_of, taken}
use Rattle.house_model.specs.Said.{has, setting, has_pairs, run_pairs}
use Rattle.house_model.specs.Text.{Lines}
use Rattle.house_model.specs.Verbs.{verb_in, verb_number, commands}
use Rattle.house_model.proofs.LateLineLemmas.{SaysNothing, HaveSameRecord, record-push, setting-record, run_pairs-record, has_pairs-record, none_first}
use Rattle.house_model.proofs.RunEndLemmas.{settled-parts, accepted-some, accepted-valid, accepted-first}
use Rattle.house_model.proofs.SealLemmas.{unstopped-behind}

-- lines that end with their first assignment
record EndWithAssign (lines : Lines) : Type 0 where
  before : Lines
  line : Text
  parts : lines ≡ before ++ line ∷ []
  assigns : commands verb.Assign line ≡ true

assigned-here : (assigns : Bool) (line : Text) (more : Lines) → cond assigns [] more ≡ more → assigns ≡ true → line ∷ cond assigns [] more ≡ line ∷ []
assigned-here true line more e h = refl
assigned-here false line more e h = absurd (false≢true h)

through-ends : (lines : Lines) → has verb.Assign lines ≡ true → EndWithAssign (through_assign lines)
unfolding has
through-ends [] h = absurd (false≢true h)
through-ends (line ∷ lines) h =
    let more = through_assign lines in
    elim (cases_Bool (commands verb.Assign line)) [
      | inl here ↦ record {
        before = [];
        line = line;
        parts = ap (λ xs. line ∷ xs) (cond-true (commands verb.Assign line) [] more here);
        assigns = here;
      }
      | inr later ↦
          let rest = through-ends lines (ap (λ b. b || has verb.Assign lines) (sym later) ∙ h) in
          record {
            before = line ∷ rest.before;
            line = rest.line;
            parts = ap (λ xs. line ∷ xs) (cond-false (commands verb.Assign line) [] more later ∙ rest.parts);
            assigns = rest.assigns;
          }
    ]

pub in_force-free : (rule : Rule) (before lines : Lines) → stop_after rule before lines ≡ None → in_force_after rule before lines ≡ lines
in_force-free rule before [] free = refl
in_force-free rule before (line ∷ lines) free =
    let parts = none_first (rule before line) (λ w. (length before + 1, w)) (stop_after rule (before ++ line ∷ []) lines) free in
    ap (λ o. cond (is_some o) [] (line ∷ in_force_after rule (before ++ line ∷ []) lines)) parts.0
    ∙ ap (λ xs. line ∷ xs) (in_force-free rule (before ++ line ∷ []) lines parts.1)

assign-says_nothing : (line : Text) → commands verb.Assign line ≡ true → SaysNothing line
assign-says_nothing line h v l =
    ap (λ n. eqb n (verb_number v)) (eqb-true (verb_number (verb_in line)) 7 h)
    ∙ false_from_ne_true (eqb 7 (verb_number v)) (λ e. absurd (omega (arith, l, eqb-true 7 (verb_number v) e)))

through : (g : Goal) → settles g ≡ true → (lines : Lines) → looked_at g lines ≡ through_assign lines
through goal.Run h lines = absurd (false≢true h)
through goal.Pairs h lines = refl
through goal.Feasible h lines = refl

-- what is settled is an assignment that ends no run, and the record before it is that of the lines taken
record IsSettled (g : Goal) (lines : Lines) : Type 0 where
  before : Lines
  line : Text
  assigns : commands verb.Assign line ≡ true
  admitted : halt g before line ≡ None
  same : HaveSameRecord before (taken g lines)

settled : (g : Goal) (lines : Lines) → end_of g lines ≡ Ended.Settled → IsSettled g lines
unfolding taken in_force
settled g lines h =
    let parts = settled-parts g lines h in
    let settles_so = and_parts (settles g) (has verb.Assign lines) parts.1 in
    let at = through-ends lines settles_so.1 in
    let whole : looked_at g lines ≡ at.before ++ at.line ∷ [] = through g settles_so.0 lines ∙ at.parts in
    let free = unstopped-behind (halt g) [] at.before (at.line ∷ []) (ap (stop_after (halt g) []) (sym whole) ∙ parts.0) in
    record {
      before = at.before;
      line = at.line;
      assigns = at.assigns;
      admitted = (none_first (halt g at.before at.line) (λ w. (length at.before + 1, w)) None free).0;
      same = subst (HaveSameRecord at.before) (sym (in_force-free (halt g) [] (looked_at g lines) parts.0 ∙ whole))
          (record-push at.before at.line (assign-says_nothing at.line at.assigns));
    }

pub settled-some : (g : Goal) (lines : Lines) → end_of g lines ≡ Ended.Settled → has_assignment (setting (taken g lines)) ≡ true
settled-some g lines h =
    let s = settled g lines h in
    ap has_assignment (sym (setting-record s.before (taken g lines) s.same)) ∙ accepted-some g s.before s.line s.assigns s.admitted

pub settled-valid : (lines : Lines) → end_of goal.Pairs lines ≡ Ended.Settled → is_valid (setting (taken goal.Pairs lines)) (run_pairs (taken goal.Pairs lines)) ≡ true
settled-valid lines h =
    let s = settled goal.Pairs lines h in
    let t = taken goal.Pairs lines in
    ap (λ x. is_valid x (run_pairs (taken goal.Pairs lines))) (sym (setting-record s.before t s.same))
    ∙ (ap (is_valid (setting s.before)) (sym (run_pairs-record s.before t s.same)) ∙ accepted-valid goal.Pairs s.before s.line s.assigns s.admitted refl)

pub settled-first : (lines : Lines) → end_of goal.Pairs lines ≡ Ended.Settled → has_pairs (taken goal.Pairs lines) ≡ false
    → IsFirst (setting (taken goal.Pairs lines)) (run_pairs (taken goal.Pairs lines))
settled-first lines h none =
    let s = settled goal.Pairs lines h in
    let t = taken goal.Pairs lines in
    let first = accepted-first goal.Pairs s.before s.line s.assigns s.admitted (has_pairs-record s.before t s.same ∙ none) in
    subst (λ x. IsFirst x (run_pairs (taken goal.Pairs lines))) (setting-record s.before t s.same)
    (subst (IsFirst (setting s.before)) (run_pairs-record s.before t s.same) first)
