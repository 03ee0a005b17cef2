-- Lines that are run again, one by one.
use Rattle.std.proofs.Common.{◌≡◌, ℕ, ◌+◌, ◌-◌, ◌^◌, ◌<◌, ◌≤◌, cond, List, [], ◌∷◌, ◌++◌, length, take, drop, Option, Some, None, refl, sym, ap, ◌∙◌, subst, arith, take_all, length-take-le}
use Rattle.std.specs.Prelude.{is_some, slice_get}
use Rattle.std.specs.Option.{option_map_or}
use Rattle.std.proofs.lemmas.List.{take-append-drop, take_more}
use Rattle.std.proofs.lemmas.Option.{get_or_from_slice_get}
use Rattle.house_base.specs.Text.{Text}
use Rattle.house_base.specs.declared.answer.Took.{Took}
use Rattle.house_core.specs.House.{IsStep, Standing, StandsFor}
use Rattle.house_core.specs.declared.step.Step.{Step}
use Rattle.house_core.specs.declared.step.Step.TheVariants as step
use Rattle.house_core.proofs.EndingLemmas.{in_force_all, in_force_at, stop_none}
use Rattle.house_model.specs.declared.goal.Goal.TheVariants as goal
use Rattle.house_model.specs.declared.limits.TheConstants.{MOST_LINES}
use Rattle.house_model.specs.Ending.{Halt, Rule, halted, in_force, in_force_after, stop_after, stop_of}
use Rattle.house_model.specs.LineMarks.{marks_after}
use Rattle.house_model.specs.Reviews.{took_of}
use Rattle.house_model.specs.Runs.{end_of, halt, last_of, taken}
use Rattle.house_model.specs.Text.{Lines}
use Rattle.house_model.proofs.MarkLemmas.{marks_after-push}
use Rattle.replay_check.specs.Rerun.{HasRun}

-- The first lines of a list, so many of them, were taken: none ends the run, and these are their marks.
pub record HasTaken (lines : Lines) (count : ℕ) (house : Standing) (marks : List Took) : Type 0 where
  pub stands : StandsFor goal.Run (take count lines) house
  pub free : stop_of (halt goal.Run) (take count lines) ≡ None
  pub marked : marks ≡ marks_after goal.Run [] (take count lines)

-- what the answer to a line says of the lines with it
going : (stop : Option (ℕ × Halt)) (mark answer : Took) → IsStep stop mark (step.Going answer) → (stop ≡ None) × (answer ≡ mark)
going None mark answer h = (refl, h)
going (Some at) mark answer h = absurd h

-- an answer that says that the line has ended the run
abbrev pub IsHalt : Step → Type 0
IsHalt (step.Going mark) = ⊥
IsHalt step.Memory = ⊥
IsHalt answer = Unit {0}

pub halted_by : (stop : Option (ℕ × Halt)) (mark : Took) (answer : Step) → IsStep stop mark answer → IsHalt answer → (at : ℕ × Halt) × (stop ≡ Some at)
halted_by None mark (step.Going answer) h halt = absurd halt
halted_by None mark (step.Refused line reason) h halt = absurd h
halted_by None mark step.Short h halt = absurd h
halted_by None mark step.Memory h halt = absurd halt
halted_by (Some at) mark answer h halt = (at, refl)

-- one line more
pub one_more : (lines : Lines) (i : ℕ) (x : Text) → slice_get lines i ≡ Some x → i < length lines → take (i + 1) lines ≡ take i lines ++ x ∷ []
one_more lines i x found below = take_more lines i [] below ∙ ap (λ y. take i lines ++ y ∷ []) (get_or_from_slice_get lines i x [] found)

pub few : (lines : Lines) (i : ℕ) → length lines ≤ MOST_LINES → i ≤ length lines → length (take i lines) < 2 ^ 64 - 1
few lines i bound within = let short = length-take-le i lines within in omega (arith, short, bound, within)

pub none_taken : (lines : Lines) (house : Standing) (made : List Took) → StandsFor goal.Run [] house → made ≡ [] → HasTaken lines 0 house made
unfolding stop_of
none_taken lines house made new unmarked =
    let none = nothing lines in
    record {
      stands = subst (λ ls. StandsFor goal.Run ls house) (sym none) new;
      free = ap (stop_after (halt goal.Run) []) none;
      marked = unmarked ∙ ap (marks_after goal.Run []) (sym none);
    }
  where
    nothing : (ls : Lines) → take 0 ls ≡ []
    nothing [] = refl
    nothing (x ∷ xs) = refl

pub line_taken : (lines : Lines) (i : ℕ) (x : Text) (house after : Standing) (made : List Took) (answer : Took) → HasTaken lines i house made → slice_get lines i ≡ Some x → i < length lines →
    IsStep (stop_of (halt goal.Run) (take i lines ++ x ∷ [])) (took_of goal.Run (take i lines) x) (step.Going answer) → StandsFor goal.Run (take i lines ++ x ∷ []) after →
    HasTaken lines (i + 1) after (made ++ answer ∷ [])
line_taken lines i x house after made answer so_far found below is stands =
    let more = one_more lines i x found below in
    let goes = going (stop_of (halt goal.Run) (take i lines ++ x ∷ [])) (took_of goal.Run (take i lines) x) answer is in
    record {
      stands = subst (λ ls. StandsFor goal.Run ls after) (sym more) stands;
      free = ap (stop_of (halt goal.Run)) more ∙ goes.0;
      marked = ap (λ ms. ms ++ answer ∷ []) so_far.marked
          ∙ ap (λ mark. marks_after goal.Run [] (take i lines) ++ mark ∷ []) goes.1
          ∙ sym (marks_after-push goal.Run [] (take i lines) x)
          ∙ ap (marks_after goal.Run []) (sym more);
    }

-- Behind a line that ends the run nothing changes.

stays : (n : ℕ) (y : Text) (t : ℕ × Halt) (rest more : Option (ℕ × Halt)) (kept grown : Lines) (o : Option Halt) →
    (rest ≡ Some t → (more ≡ Some t) × (grown ≡ kept)) → option_map_or (λ r. Some (n, r)) o rest ≡ Some t →
    (option_map_or (λ r. Some (n, r)) o more ≡ Some t) × (cond (is_some o) [] (y ∷ grown) ≡ cond (is_some o) [] (y ∷ kept))
stays n y t rest more kept grown None later h = ((later h).0, ap (λ all. y ∷ all) (later h).1)
stays n y t rest more kept grown (Some r) later h = (h, refl)

stop_after-front : (rule : Rule) (before lines more : Lines) (t : ℕ × Halt) → stop_after rule before lines ≡ Some t →
    (stop_after rule before (lines ++ more) ≡ Some t) × (in_force_after rule before (lines ++ more) ≡ in_force_after rule before lines)
stop_after-front rule before [] more t h = absurd (cc)
stop_after-front rule before (y ∷ lines) more t h =
    stays (length before + 1) y t (stop_after rule (before ++ y ∷ []) lines) (stop_after rule (before ++ y ∷ []) (lines ++ more))
    (in_force_after rule (before ++ y ∷ []) lines) (in_force_after rule (before ++ y ∷ []) (lines ++ more)) (rule before y)
    (stop_after-front rule (before ++ y ∷ []) lines more t) h

-- a line that ends the run is not in force
not_in_force : (lines : Lines) (x : Text) (t : ℕ × Halt) → stop_of (halt goal.Run) lines ≡ None → stop_of (halt goal.Run) (lines ++ x ∷ []) ≡ Some t →
    in_force (halt goal.Run) (lines ++ x ∷ []) ≡ lines
not_in_force lines x t none stop = by_rule (halt goal.Run lines x) refl
  where
    by_rule : (o : Option Halt) → halt goal.Run lines x ≡ o → in_force (halt goal.Run) (lines ++ x ∷ []) ≡ lines
    by_rule None h = absurd (let wrong : Some t ≡ None = sym stop ∙ stop_none (halt goal.Run) lines x none h in cc)
    by_rule (Some why) h = in_force_at (halt goal.Run) lines x why none h

same_end : (one other : Lines) (t : ℕ × Halt) → stop_of (halt goal.Run) one ≡ Some t → stop_of (halt goal.Run) other ≡ Some t → end_of goal.Run one ≡ end_of goal.Run other
unfolding end_of
same_end one other t here there =
    ap (λ o. option_map_or (λ s. halted s.0 s.1) o (last_of goal.Run one)) here
    ∙ sym (ap (λ o. option_map_or (λ s. halted s.0 s.1) o (last_of goal.Run other)) there)

ran_to : (front more : Lines) (x : Text) (t : ℕ × Halt) (house : Standing) (made : List Took) → stop_of (halt goal.Run) front ≡ None → stop_of (halt goal.Run) (front ++ x ∷ []) ≡ Some t →
    length (front ++ x ∷ []) < 2 ^ 64 - 1 → made ≡ marks_after goal.Run [] front → StandsFor goal.Run (front ++ x ∷ []) house → HasRun ((front ++ x ∷ []) ++ more) house made
unfolding stop_of in_force taken
ran_to front more x t house made free stop fits marked stands =
    let on = stop_after-front (halt goal.Run) [] (front ++ x ∷ []) more t stop in
    let force = not_in_force front x t free stop in
    record {
      front = front ++ x ∷ [];
      stands = stands;
      few = fits;
      same_end = same_end (front ++ x ∷ []) ((front ++ x ∷ []) ++ more) t stop on.0;
      same_lines = sym on.1;
      marked = marked ∙ ap (marks_after goal.Run []) (sym (on.1 ∙ force));
    }

-- a line has ended the run
pub line_ended : (lines : Lines) (i : ℕ) (x : Text) (t : ℕ × Halt) (house after : Standing) (made : List Took) → HasTaken lines i house made → slice_get lines i ≡ Some x → i < length lines →
    length lines ≤ MOST_LINES → stop_of (halt goal.Run) (take i lines ++ x ∷ []) ≡ Some t → StandsFor goal.Run (take i lines ++ x ∷ []) after → HasRun lines after made
line_ended lines i x t house after made so_far found below bound stop stands =
    let more = one_more lines i x found below in
    let fits = subst (λ ls. length ls < 2 ^ 64 - 1) more (few lines (i + 1) bound (omega (arith, below))) in
    subst (λ ls. HasRun ls after made) (ap (λ ls. ls ++ drop (i + 1) lines) (sym more) ∙ take-append-drop (i + 1) lines)
    (ran_to (take i lines) (drop (i + 1) lines) x t after made so_far.free stop fits so_far.marked stands)

-- no line has
pub all_taken : (lines : Lines) (i : ℕ) (house : Standing) (made : List Took) → length lines ≤ i → length lines ≤ MOST_LINES → HasTaken lines i house made → HasRun lines house made
unfolding taken
all_taken lines i house made past bound so_far =
    let all = take_all i lines past in
    let free = sym (ap (stop_of (halt goal.Run)) all) ∙ so_far.free in
    let force = in_force_all (halt goal.Run) lines free in
    record {
      front = lines;
      stands = subst (λ ls. StandsFor goal.Run ls house) all so_far.stands;
      few = omega (arith, bound);
      same_end = refl;
      same_lines = refl;
      marked = so_far.marked ∙ ap (marks_after goal.Run []) (all ∙ sym force);
    }
