-- How runs end: where they fall short, and what an assignment is that ends none.
use Rattle.std.proofs.Common.{◌≡◌, ◌↔◌, ℕ, ◌+◌, ◌⊎◌, Bool, true, false, not, ◌&&◌, cond, eqb, List, [], ◌∷◌, ◌++◌, length, Option, Some, None, refl, sym, ap, ◌∙◌, inl, inr, arith, append-nil, append_assoc}
use Rattle.std.specs.Option.{option_map_or}
use Rattle.std.proofs.lemmas.Bool.{true≢false, false≢true, cases_Bool, and_parts, and_from, both_ways, cond-true, cond-false, cond_both, false_from_ne_true, not-true, not-false, not_from_true, not_from_false}
use Rattle.std.proofs.lemmas.Option.{same_Some}
use Rattle.house_base.specs.declared.answer.Reason.{Reason}
use Rattle.house_base.specs.declared.answer.Reason.TheVariants as reason
use Rattle.house_base.specs.declared.phase.Phase.{Phase}
use Rattle.house_base.specs.declared.phase.Phase.TheVariants as phase
use Rattle.house_base.specs.Text.{Text}
use Rattle.peer_selection.specs.FirstAssignment.{IsFirst, has_assignment, first_assignment}
use Rattle.peer_selection.specs.Profile.{Pairs, is_valid}
use Rattle.peer_selection.proofs.FirstAmongLemmas.{has_assignment-exact, has_assignment-none, first_assignment-first}
use Rattle.house_model.specs.declared.goal.Goal.{Goal}
use Rattle.house_model.specs.declared.goal.Goal.TheVariants as goal
use Rattle.house_model.specs.declared.verb.Verb.{Verb}
use Rattle.house_model.specs.declared.verb.Verb.TheVariants as verb
use Rattle.house_model.specs.Ending.{Halt, Rule, Ended, halted, stop_after, stop_of, last_ended, is_drawn}
use Rattle.house_model.specs.Faults.{fault, house_fault, first_of_reasons, looks_at_pairs, lacks_call, out_of_order, ill_formed, names_are_formed, numbers_are_in_range, is_known, is_unknown, is_too_many, breaks_seal, is_few, is_unplaced, is_invalid}
use Rattle.house_model.specs.Headline.{ComesShort}
use Rattle.house_model.specs.Register.{name_pair}
use Rattle.house_model.specs.Reviews.{is_before_assignment}
use Rattle.house_model.specs.Runs.{halt, searches, falls_short, through_assign, looked_at, settles, last_of, end_of}
use Rattle.house_model.specs.Said.{has, phase_after, register, setting, has_pairs, run_pairs}
use Rattle.house_model.specs.Text.{Lines}
use Rattle.house_model.specs.Verbs.{verb_in, verb_number, commands, is_house}
use Rattle.house_model.proofs.HouseLineLemmas.{command_of_house}
use Rattle.house_model.proofs.LateLineLemmas.{none_first, admitted-faultless, faultless-house, before-assign}

-- Where lines are read on behind lines of which none ends the run.

pub stop_after-append : (rule : Rule) (before xs ys : Lines) → stop_after rule before xs ≡ None → stop_after rule before (xs ++ ys) ≡ stop_after rule (before ++ xs) ys
stop_after-append rule before [] ys h = ap (λ zs. stop_after rule zs ys) (sym (append-nil before))
stop_after-append rule before (x ∷ xs) ys h =
    let parts = none_first (rule before x) (λ w. (length before + 1, w)) (stop_after rule (before ++ x ∷ []) xs) h in
    ap (λ o. option_map_or (λ w. Some (length before + 1, w)) o (stop_after rule (before ++ x ∷ []) (xs ++ ys))) parts.0
    ∙ (stop_after-append rule (before ++ x ∷ []) xs ys parts.1 ∙ ap (λ zs. stop_after rule zs ys) (append_assoc before (x ∷ []) xs))

-- lines that come to one that ends the run
pub record Halts (rule : Rule) (before lines : Lines) (why : Halt) : Type 0 where
  pub free : Lines
  pub line : Text
  pub behind : Lines
  pub parts : lines ≡ free ++ line ∷ behind
  pub unstopped : stop_after rule before free ≡ None
  pub halts : rule (before ++ free) line ≡ Some why

here_or_later : (answer : Option Halt) (m n : ℕ) (why : Halt) (rest : Option (ℕ × Halt)) → option_map_or (λ r. Some (m, r)) answer rest ≡ Some (n, why) →
    (answer ≡ Some why) ⊎ ((answer ≡ None) × (rest ≡ Some (n, why)))
here_or_later (Some r) m n why rest h = inl (ap (λ (s : ℕ × Halt). Some s.1) (same_Some (m, r) (n, why) h))
here_or_later None m n why rest h = inr (refl, h)

pub halts-stop_after : (rule : Rule) (before lines : Lines) (n : ℕ) (why : Halt) → stop_after rule before lines ≡ Some (n, why) → Halts rule before lines why
halts-stop_after rule before [] n why h = absurd (cc)
halts-stop_after rule before (x ∷ xs) n why h =
    elim (here_or_later (rule before x) (length before + 1) n why (stop_after rule (before ++ x ∷ []) xs) h) [
      | inl here ↦ record {
        free = [];
        line = x;
        behind = xs;
        parts = refl;
        unstopped = refl;
        halts = ap (λ zs. rule zs x) (append-nil before) ∙ here;
      }
      | inr (none, later) ↦
          let rest = halts-stop_after rule (before ++ x ∷ []) xs n why later in
          record {
            free = x ∷ rest.free;
            line = rest.line;
            behind = rest.behind;
            parts = ap (λ zs. x ∷ zs) rest.parts;
            unstopped = ap (λ o. option_map_or (λ w. Some (length before + 1, w)) o (stop_after rule (before ++ x ∷ []) rest.free)) none ∙ rest.unstopped;
            halts = ap (λ zs. rule zs rest.line) (sym (append_assoc before (x ∷ []) rest.free)) ∙ rest.halts;
          }
    ]

-- An assignment falls short.

assign_number : (v : Verb) → eqb (verb_number v) 7 ≡ true → v ≡ verb.Assign
assign_number verb.Assign h = refl
assign_number v h = absurd (false≢true h)

assigns-number : (line : Text) → verb_in line ≡ verb.Assign → commands verb.Assign line ≡ true
assigns-number line h = ap (λ v. eqb (verb_number v) 7) h

falls_short-parts : (g : Goal) (before : Lines) (v : Verb) → falls_short g before v ≡ true →
    (v ≡ verb.Assign) × (searches g before ≡ true) × (has_assignment (setting before) ≡ false)
falls_short-parts g before verb.Assign h =
    let both = and_parts (searches g before) (not (has_assignment (setting before))) h in
    (refl, both.0, not-true (has_assignment (setting before)) both.1)
falls_short-parts g before v h = absurd (false≢true h)

short_by : (answer : Option Reason) (falls : Bool) → option_map_or (λ r. Some (Halt.Refused r)) answer (cond falls (Some Halt.Short) None) ≡ Some Halt.Short → (answer ≡ None) × (falls ≡ true)
short_by (Some r) falls h = absurd (cc)
short_by None true h = (refl, refl)
short_by None false h = absurd (cc)

short-parts : (g : Goal) (before : Lines) (line : Text) → halt g before line ≡ Some Halt.Short → (fault g before line ≡ None) × (falls_short g before (verb_in line) ≡ true)
unfolding halt
short-parts g before line h = short_by (fault g before line) (falls_short g before (verb_in line)) h

halts_short : (g : Goal) (before : Lines) (line : Text) → commands verb.Assign line ≡ true → fault g before line ≡ None → searches g before ≡ true →
    has_assignment (setting before) ≡ false → halt g before line ≡ Some Halt.Short
unfolding halt
halts_short g before line assigns faultless searched none =
    let falls : falls_short g before (verb_in line) ≡ true =
    ap (falls_short g before) (assign_number (verb_in line) assigns) ∙ and_from (searches g before) (not (has_assignment (setting before))) searched (not_from_false (has_assignment (setting before)) none) in
    ap (λ o. option_map_or (λ r. Some (Halt.Refused r)) o (cond (falls_short g before (verb_in line)) (Some Halt.Short) None)) faultless
    ∙ cond-true (falls_short g before (verb_in line)) (Some Halt.Short) None falls

no_assignment : (before : Lines) → ((pairs : Pairs) → is_valid (setting before) pairs ≡ false) → has_assignment (setting before) ≡ false
no_assignment before none =
    let s = setting before in
    false_from_ne_true (has_assignment s) (λ some. both_ways (is_valid s (first_assignment s)) (none (first_assignment s)) (first_assignment-first s some).valid)

-- A run ends short where its lines come to such an assignment.

never_short : (settled called drawn : Bool) (n : ℕ) →
    cond settled Ended.Settled (cond (not called) (Ended.Refused n reason.NoCall) (cond (not drawn) (Ended.Refused n reason.Unfinished) Ended.Done)) ≡ Ended.Short → ⊥
never_short true called drawn n h = cc
never_short false false drawn n h = cc
never_short false true false n h = cc
never_short false true true n h = cc

last_of-not_short : (g : Goal) (lines : Lines) → last_of g lines ≡ Ended.Short → ⊥
unfolding last_ended
last_of-not_short g lines = never_short (settles g && has verb.Assign lines) (has verb.Call lines) (is_drawn (phase_after lines)) (length lines + 1)

short_stop : (stop : Option (ℕ × Halt)) (last : Ended) → (last ≡ Ended.Short → ⊥) → option_map_or (λ s. halted s.0 s.1) stop last ≡ Ended.Short →
    (n : ℕ) × (stop ≡ Some (n, Halt.Short))
short_stop None last never h = absurd (never h)
short_stop (Some (n, Halt.Refused r)) last never h = absurd (cc)
short_stop (Some (n, Halt.Short)) last never h = (n, refl)

comes_short : (g : Goal) (lines : Lines) → end_of g lines ≡ Ended.Short → ComesShort g (looked_at g lines)
unfolding end_of stop_of
comes_short g lines h =
    let stop = short_stop (stop_after (halt g) [] (looked_at g lines)) (last_of g lines) (last_of-not_short g lines) h in
    let at = halts-stop_after (halt g) [] (looked_at g lines) stop.0 Halt.Short stop.1 in
    let short = short-parts g at.free at.line at.halts in
    let falls = falls_short-parts g at.free (verb_in at.line) short.1 in
    record {
      before = at.free;
      line = at.line;
      behind = at.behind;
      parts = at.parts;
      unstopped = at.unstopped;
      assigns = assigns-number at.line falls.0;
      faultless = short.0;
      searched = falls.1;
      none_valid = has_assignment-none (setting at.free) falls.2;
    }

ends_short : (g : Goal) (lines : Lines) → ComesShort g (looked_at g lines) → end_of g lines ≡ Ended.Short
unfolding end_of stop_of
ends_short g lines at =
    let stops : stop_after (halt g) [] (looked_at g lines) ≡ Some (length at.before + 1, Halt.Short) =
    ap (stop_after (halt g) []) at.parts
    ∙ (stop_after-append (halt g) [] at.before (at.line ∷ at.behind) at.unstopped
    ∙ ap (λ o. option_map_or (λ w. Some (length at.before + 1, w)) o (stop_after (halt g) (at.before ++ at.line ∷ []) at.behind))
    (halts_short g at.before at.line at.assigns at.faultless at.searched (no_assignment at.before at.none_valid))) in
    ap (λ (o : Option (ℕ × Halt)). option_map_or (λ s. halted s.0 s.1) o (last_of g lines)) stops

pub shortage-ends : (g : Goal) (lines : Lines) → (end_of g lines ≡ Ended.Short) ↔ ComesShort g (looked_at g lines)
shortage-ends g lines = (comes_short g lines, ends_short g lines)

-- An assignment that ends no run is valid.

abbrev AllFail : List (Reason × Bool) → Type 0
AllFail [] = Unit {0}
AllFail (r ∷ rs) = (r.1 ≡ false) × AllFail rs

none_fits : (rs : List (Reason × Bool)) → first_of_reasons rs ≡ None → AllFail rs
none_fits [] h = tt
none_fits ((r, true) ∷ rs) h = absurd (cc)
none_fits ((r, false) ∷ rs) h = (refl, none_fits rs h)

faultless-tests : (g : Goal) (before : Lines) (line : Text) → house_fault g before line ≡ None →
    (not (names_are_formed (verb_in line) line) ≡ false) × (breaks_seal before (verb_in line) line ≡ false) × (is_invalid g before (verb_in line) ≡ false)
unfolding house_fault
faultless-tests g before line h =
    let tests = none_fits (
    (reason.NoCall, lacks_call before line)
    ∷ (reason.Order, out_of_order before line)
    ∷ (reason.Form, ill_formed line)
    ∷ (reason.Name, not (names_are_formed (verb_in line) line))
    ∷ (reason.Range, not (numbers_are_in_range before (verb_in line) line))
    ∷ (reason.Known, is_known (register before) (verb_in line) line)
    ∷ (reason.Unknown, is_unknown (register before) (verb_in line) line)
    ∷ (reason.TooMany, is_too_many (register before) (verb_in line) line)
    ∷ (reason.Seal, breaks_seal before (verb_in line) line)
    ∷ (reason.Few, is_few (register before) (verb_in line))
    ∷ (reason.Unplaced, is_unplaced before (verb_in line))
    ∷ (reason.Invalid, is_invalid g before (verb_in line))
    ∷ []) h in
    let from_name = tests.1.1.1 in
    let from_seal = from_name.1.1.1.1.1 in
    (from_name.0, from_seal.0, from_seal.1.1.1.0)

faultless-valid : (g : Goal) (before : Lines) (line : Text) → house_fault g before line ≡ None → is_invalid g before (verb_in line) ≡ false
faultless-valid g before line h = (faultless-tests g before line h).2

-- an accepted line of the house has names of their form
pub accepted-formed_names : (g : Goal) (before : Lines) (line : Text) → is_house line ≡ true → fault g before line ≡ None → names_are_formed (verb_in line) line ≡ true
accepted-formed_names g before line house h =
    not-false (names_are_formed (verb_in line) line) (faultless-tests g before line (faultless-house g before line house h)).0

-- an accepted line of the house keeps to the seal
pub accepted-keeps_seal : (g : Goal) (before : Lines) (line : Text) → is_house line ≡ true → fault g before line ≡ None → breaks_seal before (verb_in line) line ≡ false
accepted-keeps_seal g before line house h = (faultless-tests g before line (faultless-house g before line house h)).1

not_short : (answer : Option Reason) (falls : Bool) → option_map_or (λ r. Some (Halt.Refused r)) answer (cond falls (Some Halt.Short) None) ≡ None → falls ≡ false
not_short (Some r) falls h = absurd (cc)
not_short None true h = absurd (cc)
not_short None false h = refl

made_or_found : (made valid some : Bool) → (made && not valid) ≡ false → (not made && not some) ≡ false →
    ((made ≡ true) × (valid ≡ true)) ⊎ ((made ≡ false) × (some ≡ true))
made_or_found true true some h k = inl (refl, refl)
made_or_found true false some h k = absurd (cc)
made_or_found false valid true h k = inr (refl, refl)
made_or_found false valid false h k = absurd (cc)

pub first_pairs : (before : Lines) → has_pairs before ≡ false → has_assignment (setting before) ≡ true → IsFirst (setting before) (run_pairs before)
unfolding run_pairs
first_pairs before none some =
    cond_both (has_pairs before) (name_pair (register before).pairs (setting before)) (first_assignment (setting before))
    (IsFirst (setting before))
    (λ made. absurd (both_ways (has_pairs before) none made))
    (λ _. first_assignment-first (setting before) some)

valid_pairs : (before : Lines) → (has_pairs before && not (is_valid (setting before) (run_pairs before))) ≡ false →
    (not (has_pairs before) && not (has_assignment (setting before))) ≡ false → is_valid (setting before) (run_pairs before) ≡ true
valid_pairs before sound long =
    elim (made_or_found (has_pairs before) (is_valid (setting before) (run_pairs before)) (has_assignment (setting before)) sound long) [
      | inl (made, valid) ↦ valid
      | inr (none, some) ↦ (first_pairs before none some).valid
    ]

valid_by : (g : Goal) (before : Lines) → looks_at_pairs g ≡ true → is_invalid g before verb.Assign ≡ false → falls_short g before verb.Assign ≡ false →
    is_valid (setting before) (run_pairs before) ≡ true
valid_by goal.Run before looks sound long = valid_pairs before sound long
valid_by goal.Pairs before looks sound long = valid_pairs before sound long
valid_by goal.Feasible before looks sound long = absurd (false≢true looks)

some_by : (g : Goal) (before : Lines) → is_invalid g before verb.Assign ≡ false → falls_short g before verb.Assign ≡ false → has_assignment (setting before) ≡ true
some_by goal.Run before sound long = has_assignment-exact (setting before) (run_pairs before) (valid_pairs before sound long)
some_by goal.Pairs before sound long = has_assignment-exact (setting before) (run_pairs before) (valid_pairs before sound long)
some_by goal.Feasible before sound long = not-false (has_assignment (setting before)) long

module _ (g : Goal) (before : Lines) (line : Text) (assigns : commands verb.Assign line ≡ true) (admitted : halt g before line ≡ None) where
  not_invalid : is_invalid g before verb.Assign ≡ false
  not_invalid =
      ap (is_invalid g before) (sym (assign_number (verb_in line) assigns))
      ∙ faultless-valid g before line (faultless-house g before line (command_of_house verb.Assign (omega arith) line assigns) (admitted-faultless g before line admitted))

  not_fallen : falls_short g before verb.Assign ≡ false
  unfolding halt
  not_fallen =
      ap (falls_short g before) (sym (assign_number (verb_in line) assigns))
      ∙ not_short (fault g before line) (falls_short g before (verb_in line)) admitted

  pub accepted-valid : looks_at_pairs g ≡ true → is_valid (setting before) (run_pairs before) ≡ true
  accepted-valid looks = valid_by g before looks not_invalid not_fallen

  pub accepted-some : has_assignment (setting before) ≡ true
  accepted-some = some_by g before not_invalid not_fallen

  pub accepted-first : has_pairs before ≡ false → IsFirst (setting before) (run_pairs before)
  accepted-first none = first_pairs before none accepted-some

-- What one goal says for another.

runs_as_pairs : (before : Lines) (line : Text) → halt goal.Run before line ≡ halt goal.Pairs before line
unfolding halt fault house_fault
runs_as_pairs before line = refl

feasible-looks_not : (before : Lines) (v : Verb) → is_invalid goal.Feasible before v ≡ false
feasible-looks_not before verb.Assign = refl
feasible-looks_not before v = refl

house_fault-feasible : (before : Lines) (line : Text) → house_fault goal.Pairs before line ≡ None → house_fault goal.Feasible before line ≡ None
unfolding house_fault
house_fault-feasible before line h =
    ap (λ invalid. first_of_reasons (
    (reason.NoCall, lacks_call before line)
    ∷ (reason.Order, out_of_order before line)
    ∷ (reason.Form, ill_formed line)
    ∷ (reason.Name, not (names_are_formed (verb_in line) line))
    ∷ (reason.Range, not (numbers_are_in_range before (verb_in line) line))
    ∷ (reason.Known, is_known (register before) (verb_in line) line)
    ∷ (reason.Unknown, is_unknown (register before) (verb_in line) line)
    ∷ (reason.TooMany, is_too_many (register before) (verb_in line) line)
    ∷ (reason.Seal, breaks_seal before (verb_in line) line)
    ∷ (reason.Few, is_few (register before) (verb_in line))
    ∷ (reason.Unplaced, is_unplaced before (verb_in line))
    ∷ (reason.Invalid, invalid)
    ∷ [])) (feasible-looks_not before (verb_in line) ∙ sym (faultless-valid goal.Pairs before line h))
    ∙ h

fault-feasible : (before : Lines) (line : Text) → fault goal.Pairs before line ≡ None → fault goal.Feasible before line ≡ None
unfolding fault
fault-feasible before line h =
    cond_both (is_house line) (house_fault goal.Feasible before line) None (λ answer. answer ≡ None)
    (λ house. house_fault-feasible before line (faultless-house goal.Pairs before line house h))
    (λ _. refl)

falls_short-other : (g : Goal) (before : Lines) (v : Verb) → eqb (verb_number v) 7 ≡ false → falls_short g before v ≡ false
falls_short-other g before verb.Assign h = absurd (true≢false h)
falls_short-other g before v h = refl

falls_short-feasible : (before : Lines) (line : Text) → halt goal.Pairs before line ≡ None → falls_short goal.Feasible before (verb_in line) ≡ false
falls_short-feasible before line h =
    elim (cases_Bool (commands verb.Assign line)) [
      | inl assigns ↦
          ap (falls_short goal.Feasible before) (assign_number (verb_in line) assigns)
          ∙ not_from_true (has_assignment (setting before)) (accepted-some goal.Pairs before line assigns h)
      | inr other ↦ falls_short-other goal.Feasible before (verb_in line) other
    ]

halt-feasible : (before : Lines) (line : Text) → halt goal.Pairs before line ≡ None → halt goal.Feasible before line ≡ None
unfolding halt
halt-feasible before line h =
    ap (λ o. option_map_or (λ r. Some (Halt.Refused r)) o (cond (falls_short goal.Feasible before (verb_in line)) (Some Halt.Short) None))
    (fault-feasible before line (admitted-faultless goal.Pairs before line h))
    ∙ cond-false (falls_short goal.Feasible before (verb_in line)) (Some Halt.Short) None (falls_short-feasible before line h)

-- a rule that ends no run that another one does not end
unstopped-by : (rule other : Rule) → ((before : Lines) (line : Text) → rule before line ≡ None → other before line ≡ None) →
    (before lines : Lines) → stop_after rule before lines ≡ None → stop_after other before lines ≡ None
unstopped-by rule other h before [] free = refl
unstopped-by rule other h before (line ∷ lines) free =
    let parts = none_first (rule before line) (λ w. (length before + 1, w)) (stop_after rule (before ++ line ∷ []) lines) free in
    ap (λ o. option_map_or (λ w. Some (length before + 1, w)) o (stop_after other (before ++ line ∷ []) lines)) (h before line parts.0)
    ∙ unstopped-by rule other h (before ++ line ∷ []) lines parts.1

unstopped-through : (rule : Rule) (before lines : Lines) → stop_after rule before lines ≡ None → stop_after rule before (through_assign lines) ≡ None
unstopped-through rule before [] free = refl
unstopped-through rule before (line ∷ lines) free =
    let parts = none_first (rule before line) (λ w. (length before + 1, w)) (stop_after rule (before ++ line ∷ []) lines) free in
    cond_both (commands verb.Assign line) [] (through_assign lines) (λ more. stop_after rule before (line ∷ more) ≡ None)
    (λ _. ap (λ o. option_map_or (λ w. Some (length before + 1, w)) o None) parts.0)
    (λ _.
    ap (λ o. option_map_or (λ w. Some (length before + 1, w)) o (stop_after rule (before ++ line ∷ []) (through_assign lines))) parts.0
    ∙ unstopped-through rule (before ++ line ∷ []) lines parts.1)

never_settled : (settled called drawn : Bool) (n : ℕ) →
    cond settled Ended.Settled (cond (not called) (Ended.Refused n reason.NoCall) (cond (not drawn) (Ended.Refused n reason.Unfinished) Ended.Done)) ≡ Ended.Settled → settled ≡ true
never_settled true called drawn n h = refl
never_settled false false drawn n h = absurd (cc)
never_settled false true false n h = absurd (cc)
never_settled false true true n h = absurd (cc)

settled_stop : (stop : Option (ℕ × Halt)) (last : Ended) → option_map_or (λ s. halted s.0 s.1) stop last ≡ Ended.Settled → (stop ≡ None) × (last ≡ Ended.Settled)
settled_stop None last h = (refl, h)
settled_stop (Some (n, Halt.Refused r)) last h = absurd (cc)
settled_stop (Some (n, Halt.Short)) last h = absurd (cc)

-- what is settled goes on to its assignment without a stop
pub settled-parts : (g : Goal) (lines : Lines) → end_of g lines ≡ Ended.Settled → (stop_after (halt g) [] (looked_at g lines) ≡ None) × ((settles g && has verb.Assign lines) ≡ true)
unfolding end_of stop_of last_ended
settled-parts g lines h =
    let parts = settled_stop (stop_after (halt g) [] (looked_at g lines)) (last_of g lines) h in
    (parts.0, never_settled (settles g && has verb.Assign lines) (has verb.Call lines) (is_drawn (phase_after lines)) (length lines + 1) parts.1)

pub settled-from : (g : Goal) (lines : Lines) → stop_after (halt g) [] (looked_at g lines) ≡ None → (settles g && has verb.Assign lines) ≡ true → end_of g lines ≡ Ended.Settled
unfolding end_of stop_of
settled-from g lines free assigns =
    ap (λ (o : Option (ℕ × Halt)). option_map_or (λ s. halted s.0 s.1) o (last_of g lines)) free
    ∙ cond-true (settles g && has verb.Assign lines) Ended.Settled (last_ended lines) assigns

pub done_by : (stop : Option (ℕ × Halt)) (called drawn : Bool) (n : ℕ) →
    option_map_or (λ s. halted s.0 s.1) stop (cond (not called) (Ended.Refused n reason.NoCall) (cond (not drawn) (Ended.Refused n reason.Unfinished) Ended.Done)) ≡ Ended.Done →
    (stop ≡ None) × (drawn ≡ true)
done_by None true true n h = (refl, refl)
done_by None true false n h = absurd (cc)
done_by None false drawn n h = absurd (cc)
done_by (Some (m, Halt.Refused r)) called drawn n h = absurd (cc)
done_by (Some (m, Halt.Short)) called drawn n h = absurd (cc)

drawn_late : (p : Phase) → is_drawn p ≡ true → is_before_assignment p ≡ false
drawn_late phase.Drawn h = refl
drawn_late p h = absurd (false≢true h)

pub done-parts : (lines : Lines) → end_of goal.Run lines ≡ Ended.Done → (stop_after (halt goal.Run) [] lines ≡ None) × (has verb.Assign lines ≡ true)
unfolding end_of stop_of last_ended
done-parts lines h =
    let parts = done_by (stop_after (halt goal.Run) [] lines) (has verb.Call lines) (is_drawn (phase_after lines)) (length lines + 1) h in
    (parts.0, not-false (has verb.Assign lines) (sym (before-assign lines) ∙ drawn_late (phase_after lines) parts.1))

-- a call whose report is printed has pairs, and one that has pairs is feasible
pub pairs-of_done : (lines : Lines) → end_of goal.Run lines ≡ Ended.Done → end_of goal.Pairs lines ≡ Ended.Settled
pairs-of_done lines h =
    let parts = done-parts lines h in
    settled-from goal.Pairs lines
    (unstopped-through (halt goal.Pairs) [] lines (unstopped-by (halt goal.Run) (halt goal.Pairs) (λ before line free. sym (runs_as_pairs before line) ∙ free) [] lines parts.0))
    parts.1

pub feasible-of_pairs : (lines : Lines) → end_of goal.Pairs lines ≡ Ended.Settled → end_of goal.Feasible lines ≡ Ended.Settled
feasible-of_pairs lines h =
    let parts = settled-parts goal.Pairs lines h in
    settled-from goal.Feasible lines (unstopped-by (halt goal.Pairs) (halt goal.Feasible) halt-feasible [] (through_assign lines) parts.0) parts.1
