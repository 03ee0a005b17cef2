-- After the assignment no line that is not refused puts anything on record.
use Rattle.std.proofs.Common.{◌≡◌, ℕ, ◌+◌, ◌<◌, Bool, true, false, not, ◌||◌, cond, eqb, List, [], ◌∷◌, ◌++◌, length, filter, find, Option, Some, None, refl, sym, ap, ◌∙◌, inl, inr, arith, append-nil, append_assoc}
use Rattle.std.specs.List.{list_any}
use Rattle.std.specs.Option.{option_map, option_map_or, option_or, is_none}
use Rattle.std.proofs.lemmas.Bool.{true≢false, false≢true, cases_Bool, or_parts, or_left, cond-true, cond-false, eqb-true, false_from_ne_true, not-false, not_from_true}
use Rattle.std.proofs.lemmas.List.Elements.{filter-append}
use Rattle.std.proofs.lemmas.List.Folds.{find-append, list_any-append}
use Rattle.house_base.specs.declared.answer.Reason.{Reason}
use Rattle.house_base.specs.declared.answer.Reason.TheVariants as reason
use Rattle.house_base.specs.declared.phase.Phase.{Phase}
use Rattle.house_base.specs.declared.phase.Phase.TheVariants as phase
use Rattle.house_base.specs.Text.{Text}
use Rattle.house_model.specs.declared.goal.Goal.{Goal}
use Rattle.house_model.specs.declared.goal.Goal.TheVariants as goal
use Rattle.house_model.specs.declared.verb.Verb.{Verb}
use Rattle.house_model.specs.declared.verb.Verb.TheVariants as verb
use Rattle.house_model.specs.Ending.{Halt, stop_after}
use Rattle.house_model.specs.Faults.{fault, house_fault, first_of_reasons, out_of_order, ill_formed, comes_again, digest_is_formed, lacks_call, names_are_formed, numbers_are_in_range, is_known, is_unknown, is_too_many, breaks_seal, is_few, is_unplaced, is_invalid}
use Rattle.house_model.specs.Reviews.{is_before_assignment}
use Rattle.house_model.specs.Said.{has, those, phase_after, call_number, number, register, seed_of, seal_of, spelled, setting, has_pairs, run_pairs, assigned}
use Rattle.house_model.specs.Text.{Lines, words, word}
use Rattle.house_model.specs.Runs.{halt, falls_short}
use Rattle.house_model.specs.Verbs.{verb_in, verb_number, commands, is_house, has_count, allows}
use Rattle.house_model.proofs.HouseLineLemmas.{no_command, no_house_other}

late_verb : (p : Phase) (v : Verb) (n : ℕ) → is_before_assignment p ≡ false → allows p v ≡ true → has_count v n ≡ true → 7 < verb_number v
late_verb phase.Opening v n late allowed counts = absurd (true≢false late)
late_verb p verb.Close n late allowed counts = omega arith
late_verb p verb.Draw n late allowed counts = omega arith
late_verb p verb.Lottery n late allowed counts = omega arith
late_verb p verb.Other n late allowed counts = absurd (false≢true counts)
late_verb phase.Reviewing v n late allowed counts = absurd (false≢true allowed)
late_verb phase.Closed v n late allowed counts = absurd (false≢true allowed)
late_verb phase.Drawn v n late allowed counts = absurd (false≢true allowed)

-- a line that puts nothing on record
abbrev pub SaysNothing : Text → Type 0
SaysNothing line = (v : Verb) → verb_number v < 7 → commands v line ≡ false

first_three : (a b c : Bool) (rest : List (Reason × Bool)) → first_of_reasons ((reason.NoCall, a) ∷ (reason.Order, b) ∷ (reason.Form, c) ∷ rest) ≡ None → (b ≡ false) × (c ≡ false)
first_three true b c rest h = absurd (cc)
first_three false true c rest h = absurd (cc)
first_three false false true rest h = absurd (cc)
first_three false false false rest h = (refl, refl)

pub none_first : {X Y : Type 0} (answer : Option X) (f : X → Y) (rest : Option Y) → option_map_or (λ r. Some (f r)) answer rest ≡ None → (answer ≡ None) × (rest ≡ None)
none_first (Some x) f rest h = absurd (cc)
none_first None f rest h = (refl, h)

-- a line that does not end the run has no fault
pub admitted-faultless : (g : Goal) (before : Lines) (line : Text) → halt g before line ≡ None → fault g before line ≡ None
unfolding halt
admitted-faultless g before line h =
    (none_first (fault g before line) Halt.Refused (cond (falls_short g before (verb_in line)) (Some Halt.Short) None) h).0

pub faultless-house : (g : Goal) (before : Lines) (line : Text) → is_house line ≡ true → fault g before line ≡ None → house_fault g before line ≡ None
unfolding fault
faultless-house g before line house h = sym (cond-true (is_house line) (house_fault g before line) None house) ∙ h

pub in_order : (g : Goal) (before : Lines) (line : Text) → house_fault g before line ≡ None → (out_of_order before line ≡ false) × (ill_formed line ≡ false)
unfolding house_fault
in_order g before line h = first_three (lacks_call before line) (out_of_order before line) (ill_formed line) (
    (reason.Name, not (names_are_formed (verb_in line) line))
    ∷ (reason.Range, not (numbers_are_in_range before (verb_in line) line))
    ∷ (reason.Known, is_known (register before) (verb_in line) line)
    ∷ (reason.Unknown, is_unknown (register before) (verb_in line) line)
    ∷ (reason.TooMany, is_too_many (register before) (verb_in line) line)
    ∷ (reason.Seal, breaks_seal before (verb_in line) line)
    ∷ (reason.Few, is_few (register before) (verb_in line))
    ∷ (reason.Unplaced, is_unplaced before (verb_in line))
    ∷ (reason.Invalid, is_invalid g before (verb_in line))
    ∷ []) h

pub allowed : (before : Lines) (line : Text) → out_of_order before line ≡ false → allows (phase_after before) (verb_in line) ≡ true
unfolding out_of_order
allowed before line h = not-false (allows (phase_after before) (verb_in line)) (or_parts (not (allows (phase_after before) (verb_in line))) (comes_again before (verb_in line)) h).0

pub formed : (line : Text) → ill_formed line ≡ false → has_count (verb_in line) (length (words line)) ≡ true
unfolding ill_formed
formed line h = not-false (has_count (verb_in line) (length (words line))) (or_parts (not (has_count (verb_in line) (length (words line)))) (not (digest_is_formed (verb_in line) line)) h).0

admitted-says_nothing : (g : Goal) (before : Lines) (line : Text) → is_before_assignment (phase_after before) ≡ false → halt g before line ≡ None → SaysNothing line
admitted-says_nothing g before line late admitted v l =
    elim (cases_Bool (is_house line)) [
      | inl house ↦
          let both = in_order g before line (faultless-house g before line house (admitted-faultless g before line admitted)) in
          let high = late_verb (phase_after before) (verb_in line) (length (words line)) late (allowed before line both.0) (formed line both.1) in
          false_from_ne_true (eqb (verb_number (verb_in line)) (verb_number v)) (λ e. absurd (omega (arith, high, eqb-true (verb_number (verb_in line)) (verb_number v) e)))
      | inr outside ↦ no_command v line (omega arith) (no_house_other line outside)
    ]

-- Two lists that put the same on record.
pub record HaveSameRecord (a b : Lines) : Type 0 where
  pub register : register a ≡ register b
  pub call : (i : ℕ) → call_number a i ≡ call_number b i
  pub seed : seed_of a ≡ seed_of b
  pub seal : seal_of a ≡ seal_of b

or_none : {X : Type 0} (o : Option X) → option_or o None ≡ o
or_none None = refl
or_none (Some x) = refl

module _ (before : Lines) (line : Text) (nothing : SaysNothing line) where
  those-push : (v : Verb) → verb_number v < 7 → those v before ≡ those v (before ++ line ∷ [])
  unfolding those
  those-push v l =
      sym (filter-append (commands v) before (line ∷ [])
      ∙ (ap (λ xs. filter (commands v) before ++ xs) (cond-false (commands v line) (line ∷ []) [] (nothing v l)) ∙ append-nil (filter (commands v) before)))

  find-push : (v : Verb) → verb_number v < 7 → find (commands v) before ≡ find (commands v) (before ++ line ∷ [])
  find-push v l =
      sym (find-append (commands v) before (line ∷ [])
      ∙ (ap (λ o. option_or (find (commands v) before) o) (cond-false (commands v line) (Some line) None (nothing v l)) ∙ or_none (find (commands v) before)))

  register-push : register before ≡ register (before ++ line ∷ [])
  unfolding register
  register-push =
      rw (those-push verb.Applicant (omega arith), those-push verb.Place (omega arith), those-push verb.Conflict (omega arith), those-push verb.Pair (omega arith)) refl

  call_number-push : (i : ℕ) → call_number before i ≡ call_number (before ++ line ∷ []) i
  unfolding call_number
  call_number-push i = ap (λ o. option_map_or (λ line. number (word line i)) o 0) (find-push verb.Call (omega arith))

  seed_of-push : seed_of before ≡ seed_of (before ++ line ∷ [])
  unfolding seed_of
  seed_of-push = ap (option_map (λ line. word line 1)) (find-push verb.Partition (omega arith))

  seal_of-push : seal_of before ≡ seal_of (before ++ line ∷ [])
  unfolding seal_of
  seal_of-push = ap (option_map (λ line. spelled (word line 1))) (find-push verb.Seal (omega arith))

  -- a line that says nothing leaves the record
  pub record-push : HaveSameRecord before (before ++ line ∷ [])
  record-push = record { register = register-push; call = call_number-push; seed = seed_of-push; seal = seal_of-push }

before_by : (assigned closed drawn : Bool) →
    is_before_assignment (cond (not assigned) phase.Opening (cond (not closed) phase.Reviewing (cond (not drawn) phase.Closed phase.Drawn))) ≡ not assigned
before_by false closed drawn = refl
before_by true false drawn = refl
before_by true true false = refl
before_by true true true = refl

pub before-assign : (lines : Lines) → is_before_assignment (phase_after lines) ≡ not (has verb.Assign lines)
unfolding phase_after
before-assign lines = before_by (has verb.Assign lines) (has verb.Close lines) (has verb.Draw lines || has verb.Lottery lines)

has-kept : (v : Verb) (lines : Lines) (line : Text) → has v lines ≡ true → has v (lines ++ line ∷ []) ≡ true
unfolding has
has-kept v lines line h = list_any-append (commands v) lines (line ∷ []) ∙ or_left (list_any (commands v) lines) (list_any (commands v) (line ∷ [])) h

late-kept : (before : Lines) (line : Text) → is_before_assignment (phase_after before) ≡ false → is_before_assignment (phase_after (before ++ line ∷ [])) ≡ false
late-kept before line late =
    let had = not-false (has verb.Assign before) (sym (before-assign before) ∙ late) in
    before-assign (before ++ line ∷ []) ∙ not_from_true (has verb.Assign (before ++ line ∷ [])) (has-kept verb.Assign before line had)

pub admitted_parts : {X Y : Type 0} (answer : Option X) (f : X → Y) (rest : Option Y) → is_none (option_map_or (λ r. Some (f r)) answer rest) ≡ true → (answer ≡ None) × (is_none rest ≡ true)
admitted_parts (Some x) f rest h = absurd (false≢true h)
admitted_parts None f rest h = (refl, h)

-- from the assignment on the record stays
pub record-kept : (g : Goal) (before lines : Lines) → is_before_assignment (phase_after before) ≡ false → is_none (stop_after (halt g) before lines) ≡ true → HaveSameRecord before (before ++ lines)
record-kept g before [] late admitted =
    let whole = sym (append-nil before) in
    record { register = ap register whole; call = λ i. ap (λ xs. call_number xs i) whole; seed = ap seed_of whole; seal = ap seal_of whole }
record-kept g before (line ∷ lines) late admitted =
    let parts = admitted_parts (halt g before line) (λ r. (length before + 1, r)) (stop_after (halt g) (before ++ line ∷ []) lines) admitted in
    let nothing = admitted-says_nothing g before line late parts.0 in
    let rest = record-kept g (before ++ line ∷ []) lines (late-kept before line late) parts.1 in
    let whole = append_assoc before (line ∷ []) lines in
    record {
      register = register-push before line nothing ∙ (rest.register ∙ ap register whole);
      call = λ i. call_number-push before line nothing i ∙ (rest.call i ∙ ap (λ xs. call_number xs i) whole);
      seed = seed_of-push before line nothing ∙ (rest.seed ∙ ap seed_of whole);
      seal = seal_of-push before line nothing ∙ (rest.seal ∙ ap seal_of whole);
    }

pub setting-record : (a b : Lines) → HaveSameRecord a b → setting a ≡ setting b
unfolding setting
setting-record a b same = rw (same.seed, same.call 1, same.call 2, same.call 3, same.register) refl

pub has_pairs-record : (a b : Lines) → HaveSameRecord a b → has_pairs a ≡ has_pairs b
unfolding has_pairs
has_pairs-record a b same = rw same.register refl

pub run_pairs-record : (a b : Lines) → HaveSameRecord a b → run_pairs a ≡ run_pairs b
unfolding run_pairs has_pairs
run_pairs-record a b same = rw (same.register, setting-record a b same) refl

pub assigned-record : (g : Goal) (a b : Lines) → HaveSameRecord a b → assigned g a ≡ assigned g b
assigned-record goal.Run a b same = run_pairs-record a b same
assigned-record goal.Pairs a b same = run_pairs-record a b same
assigned-record goal.Feasible a b same = refl
