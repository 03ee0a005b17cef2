-- A draw keeps to the seal.
use Rattle.std.proofs.Common.{◌≡◌, ℕ, ◌+◌, ◌⊎◌, Bool, true, false, not, ◌||◌, cond, eqb, List, [], ◌∷◌, ◌++◌, length, find, Option, Some, None, is_some, refl, sym, ap, ◌∙◌, inl, inr, arith, append-nil, append_assoc}
use Rattle.std.specs.List.{list_any}
use Rattle.std.specs.Option.{option_map_or, is_none}
use Rattle.std.specs.Str.{bytes_eq}
use Rattle.std.proofs.lemmas.Bool.{true≢false, false≢true, cases_Bool, both_ways, cond-true, cond-false, not-false}
use Rattle.std.proofs.lemmas.Option.{same_Some}
use Rattle.house_base.specs.declared.phase.Phase.{Phase}
use Rattle.house_base.specs.declared.phase.Phase.TheVariants as phase
use Rattle.house_base.specs.Text.{Text}
use Rattle.house_base.proofs.AmongLemmas.{same_text}
use Rattle.house_model.specs.declared.goal.Goal.{Goal}
use Rattle.house_model.specs.declared.goal.Goal.TheVariants as goal
use Rattle.house_model.specs.declared.verb.Verb.{Verb}
use Rattle.house_model.specs.declared.verb.Verb.TheVariants as verb
use Rattle.house_model.specs.Ending.{Rule, Ended, stop_after, stop_of, last_ended, is_drawn}
use Rattle.house_model.specs.Faults.{fault, breaks_seal}
use Rattle.house_model.specs.Headline.{IsDrawnUnder}
use Rattle.house_model.specs.Reviews.{is_before_assignment}
use Rattle.house_model.specs.Runs.{halt, end_of}
use Rattle.house_model.specs.Said.{has, phase_after, number, register, denominator_of, seal_of, draw_of}
use Rattle.house_model.specs.Seeds.{seed_draw, seed_seal}
use Rattle.house_model.specs.Text.{Lines, word}
use Rattle.house_model.specs.Verbs.{verb_in, verb_number, commands, is_house, allows}
use Rattle.house_model.proofs.HouseLineLemmas.{command_of_house}
use Rattle.house_model.proofs.LateLineLemmas.{none_first, admitted-faultless, faultless-house, in_order, allowed, record-kept}
use Rattle.house_model.proofs.RunEndLemmas.{accepted-keeps_seal, done_by}

draw_number : (v : Verb) → eqb (verb_number v) 9 ≡ true → v ≡ verb.Draw
draw_number verb.Draw h = refl
draw_number v h = absurd (false≢true h)

lottery_number : (v : Verb) → eqb (verb_number v) 10 ≡ true → v ≡ verb.Lottery
lottery_number verb.Lottery h = refl
lottery_number v h = absurd (false≢true h)

unsealed : (o : Option (List ℕ)) → is_some o ≡ false → o ≡ None
unsealed None h = refl
unsealed (Some x) h = absurd (true≢false h)

module _ (g : Goal) (before : Lines) (line : Text) (faultless : fault g before line ≡ None) where
  -- no draw by number comes under a seal
  pub draw-unsealed : commands verb.Draw line ≡ true → seal_of before ≡ None
  draw-unsealed draws =
      unsealed (seal_of before) (ap (λ v. breaks_seal before v line) (sym (draw_number (verb_in line) draws))
      ∙ accepted-keeps_seal g before line (command_of_house verb.Draw (omega arith) line draws) faultless)

  -- and no lottery whose seed has another one
  pub lottery-sealed : (seal : List ℕ) → commands verb.Lottery line ≡ true → seal_of before ≡ Some seal → seed_seal (word line 1) ≡ seal
  lottery-sealed seal draws sealed =
      let keeps : breaks_seal before verb.Lottery line ≡ false =
      ap (λ v. breaks_seal before v line) (sym (lottery_number (verb_in line) draws)) ∙ accepted-keeps_seal g before line (command_of_house verb.Lottery (omega arith) line draws) faultless in
      same_text (seed_seal (word line 1)) seal (not-false (bytes_eq (seed_seal (word line 1)) seal)
      (ap (λ (o : Option (List ℕ)). option_map_or (λ s. not (bytes_eq (seed_seal (word line 1)) s)) o false) (sym sealed) ∙ keeps))

-- The lines before and behind a line that is found.

pub record Stands (test : Text → Bool) (lines : Lines) (line : Text) : Type 0 where
  pub before : Lines
  pub behind : Lines
  pub parts : before ++ line ∷ behind ≡ lines
  pub passes : test line ≡ true

found-here : (passes : Bool) (x line : Text) (rest : Option Text) → cond passes (Some x) rest ≡ Some line → ((passes ≡ true) × (x ≡ line)) ⊎ (rest ≡ Some line)
found-here true x line rest h = inl (refl, same_Some x line h)
found-here false x line rest h = inr h

found-stands : (test : Text → Bool) (lines : Lines) (line : Text) → find test lines ≡ Some line → Stands test lines line
found-stands test [] line h = absurd (cc)
found-stands test (x ∷ xs) line h =
    elim (found-here (test x) x line (find test xs) h) [
      | inl (passes, same) ↦ record { before = []; behind = xs; parts = ap (λ y. y ∷ xs) (sym same); passes = ap test (sym same) ∙ passes }
      | inr later ↦
          let rest = found-stands test xs line later in
          record { before = x ∷ rest.before; behind = rest.behind; parts = ap (λ ys. x ∷ ys) rest.parts; passes = rest.passes }
    ]

pub unstopped-behind : (rule : Rule) (before xs ys : Lines) → stop_after rule before (xs ++ ys) ≡ None → stop_after rule (before ++ xs) ys ≡ None
unstopped-behind rule before [] ys h = ap (λ zs. stop_after rule zs ys) (append-nil before) ∙ h
unstopped-behind rule before (x ∷ xs) ys h =
    let parts = none_first (rule before x) (λ w. (length before + 1, w)) (stop_after rule (before ++ x ∷ []) (xs ++ ys)) h in
    ap (λ zs. stop_after rule zs ys) (sym (append_assoc before (x ∷ []) xs)) ∙ unstopped-behind rule (before ++ x ∷ []) xs ys parts.1

late_draw : (p : Phase) → allows p verb.Draw ≡ true → is_before_assignment p ≡ false
late_draw phase.Opening h = absurd (false≢true h)
late_draw p h = refl

late_lottery : (p : Phase) → allows p verb.Lottery ≡ true → is_before_assignment p ≡ false
late_lottery phase.Opening h = absurd (false≢true h)
late_lottery p h = refl

-- In lines of which none ends the run, a line that draws stands behind the seal of all of them.
module _ (lines : Lines) (free : stop_after (halt goal.Run) [] lines ≡ None) (line : Text) (test : Text → Bool) (at : Stands test lines line) where
  free_here : stop_after (halt goal.Run) at.before (line ∷ at.behind) ≡ None
  free_here = unstopped-behind (halt goal.Run) [] at.before (line ∷ at.behind) (ap (stop_after (halt goal.Run) []) at.parts ∙ free)

  pub faultless_here : fault goal.Run at.before line ≡ None
  faultless_here =
      admitted-faultless goal.Run at.before line
      (none_first (halt goal.Run at.before line) (λ w. (length at.before + 1, w)) (stop_after (halt goal.Run) (at.before ++ line ∷ []) at.behind) free_here).0

  pub seal_here : is_house line ≡ true → (allows (phase_after at.before) (verb_in line) ≡ true → is_before_assignment (phase_after at.before) ≡ false) →
      seal_of at.before ≡ seal_of lines
  seal_here house late =
      let order = in_order goal.Run at.before line (faultless-house goal.Run at.before line house faultless_here) in
      (record-kept goal.Run at.before (line ∷ at.behind) (late (allowed at.before line order.0)) (ap is_none free_here)).seal ∙ ap seal_of at.parts

some_or_none : {A : Type 0} (o : Option A) → ((x : A) × (o ≡ Some x)) ⊎ (o ≡ None)
some_or_none (Some x) = inl (x, refl)
some_or_none None = inr refl

drawn_by : (assigned closed draws : Bool) → is_drawn (cond (not assigned) phase.Opening (cond (not closed) phase.Reviewing (cond (not draws) phase.Closed phase.Drawn))) ≡ true → draws ≡ true
drawn_by true true true h = refl
drawn_by true true false h = absurd (false≢true h)
drawn_by true false draws h = absurd (false≢true h)
drawn_by false closed draws h = absurd (false≢true h)

drawn-has : (lines : Lines) → is_drawn (phase_after lines) ≡ true → (has verb.Draw lines || has verb.Lottery lines) ≡ true
unfolding phase_after
drawn-has lines h = drawn_by (has verb.Assign lines) (has verb.Close lines) (has verb.Draw lines || has verb.Lottery lines) h

none_some : {A : Type 0} (x : A) → Some x ≡ None → ⊥
none_some x h = cc

none-any : (test : Text → Bool) (lines : Lines) → find test lines ≡ None → list_any test lines ≡ false
none-any test [] h = refl
none-any test (x ∷ xs) h =
    elim (cases_Bool (test x)) [
      | inl passes ↦ absurd (none_some x (sym (cond-true (test x) (Some x) (find test xs) passes) ∙ h))
      | inr fails ↦ ap (λ b. b || list_any test xs) fails ∙ none-any test xs (sym (cond-false (test x) (Some x) (find test xs) fails) ∙ h)
    ]

none-has : (v : Verb) (lines : Lines) → find (commands v) lines ≡ None → has v lines ≡ false
unfolding has
none-has v lines h = none-any (commands v) lines h

-- A call with a seal that is done has the draw of a seed with that seal.

module _ (lines : Lines) (seal : List ℕ) (free : stop_after (halt goal.Run) [] lines ≡ None) (sealed : seal_of lines ≡ Some seal) where
  no_draw : (line : Text) → find (commands verb.Draw) lines ≡ Some line → ⊥
  no_draw line found =
      let at = found-stands (commands verb.Draw) lines line found in
      let faultless = faultless_here lines free line (commands verb.Draw) at in
      let late = λ (ok : allows (phase_after at.before) (verb_in line) ≡ true).
      late_draw (phase_after at.before) (ap (allows (phase_after at.before)) (sym (draw_number (verb_in line) at.passes)) ∙ ok) in
      let here = seal_here lines free line (commands verb.Draw) at (command_of_house verb.Draw (omega arith) line at.passes) late in
      none_some seal (sym (here ∙ sealed) ∙ draw-unsealed goal.Run at.before line faultless at.passes)

  seed_of_seal : (line : Text) → find (commands verb.Lottery) lines ≡ Some line → seed_seal (word line 1) ≡ seal
  seed_of_seal line found =
      let at = found-stands (commands verb.Lottery) lines line found in
      let late = λ (ok : allows (phase_after at.before) (verb_in line) ≡ true).
      late_lottery (phase_after at.before) (ap (allows (phase_after at.before)) (sym (lottery_number (verb_in line) at.passes)) ∙ ok) in
      let here = seal_here lines free line (commands verb.Lottery) at (command_of_house verb.Lottery (omega arith) line at.passes) late in
      lottery-sealed goal.Run at.before line (faultless_here lines free line (commands verb.Lottery) at) seal at.passes (here ∙ sealed)

  undrawn : find (commands verb.Draw) lines ≡ None
  undrawn = elim (some_or_none (find (commands verb.Draw) lines)) [ inl (line, found) ↦ absurd (no_draw line found) | inr none ↦ none ]

  a_lottery : is_drawn (phase_after lines) ≡ true → has verb.Lottery lines ≡ true
  a_lottery drawn = ap (λ b. b || has verb.Lottery lines) (sym (none-has verb.Draw lines undrawn)) ∙ drawn-has lines drawn

  drawn_under : is_drawn (phase_after lines) ≡ true → IsDrawnUnder seal lines
  unfolding draw_of
  drawn_under drawn =
      elim (some_or_none (find (commands verb.Lottery) lines)) [
        | inl (line, found) ↦ record {
          seed = word line 1;
          keeps = seed_of_seal line found;
          draws =
              let den = denominator_of (register lines) in
              ap (λ (o : Option Text). option_map_or (λ l. number (word l 1)) o (option_map_or (λ l. seed_draw (word l 1) den) (find (commands verb.Lottery) lines) 0)) undrawn
              ∙ ap (λ (o : Option Text). option_map_or (λ l. seed_draw (word l 1) den) o 0) found;
        }
        | inr none ↦ absurd (both_ways (has verb.Lottery lines) (none-has verb.Lottery lines none) (a_lottery drawn))
      ]

pub drawn-under : (lines : Lines) (seal : List ℕ) → end_of goal.Run lines ≡ Ended.Done → seal_of lines ≡ Some seal → IsDrawnUnder seal lines
unfolding end_of stop_of last_ended
drawn-under lines seal h sealed =
    let parts = done_by (stop_after (halt goal.Run) [] lines) (has verb.Call lines) (is_drawn (phase_after lines)) (length lines + 1) h in
    drawn_under lines seal parts.0 sealed parts.1
