-- What lines say depends on the lines of the house alone.
use Rattle.std.proofs.Common.{◌≡◌, ℕ, ◌<◌, Bool, true, false, not, ◌||◌, cond, eqb, List, [], ◌∷◌, ◌++◌, filter, find, Some, refl, sym, ap, ◌∙◌, inl, inr, arith, append-nil}
use Rattle.std.specs.Prelude.{slice_get, slice_index, codes}
use Rattle.std.specs.List.{list_any}
use Rattle.std.specs.Option.{option_map, option_map_or}
use Rattle.std.proofs.lemmas.Bool.{both_ways, or_cases, and_right, cond-false, cond_both, eqb-true, false_from_ne_true, not_from_true, and_cases, not-false, not_from_false, cases_Bool}
use Rattle.std.proofs.lemmas.List.Elements.{filter-append}
use Rattle.house_base.specs.Text.{Text}
use Rattle.house_base.proofs.AmongLemmas.{same_text}
use Rattle.house_model.specs.declared.goal.Goal.{Goal}
use Rattle.house_model.specs.declared.goal.Goal.TheVariants as goal
use Rattle.house_model.specs.declared.verb.Verb.{Verb}
use Rattle.house_model.specs.declared.verb.Verb.TheVariants as verb
use Rattle.house_model.specs.Text.{Lines, words, word, is_blank, is_empty}
use Rattle.house_model.specs.Verbs.{verb_of, verb_in, verb_number, commands, is_review, is_house}
use Rattle.house_model.specs.Said.{has, those, phase_after, call_number, number, register, seed_of, seal_of, spelled, draw_of, setting, has_pairs, run_pairs, assigned}
use Rattle.house_model.specs.Reviews.{kind_of, kind_tests}
use Rattle.house_model.specs.Isolation.{HaveSameHouse}

-- What passes one test where it passes another is looked for among what passes the other.

module _ {A : Type 0} (test wider : A → Bool) (within : (x : A) → test x ≡ true → wider x ≡ true) where
  outside : (x : A) → wider x ≡ false → test x ≡ false
  outside x fails = false_from_ne_true (test x) (λ yes. both_ways (wider x) fails (within x yes))

  pub filter-within : (xs : List A) → filter test (filter wider xs) ≡ filter test xs
  filter-within [] = refl
  filter-within (x ∷ xs) =
      cond_both (wider x) (x ∷ filter wider xs) (filter wider xs) (λ ys. filter test ys ≡ cond (test x) (x ∷ filter test xs) (filter test xs))
      (λ yes. ap (λ zs. cond (test x) (x ∷ zs) zs) (filter-within xs))
      (λ fails. filter-within xs ∙ sym (cond-false (test x) (x ∷ filter test xs) (filter test xs) (outside x fails)))

  pub list_any-within : (xs : List A) → list_any test (filter wider xs) ≡ list_any test xs
  list_any-within [] = refl
  list_any-within (x ∷ xs) =
      cond_both (wider x) (x ∷ filter wider xs) (filter wider xs) (λ ys. list_any test ys ≡ (test x || list_any test xs))
      (λ yes. ap (λ b. test x || b) (list_any-within xs))
      (λ fails. list_any-within xs ∙ sym (ap (λ b. b || list_any test xs) (outside x fails)))

  pub find-within : (xs : List A) → find test (filter wider xs) ≡ find test xs
  find-within [] = refl
  find-within (x ∷ xs) =
      cond_both (wider x) (x ∷ filter wider xs) (filter wider xs) (λ ys. find test ys ≡ cond (test x) (Some x) (find test xs))
      (λ yes. ap (λ o. cond (test x) (Some x) o) (find-within xs))
      (λ fails. find-within xs ∙ sym (cond-false (test x) (Some x) (find test xs) (outside x fails)))

-- A line with a command is a line of the house.

verb_of_comment : (b : ℕ) (w : Text) → b ≡ 35 → verb_of (b ∷ w) ≡ verb.Other
unfolding verb_of
verb_of_comment b w h = rw h refl

verb_of_marked : (w : Text) → eqb (slice_index w 0) 35 ≡ true → verb_of w ≡ verb.Other
unfolding verb_of
verb_of_marked [] h = refl
verb_of_marked (b ∷ w) h = verb_of_comment b w (eqb-true b 35 h)

no_first : (line : Text) → is_empty (words line) ≡ true → word line 0 ≡ []
unfolding word
no_first line h = none (words line) h where
  none : (all : List Text) → is_empty all ≡ true → option_map_or (λ w. w) (slice_get all 0) [] ≡ []
  none [] h = refl
  none (x ∷ xs) h = cc

blank_other : (line : Text) → is_blank line ≡ true → verb_in line ≡ verb.Other
unfolding is_blank verb_in verb_of
blank_other line h = elim (or_cases (is_empty (words line)) (eqb (slice_index (word line 0) 0) 35) h) [
  | inl none ↦ ap verb_of (no_first line none)
  | inr marked ↦ verb_of_marked (word line 0) marked
]

pub review_other : (line : Text) → is_review line ≡ true → verb_in line ≡ verb.Other
unfolding is_review verb_in verb_of
review_other line h = ap verb_of (same_text (word line 0) (codes "review") h)

pub review_no_house : (line : Text) → is_review line ≡ true → is_house line ≡ false
unfolding is_house
review_no_house line h = and_right (not (is_blank line)) (not (is_review line)) (not_from_true (is_review line) h)

pub house_no_review : (line : Text) → is_house line ≡ true → is_review line ≡ false
house_no_review line h = false_from_ne_true (is_review line) (λ review. both_ways (is_house line) (review_no_house line review) h)

-- a line that is not of the house has no command
pub no_house_other : (line : Text) → is_house line ≡ false → verb_in line ≡ verb.Other
unfolding is_house
no_house_other line outside =
    elim (cases_Bool (is_blank line)) [
      | inl blank ↦ blank_other line blank
      | inr spoken ↦ review_other line (not-false (is_review line) (elim (and_cases (not (is_blank line)) (not (is_review line)) outside) [
        | inl blank ↦ absurd (both_ways (not (is_blank line)) blank (not_from_false (is_blank line) spoken))
        | inr review ↦ review
      ]))
    ]

pub no_command : (v : Verb) (line : Text) → verb_number v < 11 → verb_in line ≡ verb.Other → commands v line ≡ false
no_command v line l other = ap (λ w. eqb (verb_number w) (verb_number v)) other ∙ false_from_ne_true (eqb 11 (verb_number v)) (λ e. absurd (omega (arith, eqb-true 11 (verb_number v) e)))

pub command_of_house : (v : Verb) → verb_number v < 11 → (line : Text) → commands v line ≡ true → is_house line ≡ true
unfolding is_house
command_of_house v l line h =
    let no_blank : is_blank line ≡ false = false_from_ne_true (is_blank line) (λ blank. both_ways (commands v line) (no_command v line l (blank_other line blank)) h) in
    let no_review : is_review line ≡ false = false_from_ne_true (is_review line) (λ review. both_ways (commands v line) (no_command v line l (review_other line review)) h) in
    rw (no_blank, no_review) refl

-- Two lists with the same lines of the house say the same.

module _ (a b : Lines) (same : HaveSameHouse a b) where
  pub has-same : (v : Verb) → verb_number v < 11 → has v a ≡ has v b
  unfolding has
  has-same v l =
      sym (list_any-within (commands v) is_house (command_of_house v l) a)
      ∙ (ap (list_any (commands v)) same ∙ list_any-within (commands v) is_house (command_of_house v l) b)

  pub those-same : (v : Verb) → verb_number v < 11 → those v a ≡ those v b
  unfolding those
  those-same v l =
      sym (filter-within (commands v) is_house (command_of_house v l) a)
      ∙ (ap (filter (commands v)) same ∙ filter-within (commands v) is_house (command_of_house v l) b)

  find-same : (v : Verb) → verb_number v < 11 → find (commands v) a ≡ find (commands v) b
  find-same v l =
      sym (find-within (commands v) is_house (command_of_house v l) a)
      ∙ (ap (find (commands v)) same ∙ find-within (commands v) is_house (command_of_house v l) b)

  pub phase_after-same : phase_after a ≡ phase_after b
  unfolding phase_after
  phase_after-same =
      rw (has-same verb.Assign (omega arith), has-same verb.Close (omega arith), has-same verb.Draw (omega arith), has-same verb.Lottery (omega arith)) refl

  pub call_number-same : (i : ℕ) → call_number a i ≡ call_number b i
  unfolding call_number
  call_number-same i = ap (λ o. option_map_or (λ line. number (word line i)) o 0) (find-same verb.Call (omega arith))

  pub register-same : register a ≡ register b
  unfolding register
  register-same =
      rw (those-same verb.Applicant (omega arith), those-same verb.Place (omega arith), those-same verb.Conflict (omega arith), those-same verb.Pair (omega arith)) refl

  pub seed_of-same : seed_of a ≡ seed_of b
  unfolding seed_of
  seed_of-same = ap (option_map (λ line. word line 1)) (find-same verb.Partition (omega arith))

  pub seal_of-same : seal_of a ≡ seal_of b
  unfolding seal_of
  seal_of-same = ap (option_map (λ line. spelled (word line 1))) (find-same verb.Seal (omega arith))

  pub draw_of-same : draw_of a ≡ draw_of b
  unfolding draw_of
  draw_of-same = rw (find-same verb.Draw (omega arith), find-same verb.Lottery (omega arith), register-same) refl

  pub setting-same : setting a ≡ setting b
  unfolding setting
  setting-same = rw (seed_of-same, call_number-same 1, call_number-same 2, call_number-same 3, register-same) refl

  pub has_pairs-same : has_pairs a ≡ has_pairs b
  unfolding has_pairs
  has_pairs-same = rw register-same refl

  pub run_pairs-same : run_pairs a ≡ run_pairs b
  unfolding run_pairs
  run_pairs-same = rw (has_pairs-same, register-same, setting-same) refl

  pub assigned-same : (g : Goal) → assigned g a ≡ assigned g b
  assigned-same goal.Run = run_pairs-same
  assigned-same goal.Pairs = run_pairs-same
  assigned-same goal.Feasible = refl

  -- a review line is of one kind after both
  pub kind_of-same : (g : Goal) (line : Text) → kind_of g a line ≡ kind_of g b line
  unfolding kind_of kind_tests
  kind_of-same g line = rw (phase_after-same, register-same, setting-same, assigned-same g) refl

  -- one more line for both, and one that is not of the house for the first alone
  pub same-push : (line : Text) → HaveSameHouse (a ++ line ∷ []) (b ++ line ∷ [])
  same-push line =
      filter-append is_house a (line ∷ []) ∙ (ap (λ xs. xs ++ filter is_house (line ∷ [])) same ∙ sym (filter-append is_house b (line ∷ [])))

  pub same-left : (line : Text) → is_house line ≡ false → HaveSameHouse a (b ++ line ∷ [])
  same-left line fails =
      same ∙ sym (filter-append is_house b (line ∷ []) ∙ (ap (λ xs. filter is_house b ++ xs) (cond-false (is_house line) (line ∷ []) [] fails) ∙ append-nil (filter is_house b)))
