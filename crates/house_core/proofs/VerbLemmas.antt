-- What commands a line has.
use Rattle.std.proofs.Common.{◌≡◌, ℕ, true, false, eqb, List, [], ◌∷◌, refl, ap, inl, inr}
use Rattle.std.specs.Prelude.{slice_get, slice_index, codes}
use Rattle.std.specs.Option.{option_map_or}
use Rattle.std.specs.Str.{bytes_eq}
use Rattle.std.proofs.lemmas.Slice.Eq.{bytes_eq-Decides}
use Rattle.std.proofs.lemmas.Bool.{eqb-true, or_cases}
use Rattle.house_base.specs.Text.{Text}
use Rattle.house_model.specs.declared.verb.Verb.{Verb}
use Rattle.house_model.specs.declared.verb.Verb.TheVariants as verb
use Rattle.house_model.specs.Text.{words, word, is_blank, is_empty}
use Rattle.house_model.specs.Verbs.{verb_of, verb_in, verb_number, commands, is_review}

-- a comment's first word commands nothing
verb_of_comment : (b : ℕ) (w : Text) → b ≡ 35 → verb_of (b ∷ w) ≡ verb.Other
unfolding verb_of
verb_of_comment b w h = rw h refl

verb_of_marked : (w : Text) → eqb (slice_index w 0) 35 ≡ true → verb_of w ≡ verb.Other
unfolding verb_of
verb_of_marked [] h = refl
verb_of_marked (b ∷ w) h = verb_of_comment b w (eqb-true b 35 h)

no_first : (line : Text) → is_empty (words line) ≡ true → word line 0 ≡ []
unfolding word
no_first line h = none (words line) h where
  none : (all : List Text) → is_empty all ≡ true → option_map_or (λ w. w) (slice_get all 0) [] ≡ []
  none [] h = refl
  none (x ∷ xs) h = cc

is_no_review : (b : ℕ) (w : Text) → b ≡ 35 → bytes_eq (b ∷ w) (codes "review") ≡ false
is_no_review b w h = rw h refl

marked_no_review : (w : Text) → eqb (slice_index w 0) 35 ≡ true → bytes_eq w (codes "review") ≡ false
marked_no_review [] h = refl
marked_no_review (b ∷ w) h = is_no_review b w (eqb-true b 35 h)

-- a blank line commands nothing
pub blank_other : (line : Text) → is_blank line ≡ true → verb_in line ≡ verb.Other
unfolding is_blank verb_in verb_of
blank_other line h = elim (or_cases (is_empty (words line)) (eqb (slice_index (word line 0) 0) 35) h) [
  | inl none ↦ ap verb_of (no_first line none)
  | inr marked ↦ verb_of_marked (word line 0) marked
]

pub blank_not_review : (line : Text) → is_blank line ≡ true → is_review line ≡ false
unfolding is_blank is_review
blank_not_review line h = elim (or_cases (is_empty (words line)) (eqb (slice_index (word line 0) 0) 35) h) [
  | inl none ↦ ap (λ w. bytes_eq w (codes "review")) (no_first line none)
  | inr marked ↦ marked_no_review (word line 0) marked
]

-- nor does a review line
pub review_other : (line : Text) → is_review line ≡ true → verb_in line ≡ verb.Other
unfolding is_review verb_in verb_of
review_other line h = ap verb_of ((bytes_eq-Decides (word line 0) (codes "review")).0 h)

-- whether a line has a command, by what it has
pub commands_is : (line : Text) (v w : Verb) → verb_in line ≡ v → commands w line ≡ eqb (verb_number v) (verb_number w)
commands_is line v w h = ap (λ u. eqb (verb_number u) (verb_number w)) h
