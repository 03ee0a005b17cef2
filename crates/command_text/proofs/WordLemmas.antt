use Rattle.std.proofs.Common.{eqb, ◌≡◌, ℕ, ◌<◌, ◌+◌, true, false, cond, List, [], ◌∷◌, length, take, drop, refl, sym, ◌∙◌, arith, ltb, Some}
use Rattle.std.specs.Prelude.{not, position, All}
use Rattle.std.specs.List.{position_or_len, before_first, after_first}
use Rattle.std.proofs.lemmas.List.Splits.{slice_split_first, slice_split_none}
use Rattle.std.proofs.lemmas.Option.{cond_some}
use borrow.Author.Tests.{ltb-true}
use Rattle.std.proofs.Math.Dec.{eqb-suc-zero}
use Rattle.std.proofs.Common.{◌-◌, length-drop}
use Rattle.std.proofs.lemmas.List.{drop-drop, take_all}
use Rattle.house_model.specs.Text.{words, is_gap, is_empty}

-- up to its first gap a text is a word, unless it begins with the gap
pub words_to_gap : (xs : List ℕ) → position_or_len is_gap xs < length xs →
    words xs ≡ cond (not (is_empty (before_first is_gap xs))) (before_first is_gap xs ∷ words (after_first is_gap xs)) (words (after_first is_gap xs))
unfolding words
words_to_gap xs h = rw (slice_split_first is_gap xs 0 h) refl

-- a text without a gap is one word, or none
pub words_without_gap : (xs : List ℕ) → All (λ x. is_gap x ≡ false) xs → words xs ≡ cond (not (is_empty xs)) (xs ∷ []) []
unfolding words
words_without_gap xs h = rw (slice_split_none is_gap xs h) refl

-- the first gap, where there is one
pub position_found : (xs : List ℕ) (at : ℕ) → position is_gap xs ≡ Some at → (position_or_len is_gap xs ≡ at) × (at < length xs)
position_found xs at h =
    let e = cond_some (ltb (position_or_len is_gap xs) (length xs)) (position_or_len is_gap xs) at h in
    let below : position_or_len is_gap xs < length xs = ltb-true _ _ e.0 in
    (e.1, rw e.1 at below)

no_bytes : (xs : List ℕ) → is_empty xs ≡ eqb (length xs) 0
no_bytes [] = refl
no_bytes (x ∷ xs) = sym (eqb-suc-zero (length xs))

-- a word that ends at a gap
pub word_before_gap : (xs word after : List ℕ) → (word ≡ before_first is_gap xs) × (after ≡ after_first is_gap xs) → position_or_len is_gap xs < length xs →
    eqb (length word) 0 ≡ false → words xs ≡ word ∷ words after
word_before_gap xs word after parts gap some =
    words_to_gap xs gap ∙ rw (← parts.0, ← parts.1, no_bytes word, some) refl

-- a gap with no word before it
pub gap_at_once : (xs word after : List ℕ) → (word ≡ before_first is_gap xs) × (after ≡ after_first is_gap xs) → position_or_len is_gap xs < length xs →
    eqb (length word) 0 ≡ true → words xs ≡ words after
gap_at_once xs word after parts gap none =
    words_to_gap xs gap ∙ rw (← parts.0, ← parts.1, no_bytes word, none) refl

-- the last word
pub last_word : (xs : List ℕ) → All (λ x. is_gap x ≡ false) xs → eqb (length xs) 0 ≡ false → words xs ≡ xs ∷ words []
unfolding words
last_word xs h some = words_without_gap xs h ∙ rw (no_bytes xs, some) refl

pub no_word : (xs : List ℕ) → All (λ x. is_gap x ≡ false) xs → eqb (length xs) 0 ≡ true → words xs ≡ []
no_word xs h none = words_without_gap xs h ∙ rw (no_bytes xs, none) refl

-- what follows the element at an index
pub after_element : (xs : List ℕ) (at : ℕ) → take (length (drop at xs) - 1) (drop 1 (drop at xs)) ≡ drop (at + 1) xs
after_element xs at = take_all (length (drop at xs) - 1) (drop 1 (drop at xs)) (simp length-drop (omega arith)) ∙ drop-drop 1 at xs
