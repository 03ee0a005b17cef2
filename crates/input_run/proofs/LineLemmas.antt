-- How many lines a text has.
use Rattle.std.proofs.Common.{◌≡◌, ℕ, suc, ◌<◌, ◌≤◌, Bool, true, false, eqb, List, [], ◌∷◌, length, refl, ap, ◌∙◌, arith, max}
use Rattle.std.specs.List.{slice_split, onto_first}
use Rattle.std.proofs.lemmas.List.{length-map}
use Rattle.std.proofs.lemmas.List.Splits.{slice_split-cons_yes, slice_split-cons_no, length-slice_split}
use Rattle.house_base.specs.Text.{Text}
use Rattle.house_model.specs.Text.{lines, without_return, without_last_empty}

-- whether a byte ends a line
abbrev pub is_feed : ℕ → Bool
is_feed b = eqb b 10

front_stays : (x : Text) (parts : List Text) → 0 < length parts → without_last_empty (x ∷ parts) ≡ x ∷ without_last_empty parts
front_stays x [] h = absurd (omega arith)
front_stays x (y ∷ more) h = refl

some_parts : (xs : List ℕ) → 0 < length (slice_split is_feed xs)
some_parts xs = omega (arith, length-slice_split is_feed xs)

-- how many lines the parts between line feeds are
count : List Text → ℕ
count parts = length (without_last_empty parts)

-- a byte that ends no line is part of a line
count_onto : (x : ℕ) (parts : List Text) → count (onto_first x parts) ≡ max 1 (count parts)
unfolding count
count_onto x [] = refl
count_onto x ([] ∷ []) = refl
count_onto x ((y ∷ ys) ∷ []) = refl
count_onto x (part ∷ next ∷ parts) = omega arith

count_front : (x : Text) (parts : List Text) → 0 < length parts → count (x ∷ parts) ≡ suc (count parts)
unfolding count
count_front x parts h = ap length (front_stays x parts h)

count_of : List ℕ → ℕ
count_of xs = count (slice_split is_feed xs)

counted : (xs : List ℕ) → length (lines xs) ≡ count_of xs
unfolding lines count count_of
counted xs = length-map (without_last_empty (slice_split is_feed xs)) without_return

count_at_feed : (x : ℕ) (xs : List ℕ) → is_feed x ≡ true → count_of (x ∷ xs) ≡ suc (count_of xs)
unfolding count_of
count_at_feed x xs h = ap count (slice_split-cons_yes is_feed x xs h) ∙ count_front [] (slice_split is_feed xs) (some_parts xs)

count_at_other : (x : ℕ) (xs : List ℕ) → is_feed x ≡ false → count_of (x ∷ xs) ≡ max 1 (count_of xs)
unfolding count_of
count_at_other x xs h = ap count (slice_split-cons_no is_feed x xs h) ∙ count_onto x (slice_split is_feed xs)

-- a text that has a byte has a line
pub lines-some : (xs : List ℕ) → 0 < length xs → 1 ≤ length (lines xs)
lines-some [] h = absurd (omega arith)
lines-some (x ∷ xs) h = by_byte (is_feed x) refl where
  by_byte : (b : Bool) → is_feed x ≡ b → 1 ≤ length (lines (x ∷ xs))
  by_byte true e = omega (arith, counted (x ∷ xs), count_at_feed x xs e)
  by_byte false e = omega (arith, counted (x ∷ xs), count_at_other x xs e)
