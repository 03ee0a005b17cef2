-- Where a row and a column stand among the cells of a square that rows of words make.
use Rattle.std.proofs.Common.{◌≡◌, ℕ, ◌+◌, ◌*◌, ◌/◌, ◌%◌, ◌<◌, Bool, false, List, [], ◌∷◌, length, map, replicate, refl, ap, ◌∙◌, arith}
use Rattle.std.specs.List.{range_with_len}
use Rattle.std.proofs.lemmas.List.FromFn.{get_or-map-range_with_len, length-range_with_len, length-map-range_with_len}
use Rattle.std.proofs.lemmas.Nat.{mul-add-lt, div-mul-add, mod-mul-add}
use Rattle.std.proofs.lemmas.Grind.{common_steps}
use Rattle.house_base.specs.Grid.{cell, square_of_words}
use Rattle.house_base.specs.Rows.{has}
use Rattle.house_base.proofs.RowLemmas.{has-zeros}

-- what stands in a row and a column is the bit there
pub cell-words : (side : ℕ) (words : List ℕ) (row column : ℕ) → row < side → column < side → cell (square_of_words side words) row column ≡ has words row column
unfolding cell
cell-words side words row column row_below column_below =
    let at = row * side + column in
    let below : at < side * side = omega (arith, mul-add-lt row side column side row_below column_below) in
    get_or-map-range_with_len (λ i. has words (i / side) (i % side)) 0 (side * side) at at false below (omega arith)
    ∙ (ap (λ r. has words r (at % side)) (div-mul-add row side column column_below)
    ∙ ap (λ c. has words row c) (mod-mul-add row side column column_below))

pub length-cells : (side : ℕ) (words : List ℕ) → length (square_of_words side words).cells ≡ side * side
length-cells side words = length-map-range_with_len (λ i. has words (i / side) (i % side)) 0 (side * side)

map_false : (f : ℕ → Bool) (numbers : List ℕ) → ((i : ℕ) → f i ≡ false) → map f numbers ≡ replicate (length numbers) false
map_false f [] all = refl
map_false f (i ∷ others) all = ap (λ b. b ∷ map f others) (all i) ∙ ap (λ bs. false ∷ bs) (map_false f others all)

-- a fresh square is false everywhere
pub square-zeros : (side n : ℕ) (words : List ℕ) → words ≡ replicate n 0 → square_of_words side words ≡ record { side = side; cells = replicate (side * side) false }
square-zeros side n words zeros =
    ap (λ cells. record { side = side; cells = cells })
    (map_false (λ i. has words (i / side) (i % side)) (range_with_len 0 (side * side)) (λ i. has-zeros words n zeros (i / side) (i % side))
    ∙ ap (λ k. replicate k false) (length-range_with_len 0 (side * side)))

pub cell-replicate : (side n row column : ℕ) → cell (record { side = side; cells = replicate n false }) row column ≡ false
unfolding cell
cell-replicate side n row column = grind (arith, common_steps)
