use Rattle.std.proofs.Common.{◌≡◌, ◌≢◌, ℕ, ◌+◌, ◌*◌, ◌<◌, ◌≤◌, Bool, true, false, ◌&&◌, nat_eq, cond, List, length, get_or, set, replicate, refl, sym, ap, ◌∙◌, arith}
use Rattle.std.proofs.lemmas.Bool.{true≢false}
use Rattle.std.proofs.lemmas.Bool.Decides.{nat_tests}
use Rattle.std.proofs.lemmas.Grind.{common_steps, get_or-set_at}
use Rattle.std.proofs.lemmas.List.{get_or-set_other, get_or-replicate, length-replicate, length-set}
use Rattle.std.proofs.lemmas.List.Elements.{All-set}
use Rattle.std.proofs.lemmas.Nat.{mul-add-lt, same_from_place}
use Rattle.house_base.specs.declared.limits.TheConstants.{MOST_POINTS}
use Rattle.house_base.specs.Grid.{Square, cell}
use Rattle.review_desk.specs.Desk.{HoldsPoints}

-- The points of the pairs, row by row.

pub within : (points : List ℕ) (side r p : ℕ) → length points ≡ side * side → r < side → p < side → r * side + p < length points
within points side r p squared rl pl = omega (arith, mul-add-lt r side p side rl pl)

set-by : (points : List ℕ) (i j value : ℕ) (same : Bool) → i < length points → (same ≡ true → j ≡ i) → (same ≡ false → j ≢ i) →
    get_or (set points i value) j 0 ≡ cond same value (get_or points j 0)
set-by points i j value true inside is_same is_other = get_or-set_at points i j value 0 (is_same refl) inside
set-by points i j value false inside is_same is_other = get_or-set_other points i j value 0 (is_other refl)

-- after a write for one pair, what stands for another is what stood there
pub points-set : (points : List ℕ) (side row column r p value : ℕ) → length points ≡ side * side → row < side → column < side → r < side → p < side →
    get_or (set points (row * side + column) value) (r * side + p) 0 ≡ cond (nat_eq r row && nat_eq p column) value (get_or points (r * side + p) 0)
points-set points side row column r p value squared row_below column_below r_below p_below =
    set-by points (row * side + column) (r * side + p) value (nat_eq r row && nat_eq p column)
    (within points side row column squared row_below column_below)
    (λ same. let one : (r ≡ row) × (p ≡ column) = grind (arith, nat_tests) in cc)
    (λ other same_place. let one = same_from_place r p row column side p_below column_below same_place in grind (arith, nat_tests))

-- a write for a pair of the assignment keeps what holds of all points
pub HoldsPoints-set : (pairs : Square) (points : List ℕ) (row column value : ℕ) → HoldsPoints pairs points → row < pairs.side → column < pairs.side →
    cell pairs row column ≡ true → value ≤ MOST_POINTS → HoldsPoints pairs (set points (row * pairs.side + column) value)
HoldsPoints-set pairs points row column value h row_below column_below assigned few = record {
  squared = length-set points (row * pairs.side + column) value ∙ h.squared;
  most = All-set (λ x. x ≤ MOST_POINTS) points (row * pairs.side + column) value few h.most;
  assigned = λ r p rl pl unassigned. points-set points pairs.side row column r p value h.squared row_below column_below rl pl ∙ elsewhere r p rl pl unassigned (nat_eq r row && nat_eq p column) refl;
}
  where
    elsewhere : (r p : ℕ) → r < pairs.side → p < pairs.side → cell pairs r p ≡ false → (b : Bool) → b ≡ (nat_eq r row && nat_eq p column) →
        cond b value (get_or points (r * pairs.side + p) 0) ≡ 0
    elsewhere r p rl pl unassigned true same =
        let one : (r ≡ row) × (p ≡ column) = grind (arith, nat_tests) in
        absurd (true≢false (sym assigned ∙ (ap (λ x. cell pairs x column) (sym one.0) ∙ (ap (cell pairs r) (sym one.1) ∙ unassigned))))
    elsewhere r p rl pl unassigned false same = h.assigned r p rl pl unassigned

pub zero_read : (n k : ℕ) → get_or {A = ℕ} (replicate {A = ℕ} n 0) k 0 ≡ 0
zero_read n k = grind (arith, common_steps)

pub HoldsPoints-silent : (pairs : Square) (points : List ℕ) (n : ℕ) → points ≡ replicate (n * n) 0 → n ≡ pairs.side → HoldsPoints pairs points
HoldsPoints-silent pairs points n silent is = record {
  squared = ap length silent ∙ (length-replicate (n * n) 0 ∙ ap (λ x. x * x) is);
  most = λ k d l. omega (arith, ap (λ xs. get_or xs k d) silent, get_or-replicate (n * n) k 0 d (omega (arith, ap length silent, length-replicate {A = ℕ} (n * n) 0)));
  assigned = λ r p rl pl _. ap (λ xs. get_or xs (r * pairs.side + p) 0) silent ∙ zero_read (n * n) (r * pairs.side + p);
}
