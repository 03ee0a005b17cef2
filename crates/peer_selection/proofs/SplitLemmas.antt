use Rattle.std.proofs.Common.{◌≡◌, ℕ, suc, ◌+◌, ◌-◌, ◌*◌, ◌/◌, ◌<◌, ◌≤◌, ◌≢◌, Bool, true, false, ◌&&◌, ◌||◌, ltb, eqb, List, [], ◌∷◌, length, map, sum, slice_index, ◌⊎◌, refl, one-add, sym, ap, ◌∙◌, inl, inr, arith}
use Rattle.std.specs.List.{list_all}
use Rattle.std.proofs.lemmas.Bool.{cases_lt, and_cases, true≢false, cond_both}
use Rattle.std.proofs.lemmas.Bool.Decides.{nat_tests}
use Rattle.std.proofs.lemmas.List.Sums.{sum_by-cons}
use Rattle.std.proofs.Math.Nat.{mul-le-mul_left, le_of_mul-le-mul_left, mul-lt-mul_of_pos_left, div-add-mod}
use Rattle.house_base.specs.declared.limits.TheConstants.{DOLLAR}
use Rattle.peer_selection.specs.Counting.{count_below, sum_below}
use Rattle.peer_selection.specs.Split.{weights, base_at, remainder_at, left_over, comes_before, cents_at}
use Rattle.peer_selection.proofs.CountingLemmas.{one_if, count_below-sum, sum_below-zero, sum_below-first, sum_below-same, sum_below-plus, sum_below-times, sum_below-le}
use Rattle.peer_selection.proofs.OrderLemmas.{IsStrictOrder, count_below-first}

-- A dollar is split whole.

sum-cons : (x : ℕ) (xs : List ℕ) → sum (x ∷ xs) ≡ x + sum xs
sum-cons x xs = sum_by-cons (λ y. y) x xs

-- a sum over the indices of a list
pub sum_below-list : (g : ℕ → ℕ) (xs : List ℕ) → sum_below (λ i. g (slice_index xs i)) (length xs) ≡ sum (map g xs)
sum_below-list g [] = sum_below-zero (λ i. g (slice_index [] i))
sum_below-list g (x ∷ xs) = sum_below-first (λ i. g (slice_index (x ∷ xs) i)) (length xs) ∙ (ap (λ n. g x + n) (sum_below-list g xs) ∙ sym (sum-cons (g x) (map g xs)))

pub sum_below-items : (xs : List ℕ) → sum_below (slice_index xs) (length xs) ≡ sum xs
sum_below-items [] = sum_below-zero (slice_index [])
sum_below-items (x ∷ xs) = sum_below-first (slice_index (x ∷ xs)) (length xs) ∙ (ap (λ n. x + n) (sum_below-items xs) ∙ sym (sum-cons x xs))

-- equal weights
ones : List ℕ → List ℕ
ones xs = map (λ x. 1) xs

length-ones : (xs : List ℕ) → length (ones xs) ≡ length xs
unfolding ones
length-ones [] = refl
length-ones (x ∷ xs) = ap suc (length-ones xs)

sum-ones : (xs : List ℕ) → sum (ones xs) ≡ length xs
unfolding ones
sum-ones [] = refl
sum-ones (x ∷ xs) = sum-cons 1 (ones xs) ∙ (ap (λ n. 1 + n) (sum-ones xs) ∙ one-add (length xs))

pub length-weights : (points : List ℕ) → length (weights points) ≡ length points
unfolding weights ones
length-weights points =
    cond_both (list_all (λ x. eqb x 0) points) (ones points) points (λ ws. length ws ≡ length points) (λ _. length-ones points) (λ _. refl)

some_above_zero : (xs : List ℕ) → list_all (λ x. eqb x 0) xs ≡ false → 0 < sum xs
some_above_zero [] h = absurd (true≢false h)
some_above_zero (x ∷ xs) h =
    elim (and_cases (eqb x 0) (list_all (λ y. eqb y 0) xs) h) [
      | inl e ↦ let above : 0 < x = grind (arith, nat_tests) in omega (arith, sum-cons x xs)
      | inr e ↦ omega (arith, sum-cons x xs, some_above_zero xs e)
    ]

-- the weights are not all 0
pub sum-weights : (points : List ℕ) → 0 < length points → 0 < sum (weights points)
unfolding weights ones
sum-weights points h =
    cond_both (list_all (λ x. eqb x 0) points) (ones points) points (λ ws. 0 < sum ws) (λ _. omega (arith, sum-ones points)) (some_above_zero points)

-- the order in which the cents left over are given is strict

abbrev pub larger_first : ℕ → ℕ → ℕ → ℕ → Bool
larger_first q r j i = ltb r q || (eqb q r && ltb j i)

pub larger_first-irreflexive : (r i : ℕ) → larger_first r r i i ≡ false
larger_first-irreflexive r i = grind (arith, nat_tests)

pub larger_first-transitive : (p q r i j k : ℕ) → larger_first p q i j ≡ true → larger_first q r j k ≡ true → larger_first p r i k ≡ true
larger_first-transitive p q r i j k h g = grind (arith, nat_tests)

pub larger_first-total : (p q i j : ℕ) → i ≢ j → (larger_first p q i j ≡ true) ⊎ (larger_first q p j i ≡ true)
larger_first-total p q i j ne = grind (arith, nat_tests)

pub comes_before-order : (points : List ℕ) (n : ℕ) → IsStrictOrder (comes_before points) n
unfolding comes_before
comes_before-order points n =
    record {
      irreflexive = λ i il. larger_first-irreflexive (remainder_at points i) i;
      transitive = λ i j k il jl kl h g. larger_first-transitive (remainder_at points i) (remainder_at points j) (remainder_at points k) i j k h g;
      total = λ i j il jl ne. larger_first-total (remainder_at points i) (remainder_at points j) i j ne;
    }

-- the bases and the remainders together

pub left_over-bases : (points : List ℕ) → left_over points ≡ DOLLAR - sum_below (base_at points) (length points)
unfolding left_over base_at
left_over-bases points =
    let g = λ (w : ℕ). DOLLAR * w / sum (weights points) in
    let bases = sum_below-list g (weights points) in
    ap (λ n. DOLLAR - n) (sym bases ∙ ap (λ n. sum_below (λ i. DOLLAR * slice_index (weights points) i / sum (weights points)) n) (length-weights points))

-- a share is its whole cents and its remainder
share_parts : (points : List ℕ) (i : ℕ) → sum (weights points) * base_at points i + remainder_at points i ≡ DOLLAR * slice_index (weights points) i
unfolding base_at remainder_at
share_parts points i = div-add-mod (DOLLAR * slice_index (weights points) i) (sum (weights points))

remainder-less : (points : List ℕ) (i : ℕ) → 0 < length points → remainder_at points i < sum (weights points)
unfolding remainder_at
remainder-less points i h = let positive = sum-weights points h in omega arith

-- the whole cents of all shares times the weights, and all remainders
shares_parts : (points : List ℕ) → sum (weights points) * sum_below (base_at points) (length points) + sum_below (remainder_at points) (length points) ≡ sum (weights points) * DOLLAR
shares_parts points =
    let whole = sum (weights points) in
    let n = length points in
    let parts = sum_below-plus (λ i. whole * base_at points i) (remainder_at points) n in
    let factor = sum_below-times whole (base_at points) n in
    let shares = sum_below-same (λ i. whole * base_at points i + remainder_at points i) (λ i. DOLLAR * slice_index (weights points) i) n (λ i l. share_parts points i) in
    let dollars = sum_below-times DOLLAR (slice_index (weights points)) n in
    let items = ap (sum_below (slice_index (weights points))) (sym (length-weights points)) ∙ sum_below-items (weights points) in
    let scaled = ap (λ x. DOLLAR * x) items in
    omega (arith, parts, factor, shares, dollars, scaled)

fewer : (whole n left : ℕ) → 0 < whole → 0 < n → whole * left ≤ n * (whole - 1) → left < n
fewer whole n left h g e =
    elim (cases_lt left n) [
      | inl l ↦ l
      | inr l ↦ absurd (omega (arith, mul-le-mul_left whole l, e, mul-lt-mul_of_pos_left {m = whole - 1} {n = whole} {k = n} (omega arith) g))
    ]

-- the cents left over are fewer than the proposals
pub left_over-less : (points : List ℕ) → 0 < length points → (sum_below (base_at points) (length points) + left_over points ≡ DOLLAR) × (left_over points < length points)
left_over-less points h =
    let whole = sum (weights points) in
    let n = length points in
    let bases = sum_below (base_at points) n in
    let positive : 0 < whole = sum-weights points h in
    let parts = shares_parts points in
    let within : bases ≤ DOLLAR =
    le_of_mul-le-mul_left {k = whole} (omega (arith, parts)) positive in
    let left = left_over-bases points in
    let together : bases + left_over points ≡ DOLLAR = omega (arith, left, within) in
    let scaled = ap (λ x. whole * x) together in
    let few = sum_below-le (remainder_at points) (whole - 1) n (λ i l. omega (arith, remainder-less points i h)) in
    (together, fewer whole n (left_over points) positive h (omega (arith, scaled, parts, few)))

-- the split gives the dollar away, whole
pub cents-sum : (points : List ℕ) → 0 < length points → sum_below (cents_at points) (length points) ≡ DOLLAR
unfolding cents_at
cents-sum points h =
    let n = length points in
    let extra = λ (i : ℕ). ltb (count_below (λ j. comes_before points j i) n) (left_over points) in
    let parts = sum_below-plus (base_at points) (λ i. one_if (extra i)) n in
    let counted = count_below-sum extra n in
    let left = left_over-less points h in
    let first = count_below-first (comes_before points) n (left_over points) (comes_before-order points n) (omega (arith, left.1)) in
    omega (arith, parts, counted, first, left.0)
