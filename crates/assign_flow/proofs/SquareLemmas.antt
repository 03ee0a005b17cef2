use Rattle.std.proofs.Common.{◌≡◌, ℕ, ◌+◌, ◌<◌, Bool, true, false, not, ◌&&◌, cond, refl, sym, ◌∙◌, arith}
use Rattle.peer_selection.specs.Counting.{count_below, sum_below}
use Rattle.peer_selection.specs.Profile.{Pairs}
use Rattle.peer_selection.proofs.CountingLemmas.{one_if, sum_below-same, sum_below-none, sum_below-plus, sum_below-term, sum_below-exchange, count_below-sum}

-- Sums over a square of reviewers and proposals.

unfoldable pub sum_square : (ℕ → ℕ → ℕ) → ℕ → ℕ
sum_square f n = sum_below (λ r. sum_below (λ p. f r p) n) n

pub sum_square-rows : (f : ℕ → ℕ → ℕ) (n : ℕ) → sum_square f n ≡ sum_below (λ r. sum_below (λ p. f r p) n) n
unfolding sum_square
sum_square-rows f n = refl

pub sum_square-columns : (f : ℕ → ℕ → ℕ) (n : ℕ) → sum_square f n ≡ sum_below (λ p. sum_below (λ r. f r p) n) n
unfolding sum_square
sum_square-columns f n = sum_below-exchange f n n

pub sum_square-same : (f g : ℕ → ℕ → ℕ) (n : ℕ) → ((r p : ℕ) → r < n → p < n → f r p ≡ g r p) → sum_square f n ≡ sum_square g n
unfolding sum_square
sum_square-same f g n h =
    sum_below-same (λ r. sum_below (λ p. f r p) n) (λ r. sum_below (λ p. g r p) n) n (λ r l. sum_below-same (λ p. f r p) (λ p. g r p) n (λ p k. h r p l k))

pub sum_square-plus : (f g : ℕ → ℕ → ℕ) (n : ℕ) → sum_square (λ r p. f r p + g r p) n ≡ sum_square f n + sum_square g n
unfolding sum_square
sum_square-plus f g n =
    sum_below-same (λ r. sum_below (λ p. f r p + g r p) n) (λ r. sum_below (λ p. f r p) n + sum_below (λ p. g r p) n) n (λ r l. sum_below-plus (λ p. f r p) (λ p. g r p) n)
    ∙ sum_below-plus (λ r. sum_below (λ p. f r p) n) (λ r. sum_below (λ p. g r p) n) n

pub sum_square-none : (f : ℕ → ℕ → ℕ) (n : ℕ) → ((r p : ℕ) → r < n → p < n → f r p ≡ 0) → sum_square f n ≡ 0
unfolding sum_square
sum_square-none f n h = sum_below-none (λ r. sum_below (λ p. f r p) n) n (λ r l. sum_below-none (λ p. f r p) n (λ p k. h r p l k))

pub sum_square-each : (f : ℕ → ℕ → ℕ) (n r p : ℕ) → sum_square f n ≡ 0 → r < n → p < n → f r p ≡ 0
unfolding sum_square
sum_square-each f n r p h l k = omega (arith, sum_below-term (λ i. sum_below (λ q. f i q) n) r n l, sum_below-term (λ q. f r q) p n k)

-- How many pairs there are.

abbrev pub count_square : Pairs → ℕ → ℕ
count_square x n = sum_square (λ r p. one_if (x r p)) n

pub count_square-rows : (x : Pairs) (n : ℕ) → sum_below (λ r. count_below (x r) n) n ≡ count_square x n
count_square-rows x n =
    sum_below-same (λ r. count_below (x r) n) (λ r. sum_below (λ p. one_if (x r p)) n) n (λ r l. count_below-sum (x r) n)
    ∙ sym (sum_square-rows (λ r p. one_if (x r p)) n)

pub count_square-columns : (x : Pairs) (n : ℕ) → sum_below (λ p. count_below (λ r. x r p) n) n ≡ count_square x n
count_square-columns x n =
    sum_below-same (λ p. count_below (λ r. x r p) n) (λ p. sum_below (λ r. one_if (x r p)) n) n (λ p l. count_below-sum (λ r. x r p) n)
    ∙ sym (sum_square-columns (λ r p. one_if (x r p)) n)

-- A count where a further test passes.

pub count_where : (c : Bool) (test : ℕ → Bool) (n : ℕ) → cond c (count_below test n) 0 ≡ sum_below (λ i. one_if (c && test i)) n
count_where true test n = count_below-sum test n
count_where false test n = sym (sum_below-none (λ i. 0) n (λ i l. refl))

pub count_unless : (c : Bool) (test : ℕ → Bool) (n : ℕ) → cond c 0 (count_below test n) ≡ sum_below (λ i. one_if (not c && test i)) n
count_unless true test n = sym (sum_below-none (λ i. 0) n (λ i l. refl))
count_unless false test n = count_below-sum test n
