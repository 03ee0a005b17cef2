use Rattle.std.proofs.Common.{◌≡◌, ℕ, ◌+◌, Bool, true, false, cond, ap, arith}
use Rattle.peer_selection.specs.Counting.{count_below, sum_below}
use Rattle.peer_selection.specs.Shortage.{Demand, Places, needed_in, room_outside, allowed, capacity}
use Rattle.peer_selection.proofs.CountingLemmas.{one_if, count_below-add_one, sum_below-same, sum_below-plus, sum_below-add_one}

-- A count takes one place more, or skips it.

pub count-takes : (test : ℕ → Bool) (n : ℕ) → test n ≡ true → count_below test (n + 1) ≡ count_below test n + 1
count-takes test n h = omega (arith, count_below-add_one test n, ap one_if h)

pub count-skips : (test : ℕ → Bool) (n : ℕ) → test n ≡ false → count_below test (n + 1) ≡ count_below test n
count-skips test n h = omega (arith, count_below-add_one test n, ap one_if h)

-- Sums over the places in a set, and over those outside.

-- a sum over a set takes one place more
pub sum_in-takes : (set : Places) (f : ℕ → ℕ) (n : ℕ) → set n ≡ true → sum_below (λ i. cond (set i) (f i) 0) (n + 1) ≡ sum_below (λ i. cond (set i) (f i) 0) n + f n
sum_in-takes set f n h = omega (arith, sum_below-add_one (λ i. cond (set i) (f i) 0) n, ap {B = ℕ} (λ b. cond b (f n) 0) h)

pub sum_in-skips : (set : Places) (f : ℕ → ℕ) (n : ℕ) → set n ≡ false → sum_below (λ i. cond (set i) (f i) 0) (n + 1) ≡ sum_below (λ i. cond (set i) (f i) 0) n
sum_in-skips set f n h = omega (arith, sum_below-add_one (λ i. cond (set i) (f i) 0) n, ap {B = ℕ} (λ b. cond b (f n) 0) h)

pub sum_outside-takes : (set : Places) (f : ℕ → ℕ) (n : ℕ) → set n ≡ false → sum_below (λ i. cond (set i) 0 (f i)) (n + 1) ≡ sum_below (λ i. cond (set i) 0 (f i)) n + f n
sum_outside-takes set f n h = omega (arith, sum_below-add_one (λ i. cond (set i) 0 (f i)) n, ap {B = ℕ} (λ b. cond b 0 (f n)) h)

pub sum_outside-skips : (set : Places) (f : ℕ → ℕ) (n : ℕ) → set n ≡ true → sum_below (λ i. cond (set i) 0 (f i)) (n + 1) ≡ sum_below (λ i. cond (set i) 0 (f i)) n
sum_outside-skips set f n h = omega (arith, sum_below-add_one (λ i. cond (set i) 0 (f i)) n, ap {B = ℕ} (λ b. cond b 0 (f n)) h)

in_or_out : (b : Bool) (x : ℕ) → cond b x 0 + cond b 0 x ≡ x
in_or_out true x = omega arith
in_or_out false x = omega arith

-- the places in a set and those outside are all
pub sum_in_and_outside : (set : Places) (f : ℕ → ℕ) (n : ℕ) → sum_below (λ i. cond (set i) (f i) 0) n + sum_below (λ i. cond (set i) 0 (f i)) n ≡ sum_below f n
sum_in_and_outside set f n =
    omega (
      arith,
      sum_below-plus (λ i. cond (set i) (f i) 0) (λ i. cond (set i) 0 (f i)) n,
      sum_below-same (λ i. cond (set i) (f i) 0 + cond (set i) 0 (f i)) f n (λ i l. in_or_out (set i) (f i)),
    )

-- the capacity of a cut and what its reviewers need are all that is needed, the room outside and the allowed pairs
pub capacity-and_needed : (d : Demand) (a b : Places) → capacity d a b + needed_in d a ≡ sum_below d.need d.side + (room_outside d b + allowed d a b)
unfolding capacity needed_in
capacity-and_needed d a b = omega (arith, sum_in_and_outside a d.need d.side)
