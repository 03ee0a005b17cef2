use Rattle.std.proofs.Common.{◌≡◌, ℕ, zero, suc, ◌+◌, ◌-◌, ◌*◌, ◌/◌, ◌%◌, ◌<◌, ◌≤◌, ◌≢◌, Bool, ◌&&◌, ltb, leb, ◌⊎◌, sym, ap, ◌∙◌, inl, inr, arith}
use Rattle.std.proofs.lemmas.Bool.{cases_lt, lt-ltb, le-ltb}
use Rattle.std.proofs.lemmas.Bool.Decides.{nat_tests}
use Rattle.std.proofs.lemmas.Nat.{div_below, div-mul-add}
use Rattle.std.proofs.Math.Nat.{mul-le-mul_right}
use Rattle.peer_selection.specs.Counting.{count_below, sum_below}
use Rattle.peer_selection.specs.Profile.{Profile, denominator, quota, cumulative_quota}
use Rattle.peer_selection.specs.Lottery.{seats}
use Rattle.peer_selection.proofs.CountingLemmas.{one_if, count_below-split, count_below-none, count_below-same, count_below-ltb, sum_below-zero, sum_below-suc}

-- Sampling points, a step apart from a draw on: how many of them lie in a stretch of the line.

-- whether the point at t lies from a on and below b
abbrev pub in_stretch : ℕ → ℕ → ℕ → ℕ → ℕ → Bool
in_stretch step v a b t = leb a (v + t * step) && ltb (v + t * step) b

-- how many of k points lie below x
abbrev pub points_below : ℕ → ℕ → ℕ → ℕ → ℕ
points_below step v k x = count_below (λ t. ltb (v + t * step) x) k

pub stretch_step : (a b y : ℕ) → a ≤ b → one_if (ltb y b) ≡ one_if (leb a y && ltb y b) + one_if (ltb y a)
stretch_step a b y h = grind (arith, nat_tests)

-- the points of a stretch are those below its end that are not below its start
pub points_in_stretch : (step v k a b : ℕ) → a ≤ b → points_below step v k b ≡ count_below (in_stretch step v a b) k + points_below step v k a
points_in_stretch step v k a b h =
    count_below-split (λ t. ltb (v + t * step) b) (in_stretch step v a b) (λ t. ltb (v + t * step) a) k (λ t l. stretch_step a b (v + t * step) h)

pub points_below-zero : (step v k : ℕ) → points_below step v k 0 ≡ 0
points_below-zero step v k = count_below-none (λ t. ltb (v + t * step) 0) k (λ t l. le-ltb (v + t * step) 0 (omega arith))

-- the point at t lies below x exactly when t is below a quotient
point_test : (step v x t : ℕ) → v < step → ltb (v + t * step) x ≡ ltb t ((x + (step - 1 - v)) / step)
point_test step v x t h =
    let q = (x + (step - 1 - v)) / step in
    elim (cases_lt t q) [
      | inl l ↦ lt-ltb (v + t * step) x (omega (arith, mul-le-mul_right {m = suc t} {n = q} step l)) ∙ sym (lt-ltb t q l)
      | inr l ↦ le-ltb (v + t * step) x (omega (arith, mul-le-mul_right {m = q} {n = t} step l)) ∙ sym (le-ltb t q l)
    ]

-- how many points lie below x, while x is not past the last step
pub points_below-div : (step v k x : ℕ) → v < step → x ≤ k * step → points_below step v k x ≡ (x + (step - 1 - v)) / step
points_below-div step v k x h within =
    let q = (x + (step - 1 - v)) / step in
    let few : q < suc k = div_below (x + (step - 1 - v)) step (suc k) (omega arith) (omega arith) in
    count_below-same (λ t. ltb (v + t * step) x) (λ t. ltb t q) k (λ t l. point_test step v x t h) ∙ count_below-ltb q k (omega arith)

-- all of them lie below the k-th step
pub points_below-all : (step v k : ℕ) → v < step → points_below step v k (k * step) ≡ k
points_below-all step v k h =
    points_below-div step v k (k * step) h (omega arith)
    ∙ div-mul-add k step (step - 1 - v) (omega arith)

-- a quotient of a sum is the sum of the quotients, or 1 more where the second does not divide
pub div-add_cases : (step a q : ℕ) → 0 < step → ((a + q) / step ≡ a / step + q / step) ⊎ (((a + q) / step ≡ a / step + q / step + 1) × (q % step ≢ 0))
div-add_cases step a q h =
    let r = a % step in
    let s = q % step in
    elim (cases_lt (r + s) step) [
      | inl l ↦ inl (ap (λ x. x / step) (let e : a + q ≡ (a / step + q / step) * step + (r + s) = omega arith in e) ∙ div-mul-add (a / step + q / step) step (r + s) l)
      | inr l ↦ inr (
        ap (λ x. x / step) (let e : a + q ≡ (a / step + q / step + 1) * step + (r + s - step) = omega arith in e) ∙ div-mul-add (a / step + q / step + 1) step (r + s - step) (omega arith),
        λ whole. omega arith,
      )
    ]

-- The clusters' stretches.

pub cumulative_quota-zero : (f : Profile) → cumulative_quota f 0 ≡ 0
unfolding cumulative_quota
cumulative_quota-zero f = sum_below-zero (λ i. quota f (i + 1))

pub cumulative_quota-suc : (f : Profile) (i : ℕ) → cumulative_quota f (suc i) ≡ cumulative_quota f i + quota f (i + 1)
unfolding cumulative_quota
cumulative_quota-suc f i = sum_below-suc (λ i. quota f (i + 1)) i

pub cumulative_quota-mono : (f : Profile) (i j : ℕ) → i ≤ j → cumulative_quota f i ≤ cumulative_quota f j
cumulative_quota-mono f i zero h = omega (arith, ap (cumulative_quota f) (let e : i ≡ 0 = omega arith in e))
cumulative_quota-mono f i (suc j) h =
    elim (cases_lt j i) [
      | inl l ↦ omega (arith, ap (cumulative_quota f) (let e : i ≡ suc j = omega arith in e))
      | inr l ↦ omega (arith, cumulative_quota-suc f j, cumulative_quota-mono f i j l)
    ]

-- the seats of the cluster i + 1 are the points in its stretch
pub seats-suc : (f : Profile) (i v : ℕ) → seats f (i + 1) v ≡ count_below (in_stretch (denominator f.setting) v (cumulative_quota f i) (cumulative_quota f (suc i))) f.setting.seats
unfolding seats
seats-suc f i v =
    let from : i + 1 - 1 ≡ i = omega arith in
    let to : i + 1 ≡ suc i = omega arith in
    ap (λ x. count_below (in_stretch (denominator f.setting) v (cumulative_quota f x) (cumulative_quota f (i + 1))) f.setting.seats) from
    ∙ ap (λ x. count_below (in_stretch (denominator f.setting) v (cumulative_quota f i) (cumulative_quota f x)) f.setting.seats) to

-- the seats of a cluster and the points before its stretch are the points before its end
pub seats-points : (f : Profile) (i v : ℕ) → points_below (denominator f.setting) v f.setting.seats (cumulative_quota f (suc i)) ≡ seats f (i + 1) v + points_below (denominator f.setting) v f.setting.seats (cumulative_quota f i)
seats-points f i v =
    omega (
      arith,
      seats-suc f i v,
      points_in_stretch (denominator f.setting) v f.setting.seats (cumulative_quota f i) (cumulative_quota f (suc i)) (omega (arith, cumulative_quota-suc f i)),
    )

-- the seats of the first so many clusters together
pub seats-sum : (f : Profile) (v l : ℕ) → sum_below (λ i. seats f (i + 1) v) l ≡ points_below (denominator f.setting) v f.setting.seats (cumulative_quota f l)
seats-sum f v zero =
    let step = denominator f.setting in
    sum_below-zero (λ i. seats f (i + 1) v)
    ∙ sym (ap (points_below step v f.setting.seats) (cumulative_quota-zero f) ∙ points_below-zero step v f.setting.seats)
seats-sum f v (suc l) = omega (arith, sum_below-suc (λ i. seats f (i + 1) v) l, seats-points f l v, seats-sum f v l)

-- where the quotas fill the line, all seats are given
pub seats-all : (f : Profile) (v l : ℕ) → v < denominator f.setting → cumulative_quota f l ≡ f.setting.seats * denominator f.setting → sum_below (λ i. seats f (i + 1) v) l ≡ f.setting.seats
seats-all f v l h whole =
    let step = denominator f.setting in
    seats-sum f v l ∙ (ap (points_below step v f.setting.seats) whole ∙ points_below-all step v f.setting.seats h)

-- ... and each cluster gets its quota, rounded
pub seats-rounded : (f : Profile) (v l i : ℕ) → v < denominator f.setting → cumulative_quota f l ≡ f.setting.seats * denominator f.setting → i < l
    → (seats f (i + 1) v ≡ quota f (i + 1) / denominator f.setting) ⊎ ((seats f (i + 1) v ≡ quota f (i + 1) / denominator f.setting + 1) × (quota f (i + 1) % denominator f.setting ≢ 0))
seats-rounded f v l i h whole below =
    let step = denominator f.setting in
    let k = f.setting.seats in
    let ends : cumulative_quota f (suc i) ≤ k * step = omega (arith, cumulative_quota-mono f (suc i) l below) in
    let from = points_below-div step v k (cumulative_quota f i) h (omega (arith, cumulative_quota-suc f i)) in
    let to = points_below-div step v k (cumulative_quota f (suc i)) h ends in
    let shift : cumulative_quota f (suc i) + (step - 1 - v) ≡ (cumulative_quota f i + (step - 1 - v)) + quota f (i + 1) = omega (arith, cumulative_quota-suc f i) in
    let moved = ap (λ x. x / step) shift in
    elim (div-add_cases step (cumulative_quota f i + (step - 1 - v)) (quota f (i + 1)) (omega arith)) [
      | inl e ↦ inl (omega (arith, seats-points f i v, from, to, moved, e))
      | inr e ↦ inr (omega (arith, seats-points f i v, from, to, moved, e.0), e.1)
    ]
