use Rattle.std.proofs.Common.{◌≡◌, ℕ, zero, suc, ◌+◌, ◌-◌, ◌*◌, ◌/◌, ◌%◌, ◌<◌, ◌≤◌, ◌&&◌, ltb, leb, min, ◌⊎◌, sym, ap, ◌∙◌, inl, inr, arith}
use Rattle.std.proofs.lemmas.Bool.{cases_lt, lt-ltb, le-ltb}
use Rattle.std.proofs.Math.Nat.{mul-le-mul_right}
use Rattle.house_base.specs.Setting.{cluster_at}
use Rattle.peer_selection.specs.Counting.{count_below, sum_below}
use Rattle.peer_selection.specs.Profile.{Profile, denominator, quota, cumulative_quota, rank}
use Rattle.peer_selection.specs.Lottery.{seats, selected, chance}
use Rattle.peer_selection.proofs.CountingLemmas.{one_if, count_below-split, count_below-all, count_below-none, count_below-ltb, count_below-sum, sum_below-zero, sum_below-suc, sum_below-same, sum_below-plus, sum_below-const, sum_below-append, sum_below-exchange}
use Rattle.peer_selection.proofs.SeatLemmas.{in_stretch, stretch_step, seats-suc, seats-rounded, cumulative_quota-suc, cumulative_quota-mono}

-- Over all draws each cluster gets as many seats as its quota says, and each rank its part of the quota.

-- the numbers below k * step, row by row
pub sum_below-rows : (g : ℕ → ℕ) (step k : ℕ) → sum_below (λ t. sum_below (λ v. g (v + t * step)) step) k ≡ sum_below g (k * step)
sum_below-rows g step zero = sum_below-zero (λ t. sum_below (λ v. g (v + t * step)) step) ∙ sym (ap (sum_below g) (let e : 0 * step ≡ 0 = omega arith in e) ∙ sum_below-zero g)
sum_below-rows g step (suc k) =
    let longer = ap (sum_below g) (let e : suc k * step ≡ k * step + step = omega arith in e) in
    let turned = sum_below-same (λ v. g (k * step + v)) (λ v. g (v + k * step)) step (λ v l. ap g (let e : k * step + v ≡ v + k * step = omega arith in e)) in
    omega (arith, sum_below-suc (λ t. sum_below (λ v. g (v + t * step)) step) k, longer, sum_below-append g (k * step) step, turned, sum_below-rows g step k)

-- how many numbers lie in a stretch
pub count_below-stretch : (a b n : ℕ) → a ≤ b → b ≤ n → count_below (λ x. leb a x && ltb x b) n + a ≡ b
count_below-stretch a b n h l =
    omega (arith, count_below-split (λ x. ltb x b) (λ x. leb a x && ltb x b) (λ x. ltb x a) n (λ x _. stretch_step a b x h), count_below-ltb a n (omega arith), count_below-ltb b n l)

-- the points in a stretch, over all draws, are its numbers
pub points-all_draws : (step k a b : ℕ) → a ≤ b → b ≤ k * step → sum_below (λ v. count_below (in_stretch step v a b) k) step + a ≡ b
points-all_draws step k a b h l =
    let as_sums = sum_below-same (λ v. count_below (in_stretch step v a b) k) (λ v. sum_below (λ t. one_if (leb a (v + t * step) && ltb (v + t * step) b)) k) step (λ v _. count_below-sum (in_stretch step v a b) k) in
    let exchanged = sum_below-exchange (λ v t. one_if (leb a (v + t * step) && ltb (v + t * step) b)) k step in
    let rows = sum_below-rows (λ x. one_if (leb a x && ltb x b)) step k in
    omega (arith, as_sums, exchanged, rows, count_below-sum (λ x. leb a x && ltb x b) (k * step), count_below-stretch a b (k * step) h l)

rounded_step : (x q : ℕ) → (x ≡ q) ⊎ (x ≡ q + 1) → x ≡ q + one_if (ltb q x)
rounded_step x q (inl e) = omega (arith, ap one_if (le-ltb q x (omega arith)))
rounded_step x q (inr e) = omega (arith, ap one_if (lt-ltb q x (omega arith)))

-- Numbers that are a quotient, or 1 more, and that sum to the dividend.
module _ (step q : ℕ) (s : ℕ → ℕ) (positive : 0 < step) (rounded : (v : ℕ) → v < step → (s v ≡ q / step) ⊎ (s v ≡ q / step + 1)) (whole : sum_below s step ≡ q) where
  -- as many are 1 more as the remainder says
  pub count_below-above : count_below (λ v. ltb (q / step) (s v)) step ≡ q % step
  count_below-above =
      let parts = sum_below-same s (λ v. q / step + one_if (ltb (q / step) (s v))) step (λ v l. rounded_step (s v) (q / step) (rounded v l)) in
      let sums = sum_below-plus (λ v. q / step) (λ v. one_if (ltb (q / step) (s v))) step in
      omega (arith, parts, sums, sum_below-const (q / step) step, count_below-sum (λ v. ltb (q / step) (s v)) step)

  between : (v : ℕ) → v < step → (q / step ≤ s v) × (s v ≤ q / step + 1)
  between v l = elim (rounded v l) [ inl e ↦ (omega arith, omega arith) | inr e ↦ (omega arith, omega arith) ]

  -- how many exceed r: the part of the dividend after r steps, at most a step
  pub count_below-exceeds : (r : ℕ) → count_below (λ v. ltb r (s v)) step ≡ min step (q - r * step)
  count_below-exceeds r =
      elim (cases_lt r (q / step)) [
        | inl l ↦
            let all = count_below-all (λ v. ltb r (s v)) step (λ v vl. lt-ltb r (s v) (omega (arith, (between v vl).0))) in
            omega (arith, all, mul-le-mul_right {m = suc r} {n = q / step} step l)
        | inr l ↦ elim (cases_lt (q / step) r) [
          | inl more ↦
              let none = count_below-none (λ v. ltb r (s v)) step (λ v vl. le-ltb r (s v) (omega (arith, (between v vl).1))) in
              omega (arith, none, mul-le-mul_right {m = suc (q / step)} {n = r} step more)
          | inr no_more ↦
              let same : r ≡ q / step = omega arith in
              let here = ap (λ x. count_below (λ v. ltb x (s v)) step) same in
              omega (arith, here, count_below-above, ap (λ x. x * step) same)
        ]
      ]

-- Of a profile.

-- over all draws a cluster gets as many seats as its quota says
pub seats-all_draws : (f : Profile) (i : ℕ) → cumulative_quota f (suc i) ≤ f.setting.seats * denominator f.setting → sum_below (λ v. seats f (i + 1) v) (denominator f.setting) ≡ quota f (i + 1)
seats-all_draws f i h =
    let step = denominator f.setting in
    let k = f.setting.seats in
    let stretches = sum_below-same (λ v. seats f (i + 1) v) (λ v. count_below (in_stretch step v (cumulative_quota f i) (cumulative_quota f (suc i))) k) step (λ v l. seats-suc f i v) in
    omega (arith, stretches, points-all_draws step k (cumulative_quota f i) (cumulative_quota f (suc i)) (omega (arith, cumulative_quota-suc f i)) h, cumulative_quota-suc f i)

-- the draws at which a cluster gets more than r seats
pub seats-exceed : (f : Profile) (l i r : ℕ) → 0 < denominator f.setting → cumulative_quota f l ≡ f.setting.seats * denominator f.setting → i < l
    → count_below (λ v. ltb r (seats f (i + 1) v)) (denominator f.setting) ≡ min (denominator f.setting) (quota f (i + 1) - r * denominator f.setting)
seats-exceed f l i r positive whole below =
    let step = denominator f.setting in
    count_below-exceeds step (quota f (i + 1)) (λ v. seats f (i + 1) v) positive
    (λ v draw. elim (seats-rounded f v l i draw whole below) [ inl e ↦ inl e | inr e ↦ inr e.0 ])
    (seats-all_draws f i (omega (arith, cumulative_quota-mono f (suc i) l below))) r

rank-positive : (f : Profile) (p : ℕ) → 1 ≤ rank f p
unfolding rank
rank-positive f p = omega arith

-- the chance of an applicant is the part of its cluster's quota after those of better rank, at most 1
pub chance-exact : (f : Profile) (l p : ℕ) → 0 < denominator f.setting → cumulative_quota f l ≡ f.setting.seats * denominator f.setting → 1 ≤ cluster_at f.setting p → cluster_at f.setting p ≤ l
    → chance f p ≡ min (denominator f.setting) (quota f (cluster_at f.setting p) - (rank f p - 1) * denominator f.setting)
unfolding chance selected
chance-exact f l p positive whole low high =
    let step = denominator f.setting in
    let j = cluster_at f.setting p in
    let at : cluster_at f.setting p - 1 + 1 ≡ cluster_at f.setting p = omega arith in
    let better : suc (rank f p - 1) ≡ rank f p = omega (arith, rank-positive f p) in
    let same = ap (λ x. count_below (λ v. leb (rank f p) (seats f x v)) step) (sym at) ∙ ap (λ x. count_below (λ v. leb x (seats f (j - 1 + 1) v)) step) (sym better) in
    let exceed = seats-exceed f l (j - 1) (rank f p - 1) positive whole (omega arith) in
    same ∙ (exceed ∙ ap (λ x. min step (quota f x - (rank f p - 1) * step)) at)
