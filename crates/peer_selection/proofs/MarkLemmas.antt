use Rattle.std.proofs.Common.{◌≡◌, ℕ, suc, ◌+◌, ◌-◌, ◌*◌, ◌/◌, ◌<◌, ◌≤◌, Bool, false, ◌&&◌, ltb, leb, min, sym, ap, ◌∙◌, inl, inr, arith}
use Rattle.std.proofs.lemmas.Bool.{cases_lt}
use Rattle.std.proofs.lemmas.Bool.Decides.{nat_tests}
use Rattle.std.proofs.lemmas.Nat.{div_below}
use Rattle.std.proofs.Math.Nat.{mul-le-mul_right, mul-le-mul_left}
use Rattle.house_base.specs.Setting.{size, cluster_at}
use Rattle.peer_selection.specs.Counting.{count_below, sum_below}
use Rattle.peer_selection.specs.Laws.{IsRounded, IsAssigned}
use Rattle.peer_selection.specs.Marks.{is_marked, marks}
use Rattle.peer_selection.specs.Profile.{Profile, denominator, quota, cumulative_quota, rank}
use Rattle.peer_selection.specs.Lottery.{seats, selected, chance}
use Rattle.peer_selection.proofs.ClusterLemmas.{cluster_at-in_range, cumulative_quota-all, denominator-positive}
use Rattle.peer_selection.proofs.CountingLemmas.{count_below-append, count_below-none, count_below-same}
use Rattle.peer_selection.proofs.SeatLemmas.{in_stretch, points_in_stretch, points_below-div, div-add_cases, seats-suc, cumulative_quota-suc, cumulative_quota-mono}
use Rattle.peer_selection.proofs.ChanceLemmas.{points-all_draws, count_below-exceeds}

-- How many marks of a draw lie in a stretch, at each draw and over all draws.

beyond : (a b x : ℕ) → b ≤ x → (leb a x && ltb x b) ≡ false
beyond a b x h = grind (arith, nat_tests)

-- numbers that all fail add nothing to a count
settled : (test : ℕ → Bool) (m n : ℕ) → ((k : ℕ) → m ≤ k → test k ≡ false) → m ≤ n → count_below test n ≡ count_below test m
settled test m n fails h =
    let apart : m + (n - m) ≡ n = omega arith in
    omega (arith, ap (count_below test) apart, count_below-append test m (n - m), count_below-none (λ i. test (m + i)) (n - m) (λ i l. fails (m + i) (omega arith)))

-- marks past the end of a stretch do not lie in it, so it does not matter how many of them are tried
pub stretch-settled : (den draw a b m n : ℕ) → b ≤ draw + m * den → b ≤ draw + n * den → count_below (in_stretch den draw a b) m ≡ count_below (in_stretch den draw a b) n
stretch-settled den draw a b m n hm hn =
    elim (cases_lt m n) [
      | inl l ↦ sym (settled (in_stretch den draw a b) m n (λ k g. beyond a b (draw + k * den) (omega (arith, mul-le-mul_right {m = m} {n = k} den g))) (omega arith))
      | inr l ↦ settled (in_stretch den draw a b) n m (λ k g. beyond a b (draw + k * den) (omega (arith, mul-le-mul_right {m = n} {n = k} den g))) l
    ]

-- the mark t stands at t or beyond
mark-far : (den draw t : ℕ) → 1 ≤ den → t ≤ draw + t * den
mark-far den draw t h = omega (arith, mul-le-mul_left {m = 1} {n = den} t h)

-- any number of marks that reaches the end of the stretch will do
pub marks-settled : (start width den draw n : ℕ) → 1 ≤ den → start + width ≤ draw + n * den → marks start width den draw ≡ count_below (is_marked start width den draw) n
unfolding marks
marks-settled start width den draw n positive h =
    stretch-settled den draw start (start + width) (start + width) n (mark-far den draw (start + width) positive) h

-- the marks in a stretch are a difference of two quotients
pub marks-div : (start width den draw : ℕ) → draw < den → (start + width + (den - 1 - draw)) / den ≡ marks start width den draw + (start + (den - 1 - draw)) / den
unfolding marks
marks-div start width den draw h =
    let end = start + width in
    let fits : end ≤ end * den = omega (arith, mul-le-mul_left {m = 1} {n = den} end (omega arith)) in
    let from = points_below-div den draw end start h (omega arith) in
    let to = points_below-div den draw end end h fits in
    omega (arith, points_in_stretch den draw end start end (omega arith), from, to)

-- those below an end are one quotient
pub marks-below : (end den draw : ℕ) → draw < den → (end + (den - 1 - draw)) / den ≡ marks 0 end den draw
marks-below end den draw h =
    let all = ap (λ x. (x + (den - 1 - draw)) / den) (let e : end ≡ 0 + end = omega arith in e) in
    let before : (0 + (den - 1 - draw)) / den < 1 = div_below (0 + (den - 1 - draw)) den 1 (omega arith) (omega arith) in
    omega (arith, marks-div 0 end den draw h, all, before)

-- those of a stretch are the ones below its end that do not stand below its start
pub marks-apart : (start width den draw : ℕ) → draw < den → marks 0 (start + width) den draw ≡ marks start width den draw + marks 0 start den draw
marks-apart start width den draw h = omega (arith, marks-div start width den draw h, marks-below (start + width) den draw h, marks-below start den draw h)

-- they are the width over den, rounded
pub marks-rounded : (start width den draw : ℕ) → draw < den → IsRounded (marks start width den draw) width den
marks-rounded start width den draw h =
    let shift : start + width + (den - 1 - draw) ≡ start + (den - 1 - draw) + width = omega arith in
    let moved = ap (λ x. x / den) shift in
    elim (div-add_cases den (start + (den - 1 - draw)) width (omega arith)) [
      | inl e ↦ inl (omega (arith, marks-div start width den draw h, moved, e))
      | inr e ↦ inr (omega (arith, marks-div start width den draw h, moved, e.0), e.1)
    ]

-- over all draws there are as many marks in a stretch as it is wide
pub marks-all_draws : (start width den : ℕ) → 1 ≤ den → sum_below (marks start width den) den ≡ width
unfolding marks
marks-all_draws start width den h =
    let end = start + width in
    omega (arith, points-all_draws den end start end (omega arith) (omega (arith, mul-le-mul_left {m = 1} {n = den} end h)))

-- the draws that put at least so many marks into a stretch: den of them, or what is left of the width
pub marks-reach : (start width den rank : ℕ) → 1 ≤ den → 1 ≤ rank → count_below (λ draw. leb rank (marks start width den draw)) den ≡ min den (width - (rank - 1) * den)
marks-reach start width den rank h positive =
    let before : suc (rank - 1) ≡ rank = omega arith in
    ap (λ r. count_below (λ draw. leb r (marks start width den draw)) den) (sym before)
    ∙ count_below-exceeds den width (marks start width den) (omega arith)
    (λ draw l. elim (marks-rounded start width den draw l) [ inl e ↦ inl e | inr e ↦ inr e.0 ])
    (marks-all_draws start width den h) (rank - 1)

-- Of a profile.

-- the seats of a cluster are the marks in its stretch
pub seats-marks : (f : Profile) (i v : ℕ) → 1 ≤ denominator f.setting → cumulative_quota f (suc i) ≤ f.setting.seats * denominator f.setting → seats f (i + 1) v ≡ marks (cumulative_quota f i) (quota f (i + 1)) (denominator f.setting) v
seats-marks f i v positive within =
    let den = denominator f.setting in
    let end : cumulative_quota f (suc i) ≡ cumulative_quota f i + quota f (i + 1) = cumulative_quota-suc f i in
    seats-suc f i v
    ∙ ap (λ b. count_below (in_stretch den v (cumulative_quota f i) b) f.setting.seats) end
    ∙ sym (marks-settled (cumulative_quota f i) (quota f (i + 1)) den v f.setting.seats positive (omega (arith, end)))

-- ... of a profile with a valid assignment
pub seats-marks_of : (f : Profile) (i v : ℕ) → IsAssigned f → i < f.setting.clusters → seats f (i + 1) v ≡ marks (cumulative_quota f i) (quota f (i + 1)) (denominator f.setting) v
seats-marks_of f i v h below =
    seats-marks f i v (denominator-positive f h.setting)
    (omega (arith, cumulative_quota-mono f (suc i) f.setting.clusters below, cumulative_quota-all f h.setting h.valid))

-- the draws that select an applicant are those that put enough marks into the stretch of its cluster
pub chance-marks_of : (f : Profile) (p : ℕ) → IsAssigned f → p < size f.setting
    → chance f p ≡ count_below (λ v. leb (rank f p) (marks (cumulative_quota f (cluster_at f.setting p - 1)) (quota f (cluster_at f.setting p)) (denominator f.setting) v)) (denominator f.setting)
unfolding chance selected
chance-marks_of f p h l =
    let range = cluster_at-in_range f.setting p h.setting l in
    let j = cluster_at f.setting p in
    let at : cluster_at f.setting p - 1 + 1 ≡ cluster_at f.setting p = omega (arith, range.0) in
    count_below-same (λ v. leb (rank f p) (seats f j v)) (λ v. leb (rank f p) (marks (cumulative_quota f (j - 1)) (quota f j) (denominator f.setting) v)) (denominator f.setting)
    (λ v _. ap (leb (rank f p)) (ap (λ x. seats f x v) (sym at) ∙ (seats-marks_of f (j - 1) v h (omega (arith, range.0, range.1)) ∙ ap (λ x. marks (cumulative_quota f (j - 1)) (quota f x) (denominator f.setting) v) at)))
