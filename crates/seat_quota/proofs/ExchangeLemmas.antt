use Rattle.std.proofs.Common.{◌≡◌, ◌≢◌, ℕ, zero, suc, ◌+◌, ◌-◌, ◌*◌, ◌^◌, ◌<◌, ◌≤◌, cond, eqb, List, [], ◌∷◌, length, map, get_or, set, refl, sym, ap, subst, ◌∙◌, add-one, inl, inr, arith, position, AllPairs, Some}
use Rattle.std.proofs.lemmas.Bool.{cond-true, cond-false, cases_eq, ne_eqb, eq-eqb}
use Rattle.std.proofs.lemmas.List.{get_or_default, get_or-set_same, get_or-set_other, length-set, take_all}
use Rattle.std.specs.Option.{option_map_or}
use Rattle.std.proofs.Math.Nat.{mul-le-mul}
use Rattle.std.specs.List.{slice_get}
use Rattle.house_base.specs.declared.limits.TheConstants.{DOLLAR, MOST_APPLICANTS}
use Rattle.house_base.specs.declared.plan.Person.{Person}
use Rattle.house_base.specs.Setting.{Setting, IsSetting, size, cluster_at}
use Rattle.house_base.proofs.Settings.{cluster_at-read}
use Rattle.peer_selection.specs.Counting.{sum_below}
use Rattle.peer_selection.specs.Profile.{Pairs, Points, row, row_points, cents, score, profile_on}
use Rattle.peer_selection.specs.Split.{cents_at}
use Rattle.peer_selection.proofs.CountingLemmas.{sum_below-suc, sum_below-same, sum_below-term}
use Rattle.peer_selection.proofs.RowLemmas.{row-below}
use Rattle.peer_selection.proofs.SplitLemmas.{cents-sum}
use Rattle.seat_quota.specs.Totals.{Shares, IsSummed, cluster_sum, found_in}
use Rattle.seat_quota.proofs.GivenLemmas.{found, found_here, found_elsewhere}
use Rattle.seat_quota.proofs.TotalLemmas.{person-in_range, cluster_sum-most}

-- a sum of which one term is another
pub sum_below-change : (f g : ℕ → ℕ) (n at : ℕ) → at < n → ((i : ℕ) → i < n → i ≢ at → f i ≡ g i) → sum_below f n + g at ≡ sum_below g n + f at
sum_below-change f g zero at l h = absurd (omega arith)
sum_below-change f g (suc n) at l h =
    let f_more = sum_below-suc f n in
    let g_more = sum_below-suc g n in
    elim (cases_eq n at) [
      | inl e ↦
          let front = sum_below-same f g n (λ i il. h i (omega arith) (λ s. absurd (omega (arith, s, e)))) in
          omega (arith, f_more, g_more, front, ap f e, ap g e)
      | inr ne ↦
          let rest = sum_below-change f g n at (omega arith) (λ i il other. h i (omega arith) other) in
          omega (arith, f_more, g_more, rest, h n (omega arith) ne)
    ]

-- the sum of a cluster of which one member has another number
pub cluster_sum-change : (s : Setting) (f g : ℕ → ℕ) (j n at : ℕ) → at < n → ((i : ℕ) → i < n → i ≢ at → f i ≡ g i) →
    cluster_sum s f j n + cond (eqb (cluster_at s at) j) (g at) 0 ≡ cluster_sum s g j n + cond (eqb (cluster_at s at) j) (f at) 0
cluster_sum-change s f g j n at l h =
    sum_below-change (λ p. cond (eqb (cluster_at s p) j) (f p) 0) (λ p. cond (eqb (cluster_at s p) j) (g p) 0) n at l
    (λ i il ne. ap (λ x. cond (eqb (cluster_at s i) j) x 0) (h i il ne))

-- a member's number is part of its cluster's sum
pub cluster_sum-member : (s : Setting) (f : ℕ → ℕ) (j n at : ℕ) → at < n → cluster_at s at ≡ j → f at ≤ cluster_sum s f j n
cluster_sum-member s f j n at l e =
    omega (arith, sum_below-term (λ p. cond (eqb (cluster_at s p) j) (f p) 0) at n l, cond-true (eqb (cluster_at s at) j) (f at) 0 (eq-eqb (cluster_at s at) j e))

-- after the exchange of one member's number the cluster sums are those of the numbers
pub sums-exchanged : (s : Setting) (t : Shares) (place at score sum before after : ℕ) → IsSummed s t → place < size s → at + 1 ≡ cluster_at s place → at < s.clusters →
    before ≤ get_or t.scores place 0 → score ≡ get_or t.scores place 0 - before + after → sum ≡ get_or t.clusters at 0 - before + after →
    IsSummed s (record { scores = set t.scores place score; clusters = set t.clusters at sum; den = t.den })
sums-exchanged s t place at score sum before after h l own within enough is_score is_sum = record {
  scores = length-set t.scores place score ∙ h.scores;
  clusters = length-set t.clusters at sum ∙ h.clusters;
  sums = λ j jl.
      let old = λ (p : ℕ). get_or t.scores p 0 in
      let new = λ (p : ℕ). get_or (set t.scores place score) p 0 in
      let here = get_or-set_same t.scores place score 0 (omega (arith, h.scores)) in
      let change = cluster_sum-change s new old (j + 1) (size s) place l (λ i il ne. get_or-set_other t.scores place i score 0 ne) in
      let was = h.sums j jl in
      elim (cases_eq j at) [
        | inl e ↦
            let mine = eq-eqb (cluster_at s place) (j + 1) (omega arith) in
            let new_part = cond-true (eqb (cluster_at s place) (j + 1)) (new place) 0 mine in
            let old_part = cond-true (eqb (cluster_at s place) (j + 1)) (old place) 0 mine in
            let same = ap (λ k. get_or (set t.clusters at sum) k 0) e ∙ get_or-set_same t.clusters at sum 0 (omega (arith, h.clusters)) in
            let member = cluster_sum-member s old (j + 1) (size s) place l (omega arith) in
            omega (arith, same, change, new_part, old_part, here, was, ap (λ k. get_or t.clusters k 0) e, is_score, is_sum, member)
        | inr ne ↦
            let theirs = ne_eqb (cluster_at s place) (j + 1) (λ e. ne (omega arith)) in
            let new_part = cond-false (eqb (cluster_at s place) (j + 1)) (new place) 0 theirs in
            let old_part = cond-false (eqb (cluster_at s place) (j + 1)) (old place) 0 theirs in
            omega (arith, get_or-set_other t.clusters at j sum 0 ne, change, new_part, old_part, was)
      ];
}

-- the cluster of an applicant, as an index
pub record IsClusterOf (s : Setting) (place at : ℕ) : Type 0 where
  pub own : at + 1 ≡ cluster_at s place
  pub within : at < s.clusters

pub cluster-of : (s : Setting) (place : ℕ) (a : Person) → IsSetting s → place < size s → slice_get s.people place ≡ Some a → IsClusterOf s place (a.cluster - 1)
cluster-of s place a h l at =
    let range = person-in_range s place a h l at in
    let here = cluster_at-read s place a at in
    record { own = omega (arith, range.0, here); within = omega (arith, range.0, range.1) }

-- what stands for a cluster, where it is read
pub sum-read : (s : Setting) (t : Shares) (place at read : ℕ) → IsSummed s t → IsClusterOf s place at → read ≡ get_or t.clusters at read →
    (read ≡ get_or t.clusters at 0) × (read ≡ cluster_sum s (λ p. get_or t.scores p 0) (at + 1) (size s))
sum-read s t place at read h cluster is =
    let value = is ∙ get_or_default t.clusters at read 0 (omega (arith, h.clusters, cluster.within)) in
    (value, value ∙ h.sums at cluster.within)

pub sum-fits : (s : Setting) (t : Shares) (j before after : ℕ) → IsSetting s → ((p : ℕ) → p < size s → get_or t.scores p 0 ≤ size s * DOLLAR + DOLLAR) → after ≤ DOLLAR →
    cluster_sum s (λ p. get_or t.scores p 0) j (size s) - before + after < 2 ^ 64
sum-fits s t j before after h most few =
    let sum = cluster_sum-most s (λ p. get_or t.scores p 0) j (size s) (size s * DOLLAR + DOLLAR) most in
    let each : size s * DOLLAR + DOLLAR ≤ MOST_APPLICANTS * DOLLAR + DOLLAR = omega (arith, h.few) in
    let all = mul-le-mul {n₁ = size s} {m₁ = size s * DOLLAR + DOLLAR} {n₂ = MOST_APPLICANTS} {m₂ = MOST_APPLICANTS * DOLLAR + DOLLAR} h.few each in
    omega (arith, sum, all)

-- Along a row.

-- the cents of a list of numbers
abbrev pub item : List ℕ → ℕ → ℕ
item xs i = get_or xs i 0

-- a proposal that is to come has the score that it had
pub score-waits : (row now initial before after : List ℕ) (i : ℕ) → AllPairs (λ x y. x ≢ y) row → i < length row →
    item now (item row i) + found (item before) row i (item row i) ≡ item initial (item row i) + found (item after) row i (item row i) → item now (item row i) ≡ item initial (item row i)
score-waits row now initial before after i apart l h =
    omega (arith, h, (found_here (item before) row i apart l).0, (found_here (item after) row i apart l).0)

-- one more proposal has its new cents
pub score-exchanged : (row now new initial before after : List ℕ) (i n p : ℕ) → AllPairs (λ x y. x ≢ y) row → i < length row → item row i < n →
    ((q : ℕ) → q < n → item now q + found (item before) row i q ≡ item initial q + found (item after) row i q) →
    item new (item row i) + item before i ≡ item now (item row i) + item after i →
    ((q : ℕ) → q < n → q ≢ item row i → item new q ≡ item now q) →
    p < n → item new p + found (item before) row (i + 1) p ≡ item initial p + found (item after) row (i + 1) p
score-exchanged row now new initial before after i n p apart l within h own others pl =
    let x = item row i in
    elim (cases_eq x p) [
      | inl e ↦
          let Q : ℕ → Type 0 = λ q. item new q + found (item before) row (i + 1) q ≡ item initial q + found (item after) row (i + 1) q in
          let waits = score-waits row now initial before after i apart l (h x within) in
          subst Q e (omega (arith, own, waits, (found_here (item before) row i apart l).1, (found_here (item after) row i apart l).1))
      | inr ne ↦
          let other : p ≢ x = λ e. ne (sym e) in
          omega (arith, others p pl other, h p pl, found_elsewhere (item before) row i p l ne, found_elsewhere (item after) row i p l ne)
    ]

-- no score grows past a dollar more
pub score-grown : (now new initial : List ℕ) (x b a n most p : ℕ) → item new x + b ≡ item now x + a → a ≤ DOLLAR → item now x ≤ most →
    ((q : ℕ) → q < n → item now q ≤ most + DOLLAR) → ((q : ℕ) → q < n → q ≢ x → item new q ≡ item now q) → p < n → item new p ≤ most + DOLLAR
score-grown now new initial x b a n most p own few within h others pl =
    elim (cases_eq p x) [
      | inl e ↦ omega (arith, own, few, within, ap (item new) e)
      | inr ne ↦ omega (arith, others p pl ne, h p pl)
    ]

-- what a whole row has for each of its proposals
pub found_kept : (c : ℕ → ℕ) (row : List ℕ) (i n : ℕ) → AllPairs (λ x y. x ≢ y) row → i < n → n ≤ length row → found c row n (item row i) ≡ c i
found_kept c row i zero apart l h = absurd (omega arith)
found_kept c row i (suc n) apart l h =
    elim (cases_eq n i) [
      | inl e ↦
          let P : ℕ → Type 0 = λ k. found c row (suc k) (item row i) ≡ c i in
          subst P (sym e) (ap (λ k. found c row k (item row i)) (sym (add-one i)) ∙ (found_here c row i apart (omega arith)).1)
      | inr ne ↦
          let other : item row n ≢ item row i = λ e. apart i n 0 (omega arith) (omega arith) (sym e) in
          ap (λ k. found c row k (item row i)) (sym (add-one n)) ∙ (found_elsewhere c row n (item row i) (omega arith) other ∙ found_kept c row i n apart (omega arith) (omega arith))
    ]

pub found_whole : (numbers row : List ℕ) (i : ℕ) → AllPairs (λ x y. x ≢ y) row → i < length row → found_in numbers row (item row i) ≡ item numbers i
found_whole numbers row i apart l =
    ap (λ xs. found_in numbers xs (item row i)) (sym (take_all (length row) row (omega arith))) ∙ found_kept (item numbers) row i (length row) apart l (omega arith)

-- Other points of one reviewer.

pub map-same : (f g : ℕ → ℕ) (xs : List ℕ) → ((k : ℕ) → k < length xs → f (get_or xs k 0) ≡ g (get_or xs k 0)) → map f xs ≡ map g xs
map-same f g [] h = refl
map-same f g (x ∷ xs) h = ap (λ y. y ∷ map f xs) (h 0 (omega arith)) ∙ ap (λ ys. g x ∷ ys) (map-same f g xs (λ k l. h (suc k) (omega arith)))

-- a reviewer with the same points gives the same cents
pub cents-same : (s : Setting) (pairs : Pairs) (q q' : Points) (r p : ℕ) → r < size s → ((k : ℕ) → k < size s → q' r k ≡ q r k) → cents (profile_on s pairs q') r p ≡ cents (profile_on s pairs q) r p
unfolding cents row_points row
cents-same s pairs q q' r p l h =
    let xs = row (profile_on s pairs q) r in
    ap (λ ys. option_map_or (cents_at ys) (position (λ x. eqb x p) xs) 0) (map-same (q' r) (q r) xs (λ k kl. h (item xs k) (row-below (profile_on s pairs q) r l k 0 kl)))

-- a score of which one reviewer's part is another
pub score-change : (s : Setting) (pairs : Pairs) (q q' : Points) (r p : ℕ) → r < size s → ((i k : ℕ) → i < size s → k < size s → i ≢ r → q' i k ≡ q i k) →
    score (profile_on s pairs q') p + cents (profile_on s pairs q) r p ≡ score (profile_on s pairs q) p + cents (profile_on s pairs q') r p
unfolding score
score-change s pairs q q' r p l h =
    sum_below-change (λ i. cents (profile_on s pairs q') i p) (λ i. cents (profile_on s pairs q) i p) (size s) r l
    (λ i il ne. cents-same s pairs q q' i p il (λ k kl. h i k il kl ne))

-- no proposal gets more than the dollar
pub cents_at-most : (points : List ℕ) (i : ℕ) → i < length points → cents_at points i ≤ DOLLAR
cents_at-most points i l = omega (arith, sum_below-term (cents_at points) i (length points) l, cents-sum points (omega arith))
