use Rattle.std.proofs.Common.{◌≡◌, ℕ, suc, ◌+◌, ◌-◌, ◌<◌, ◌≤◌, Bool, ◌&&◌, ltb, leb, eqb, refl, sym, ap, ◌∙◌, inl, inr, arith}
use Rattle.std.proofs.lemmas.Bool.{or_left, lt-ltb, cases_Bool, and_left, eqb-true, eq-eqb, ne_eqb}
use Rattle.house_base.specs.Setting.{size, cluster_at, IsSetting}
use Rattle.peer_selection.specs.Counting.{count_below, sum_below}
use Rattle.peer_selection.specs.Profile.{Profile, score, cluster_size, rank}
use Rattle.peer_selection.specs.Lottery.{seats, selected, filled, empty_seats}
use Rattle.peer_selection.specs.Laws.{SeatsAreFilled, RankIsInCluster, ShareCluster}
use Rattle.peer_selection.proofs.CountingLemmas.{one_if, count_below-same, count_below-sum, sum_below-same, sum_below-only, sum_below-plus, sum_below-exchange}
use Rattle.peer_selection.proofs.OrderLemmas.{IsStrictOrder, number_before, number_before-below, number_before-apart, number_before-less, count_below-first_members}
use Rattle.peer_selection.proofs.SplitLemmas.{larger_first, larger_first-irreflexive, larger_first-transitive, larger_first-total}
use Rattle.peer_selection.proofs.ClusterLemmas.{cluster_at-in_range}

-- Who is selected: in each cluster the members of best rank, as many as there are seats.

-- whether one applicant goes before another: by the greater score, and then by the smaller place
abbrev pub goes_before : Profile → ℕ → ℕ → Bool
goes_before f q p = larger_first (score f q) (score f p) q p

pub goes_before-order : (f : Profile) (n : ℕ) → IsStrictOrder (goes_before f) n
goes_before-order f n =
    record {
      irreflexive = λ i il. larger_first-irreflexive (score f i) i;
      transitive = λ i j k il jl kl h g. larger_first-transitive (score f i) (score f j) (score f k) i j k h g;
      total = λ i j il jl ne. larger_first-total (score f i) (score f j) i j ne;
    }

-- whether an applicant is a member of a cluster
abbrev pub is_member : Profile → ℕ → ℕ → Bool
is_member f j p = eqb (cluster_at f.setting p) j

pub rank-before : (f : Profile) (p : ℕ) → rank f p ≡ suc (number_before (is_member f (cluster_at f.setting p)) (goes_before f) (size f.setting) p)
unfolding rank
rank-before f p = omega arith

-- the rank of a member of the cluster j
rank-member : (f : Profile) (j p : ℕ) → cluster_at f.setting p ≡ j → rank f p ≡ suc (number_before (is_member f j) (goes_before f) (size f.setting) p)
rank-member f j p h = rank-before f p ∙ ap (λ x. suc (number_before (is_member f x) (goes_before f) (size f.setting) p)) h

pub rank-within : (f : Profile) (p : ℕ) → RankIsInCluster f p
unfolding cluster_size
rank-within f p l =
    let j = cluster_at f.setting p in
    let few = number_before-below (is_member f j) (goes_before f) (size f.setting) p (goes_before-order f (size f.setting)) l (eq-eqb j j refl) in
    (omega (arith, rank-before f p), omega (arith, rank-before f p, few))

pub rank-apart : (f : Profile) (p q : ℕ) → ShareCluster f p q → rank f p ≡ rank f q → p ≡ q
rank-apart f p q h e =
    let j = cluster_at f.setting q in
    number_before-apart (is_member f j) (goes_before f) (size f.setting) p q (goes_before-order f (size f.setting)) h.first h.second
    (eq-eqb (cluster_at f.setting p) j h.cluster) (eq-eqb j j refl) (omega (arith, rank-member f j p h.cluster, rank-member f j q refl, e))

pub rank-falls : (f : Profile) (p q : ℕ) → ShareCluster f p q → score f q < score f p → rank f p < rank f q
rank-falls f p q h less =
    let j = cluster_at f.setting q in
    let before = or_left (ltb (score f q) (score f p)) (eqb (score f p) (score f q) && ltb p q) (lt-ltb (score f q) (score f p) less) in
    let fewer = number_before-less (is_member f j) (goes_before f) (size f.setting) p q (goes_before-order f (size f.setting)) h.first h.second
    (eq-eqb (cluster_at f.setting p) j h.cluster) before in
    omega (arith, rank-member f j p h.cluster, rank-member f j q refl, fewer)

-- a member is selected where fewer members go before it than there are seats
selected-member : (f : Profile) (j v p : ℕ) → (is_member f j p && selected f p v) ≡ (is_member f j p && ltb (number_before (is_member f j) (goes_before f) (size f.setting) p) (seats f j v))
unfolding selected
selected-member f j v p =
    elim (cases_Bool (is_member f j p)) [
      | inl member ↦
          let here = eqb-true (cluster_at f.setting p) j member in
          ap (λ b. is_member f j p && b) (ap (λ x. leb x (seats f (cluster_at f.setting p) v)) (rank-before f p)
          ∙ ap (λ x. ltb (number_before (is_member f x) (goes_before f) (size f.setting) p) (seats f x v)) here)
      | inr other ↦ and_left (is_member f j p) (leb (rank f p) (seats f (cluster_at f.setting p) v)) other
          ∙ sym (and_left (is_member f j p) (ltb (number_before (is_member f j) (goes_before f) (size f.setting) p) (seats f j v)) other)
    ]

-- in a cluster as many are selected as it fills seats
pub selected-filled : (f : Profile) (j v : ℕ) → SeatsAreFilled f j v
unfolding filled cluster_size
selected-filled f j v =
    count_below-same (λ p. is_member f j p && selected f p v) (λ p. is_member f j p && ltb (number_before (is_member f j) (goes_before f) (size f.setting) p) (seats f j v)) (size f.setting) (λ p l. selected-member f j v p)
    ∙ count_below-first_members (is_member f j) (goes_before f) (size f.setting) (seats f j v) (goes_before-order f (size f.setting))

-- each applicant is counted in its own cluster
counted_once : (f : Profile) (v p : ℕ) → IsSetting f.setting → p < size f.setting → sum_below (λ i. one_if (is_member f (i + 1) p && selected f p v)) f.setting.clusters ≡ one_if (selected f p v)
counted_once f v p h l =
    let range = cluster_at-in_range f.setting p h l in
    let own = cluster_at f.setting p - 1 in
    let here = eq-eqb (cluster_at f.setting p) (own + 1) (omega (arith, range.0)) in
    sum_below-only (λ i. one_if (is_member f (i + 1) p && selected f p v)) f.setting.clusters own (omega (arith, range.0, range.1))
    (λ i il ne. ap one_if (and_left (is_member f (i + 1) p) (selected f p v) (ne_eqb (cluster_at f.setting p) (i + 1) (λ e. ne (omega (arith, e))))))
    ∙ ap (λ b. one_if (b && selected f p v)) here

-- all who are selected, cluster by cluster
pub selected-clusters : (f : Profile) (v : ℕ) → IsSetting f.setting → count_below (λ p. selected f p v) (size f.setting) ≡ sum_below (λ i. filled f (i + 1) v) f.setting.clusters
selected-clusters f v h =
    let n = size f.setting in
    let l = f.setting.clusters in
    let split = sum_below-same (λ p. one_if (selected f p v)) (λ p. sum_below (λ i. one_if (is_member f (i + 1) p && selected f p v)) l) n (λ p pl. sym (counted_once f v p h pl)) in
    let each = sum_below-same (λ i. sum_below (λ p. one_if (is_member f (i + 1) p && selected f p v)) n) (λ i. filled f (i + 1) v) l
    (λ i il. sym (count_below-sum (λ p. is_member f (i + 1) p && selected f p v) n) ∙ selected-filled f (i + 1) v) in
    count_below-sum (λ p. selected f p v) n ∙ (split ∙ (sum_below-exchange (λ p i. one_if (is_member f (i + 1) p && selected f p v)) l n ∙ each))

filled-le : (f : Profile) (j v : ℕ) → filled f j v ≤ seats f j v
unfolding filled
filled-le f j v = omega arith

-- with the empty seats they are the clusters' seats
pub selected-empty : (f : Profile) (v : ℕ) → IsSetting f.setting → count_below (λ p. selected f p v) (size f.setting) + empty_seats f v ≡ sum_below (λ i. seats f (i + 1) v) f.setting.clusters
unfolding empty_seats
selected-empty f v h =
    let l = f.setting.clusters in
    let both = sum_below-plus (λ i. filled f (i + 1) v) (λ i. seats f (i + 1) v - filled f (i + 1) v) l in
    let whole = sum_below-same (λ i. filled f (i + 1) v + (seats f (i + 1) v - filled f (i + 1) v)) (λ i. seats f (i + 1) v) l (λ i il. omega (arith, filled-le f (i + 1) v)) in
    omega (arith, selected-clusters f v h, both, whole)
