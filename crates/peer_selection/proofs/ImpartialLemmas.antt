use Rattle.std.proofs.Common.{◌≡◌, ℕ, ◌+◌, ◌-◌, ◌*◌, ◌%◌, ◌<◌, ◌≢◌, Bool, false, ◌&&◌, ◌||◌, not, cond, ltb, eqb, min, List, [], ◌∷◌, map, filter, is_some, Some, None, refl, sym, ap, ◌∙◌, inl, inr}
use Rattle.std.specs.List.{position_from, position}
use Rattle.std.specs.Option.{option_map_or}
use Rattle.std.proofs.lemmas.Bool.{both_ways, cases_Bool, cases_eq, cond-false, cond_both, and_parts, and_left, not-true, eqb-true, eq-eqb, ne_eqb}
use Rattle.std.proofs.lemmas.Iterator.Adapters.{position_from-zero}
use Rattle.house_base.specs.Grid.{cell}
use Rattle.house_base.specs.Setting.{size, cluster_at, owner_from, may}
use Rattle.peer_selection.specs.Counting.{numbers_below}
use Rattle.peer_selection.specs.Split.{cents_at}
use Rattle.peer_selection.specs.Profile.{Profile, denominator, row, row_points, cents, score, cluster_cents, quota, rank}
use Rattle.peer_selection.specs.Lottery.{chance}
use Rattle.peer_selection.specs.Laws.{IsAssigned, IsInClusterOf, with_points}
use Rattle.peer_selection.proofs.CountingLemmas.{count_below-same, sum_below-same}
use Rattle.peer_selection.proofs.ValidLemmas.{is_valid-each}
use Rattle.peer_selection.proofs.ClusterLemmas.{cluster_at-in_range, cumulative_quota-all, denominator-positive}
use Rattle.peer_selection.proofs.ChanceLemmas.{chance-exact}

-- What a reviewer says touches only other clusters.

not_kept : (test : ℕ → Bool) (k p : ℕ) (xs : List ℕ) → test p ≡ false → position_from (λ q. eqb q p) k (filter test xs) ≡ None
not_kept test k p [] h = refl
not_kept test k p (x ∷ xs) h =
    cond_both (test x) (x ∷ filter test xs) (filter test xs) (λ ys. position_from (λ q. eqb q p) k ys ≡ None)
    (λ passes. cond-false (eqb x p) (Some k) (position_from (λ q. eqb q p) (k + 1) (filter test xs)) (ne_eqb x p (λ same. both_ways (test p) h (ap test (sym same) ∙ passes)))
    ∙ not_kept test (k + 1) p xs h)
    (λ _. not_kept test k p xs h)

-- a reviewer gives nothing to an applicant that it does not review
pub cents-not_reviewed : (f : Profile) (r p : ℕ) → f.pairs r p ≡ false → cents f r p ≡ 0
unfolding cents row
cents-not_reviewed f r p h =
    let places = map (λ d. (r + 1 + d) % size f.setting) (numbers_below (size f.setting)) in
    ap (λ o. option_map_or (cents_at (row_points f r)) o 0) (position_from-zero (λ q. eqb q p) (filter (f.pairs r) places) ∙ not_kept (f.pairs r) 0 p places h)

-- another reviewer gives what it gave
pub cents-other : (f : Profile) (reviewer r p : ℕ) (points : ℕ → ℕ) → r ≢ reviewer → cents (with_points f reviewer points) r p ≡ cents f r p
unfolding cents row_points row
cents-other f reviewer r p points ne =
    let places = map (λ d. (r + 1 + d) % size f.setting) (numbers_below (size f.setting)) in
    ap (λ b. option_map_or (cents_at (map (λ q. cond b (points q) (f.points r q)) (filter (f.pairs r) places))) (position (λ q. eqb q p) (filter (f.pairs r) places)) 0) (ne_eqb r reviewer ne)

-- nobody reviews its own cluster
pub not_reviewed : (f : Profile) (r p : ℕ) → IsAssigned f → r < size f.setting → p < size f.setting → cluster_at f.setting p ≡ cluster_at f.setting r → f.pairs r p ≡ false
unfolding may
not_reviewed f r p h rl pl same =
    elim (cases_Bool (f.pairs r p)) [
      | inl reviews ↦
          let allowed = (is_valid-each f.setting f.pairs h.valid).permitted r p rl pl reviews in
          let parts = and_parts (is_some (owner_from f.setting r) && not (eqb (cluster_at f.setting r) (cluster_at f.setting p))) (not (cell f.setting.barred r p)) allowed in
          let apart = and_parts (is_some (owner_from f.setting r)) (not (eqb (cluster_at f.setting r) (cluster_at f.setting p))) parts.0 in
          absurd (both_ways (eqb (cluster_at f.setting r) (cluster_at f.setting p)) (not-true (eqb (cluster_at f.setting r) (cluster_at f.setting p)) apart.1) (eq-eqb (cluster_at f.setting r) (cluster_at f.setting p) (sym same)))
      | inr none ↦ none
    ]

module _ (f : Profile) (reviewer : ℕ) (points : ℕ → ℕ) (assigned : IsAssigned f) where
  cents-same : (r p : ℕ) → r < size f.setting → IsInClusterOf f reviewer p → cents (with_points f reviewer points) r p ≡ cents f r p
  cents-same r p rl own =
      elim (cases_eq r reviewer) [
        | inl self ↦
            let none = not_reviewed f r p assigned rl own.0 (own.1 ∙ ap (cluster_at f.setting) (sym self)) in
            cents-not_reviewed (with_points f reviewer points) r p none ∙ sym (cents-not_reviewed f r p none)
        | inr other ↦ cents-other f reviewer r p points other
      ]

  pub score-same : (p : ℕ) → IsInClusterOf f reviewer p → score (with_points f reviewer points) p ≡ score f p
  unfolding score
  score-same p own = sum_below-same (λ r. cents (with_points f reviewer points) r p) (λ r. cents f r p) (size f.setting) (λ r rl. cents-same r p rl own)

  pub cluster_cents-same : cluster_cents (with_points f reviewer points) (cluster_at f.setting reviewer) ≡ cluster_cents f (cluster_at f.setting reviewer)
  unfolding cluster_cents
  cluster_cents-same =
      let j = cluster_at f.setting reviewer in
      sum_below-same (λ p. cond (eqb (cluster_at f.setting p) j) (score (with_points f reviewer points) p) 0) (λ p. cond (eqb (cluster_at f.setting p) j) (score f p) 0) (size f.setting)
      (λ p pl. elim (cases_Bool (eqb (cluster_at f.setting p) j)) [
        | inl member ↦ ap (λ x. cond (eqb (cluster_at f.setting p) j) x 0) (score-same p (pl, eqb-true (cluster_at f.setting p) j member))
        | inr other ↦ cond-false (eqb (cluster_at f.setting p) j) (score (with_points f reviewer points) p) 0 other ∙ sym (cond-false (eqb (cluster_at f.setting p) j) (score f p) 0 other)
      ])

  pub quota-same : quota (with_points f reviewer points) (cluster_at f.setting reviewer) ≡ quota f (cluster_at f.setting reviewer)
  unfolding quota
  quota-same = ap (λ x. f.setting.seats * x) cluster_cents-same

  pub rank-same : (p : ℕ) → IsInClusterOf f reviewer p → rank (with_points f reviewer points) p ≡ rank f p
  unfolding rank
  rank-same p own =
      let g = with_points f reviewer points in
      let member = λ (q : ℕ). eqb (cluster_at f.setting q) (cluster_at f.setting p) in
      let best = λ (x y q : ℕ). ltb x y || (eqb y x && ltb q p) in
      ap (λ n. 1 + n) (count_below-same (λ q. member q && best (score g p) (score g q) q) (λ q. member q && best (score f p) (score f q) q) (size f.setting)
      (λ q ql. elim (cases_Bool (member q)) [
        | inl here ↦
            ap (λ x. member q && best x (score g q) q) (score-same p own)
            ∙ ap (λ y. member q && best (score f p) y q) (score-same q (ql, eqb-true (cluster_at f.setting q) (cluster_at f.setting p) here ∙ own.1))
        | inr other ↦ and_left (member q) (best (score g p) (score g q) q) other ∙ sym (and_left (member q) (best (score f p) (score f q) q) other)
      ]))

  exact : (g : Profile) (p : ℕ) → IsAssigned g → p < size g.setting → chance g p ≡ min (denominator g.setting) (quota g (cluster_at g.setting p) - (rank g p - 1) * denominator g.setting)
  exact g p h l =
      let range = cluster_at-in_range g.setting p h.setting l in
      chance-exact g g.setting.clusters p (denominator-positive g h.setting) (cumulative_quota-all g h.setting h.valid) range.0 range.1

  pub chance-same : (p : ℕ) → IsInClusterOf f reviewer p → chance (with_points f reviewer points) p ≡ chance f p
  chance-same p own =
      let step = denominator f.setting in
      let g = with_points f reviewer points in
      let still : IsAssigned g = record { setting = assigned.setting; valid = assigned.valid } in
      let quotas = ap (quota g) own.1 ∙ (quota-same ∙ ap (quota f) (sym own.1)) in
      exact g p still own.0
      ∙ (ap (λ x. min step (x - (rank g p - 1) * step)) quotas
      ∙ (ap (λ x. min step (quota f (cluster_at f.setting p) - (x - 1) * step)) (rank-same p own)
      ∙ sym (exact f p assigned own.0)))
