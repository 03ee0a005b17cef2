-- Points count only on the pairs of an assignment.
use Rattle.std.proofs.Common.{◌≡◌, ℕ, ◌+◌, ◌-◌, ◌%◌, ◌<◌, true, eqb, List, [], ◌∷◌, map, get_or, refl, ap, ◌∙◌}
use Rattle.std.specs.List.{AllByRecursion, position}
use Rattle.std.specs.Option.{option_map_or}
use Rattle.std.proofs.Math.Path.{fun_ext}
use Rattle.std.proofs.lemmas.List.Elements.{recursion_from_All, filter_passes}
use Rattle.house_base.specs.Setting.{size, cluster_at}
use Rattle.peer_selection.specs.Counting.{numbers_below}
use Rattle.peer_selection.specs.Lottery.{seats, selected, chance}
use Rattle.peer_selection.specs.Profile.{Profile, Points, denominator, row, row_points, cents, score, cluster_cents, quota, cumulative_quota, rank}
use Rattle.peer_selection.specs.Split.{cents_at}
use Rattle.peer_selection.proofs.CountingLemmas.{count_below-same, sum_below-same}
use Rattle.peer_selection.proofs.RowLemmas.{row-below}

-- a profile with other points
abbrev pub given : Profile → Points → Profile
given f points = record { setting = f.setting; pairs = f.pairs; points = points }

-- points that agree on the pairs of an assignment
abbrev pub AgreeOnPairs : Profile → Points → Points → Type 0
AgreeOnPairs f a b = (r p : ℕ) → r < size f.setting → p < size f.setting → f.pairs r p ≡ true → a r p ≡ b r p

map-agree : (f g : ℕ → ℕ) (xs : List ℕ) → AllByRecursion (λ x. f x ≡ g x) xs → map f xs ≡ map g xs
map-agree f g [] h = refl
map-agree f g (x ∷ xs) h = ap (λ y. y ∷ map f xs) h.0 ∙ ap (λ ys. g x ∷ ys) (map-agree f g xs h.1)

row_points-agree : (f : Profile) (a b : Points) → AgreeOnPairs f a b → (r : ℕ) → r < size f.setting → map (a r) (row f r) ≡ map (b r) (row f r)
unfolding row
row_points-agree f a b h r l =
    let places = map (λ d. (r + 1 + d) % size f.setting) (numbers_below (size f.setting)) in
    map-agree (a r) (b r) (row f r) (recursion_from_All (λ x. a r x ≡ b r x) (row f r)
    (λ k d within. h r (get_or (row f r) k d) l (row-below f r l k d within) (filter_passes (f.pairs r) places k d within)))

cents-agree : (f : Profile) (a b : Points) → AgreeOnPairs f a b → (r p : ℕ) → r < size f.setting → cents (given f a) r p ≡ cents (given f b) r p
unfolding cents row_points row
cents-agree f a b h r p l = ap (λ points. option_map_or (cents_at points) (position (λ q. eqb q p) (row f r)) 0) (row_points-agree f a b h r l)

-- such points make one score
pub score-agree : (f : Profile) (a b : Points) → AgreeOnPairs f a b → score (given f a) ≡ score (given f b)
unfolding score
score-agree f a b h = fun_ext (λ p. sum_below-same (λ r. cents (given f a) r p) (λ r. cents (given f b) r p) (size f.setting) (λ r l. cents-agree f a b h r p l))

-- Ranks, quotas and chances are made of scores.

module _ (f : Profile) (a b : Points) (same : score (given f a) ≡ score (given f b)) where
  pub rank-of_scores : (p : ℕ) → rank (given f a) p ≡ rank (given f b) p
  unfolding rank
  rank-of_scores p = rw same refl

  pub quota-of_scores : (j : ℕ) → quota (given f a) j ≡ quota (given f b) j
  unfolding quota cluster_cents
  quota-of_scores j = rw same refl

  cumulative-of_scores : (j : ℕ) → cumulative_quota (given f a) j ≡ cumulative_quota (given f b) j
  unfolding cumulative_quota
  cumulative-of_scores j = sum_below-same (λ i. quota (given f a) (i + 1)) (λ i. quota (given f b) (i + 1)) j (λ i l. quota-of_scores (i + 1))

  seats-of_scores : (j v : ℕ) → seats (given f a) j v ≡ seats (given f b) j v
  unfolding seats
  seats-of_scores j v = rw (cumulative-of_scores (j - 1), cumulative-of_scores j) refl

  selected-of_scores : (p v : ℕ) → selected (given f a) p v ≡ selected (given f b) p v
  unfolding selected
  selected-of_scores p v = rw (rank-of_scores p, seats-of_scores (cluster_at f.setting p) v) refl

  pub chance-of_scores : (p : ℕ) → chance (given f a) p ≡ chance (given f b) p
  unfolding chance
  chance-of_scores p = count_below-same (selected (given f a) p) (selected (given f b) p) (denominator f.setting) (λ v l. selected-of_scores p v)
