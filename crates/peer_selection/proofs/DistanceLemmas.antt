use Rattle.std.proofs.Common.{◌≡◌, ℕ, zero, suc, ◌+◌, ◌-◌, ◌%◌, ◌<◌, Bool, true, List, [], ◌∷◌, length, map, filter, get_or, ◌⊎◌, inl, inr, sym, ap, ◌∙◌, subst, arith}
use Rattle.std.specs.List.{AllPairs, Contains}
use Rattle.std.proofs.lemmas.Bool.{cases_lt, cond-true, cond_both}
use Rattle.std.proofs.lemmas.List.{get_or-map, length-map}
use Rattle.std.proofs.lemmas.List.Elements.{All-contains, filter_passes}
use Rattle.std.proofs.lemmas.List.Kept.{AllPairs-filter}
use Rattle.std.proofs.Math.Nat.{mod-eq_of_lt, mod-eq-sub-mod, mod-lt}
use Rattle.house_base.specs.Setting.{size, distance}
use Rattle.peer_selection.specs.Counting.{numbers_below}
use Rattle.peer_selection.specs.Profile.{Profile, row}
use Rattle.peer_selection.specs.Laws.{RisesInDistance, HoldsReviews}
use Rattle.peer_selection.proofs.CountingLemmas.{length-numbers_below, get_or-numbers_below}
use Rattle.peer_selection.proofs.RowLemmas.{round, round_cases}

-- The row of a reviewer holds the proposals that it reviews, in the order of rising distance.

-- a place so far behind a reviewer stands at that distance
pub distance-round : (n r d : ℕ) → r < n → d < n → distance n r (round n (r + 1) d) ≡ d
unfolding distance
distance-round n r d rl dl =
    elim (round_cases n (r + 1) d (omega arith) dl) [
      | inl x ↦ ap (λ y. y % n) (let e : round n (r + 1) d + n - (r + 1) ≡ d + n = omega (arith, x.0) in e) ∙ (mod-eq-sub-mod {n = d + n} {m = n} (omega arith) ∙ (ap (λ y. y % n) (let e : d + n - n ≡ d = omega arith in e) ∙ mod-eq_of_lt dl))
      | inr x ↦ ap (λ y. y % n) (let e : round n (r + 1) d + n - (r + 1) ≡ d = omega (arith, x.0) in e) ∙ mod-eq_of_lt dl
    ]

turned : (n r p d : ℕ) {e : ℕ} → r < n → p < n → e ≡ d → ((r + 1 + d ≡ p) ⊎ (r + 1 + d ≡ p + n)) → round n (r + 1) e ≡ p
turned n r p d rl pl e (inl h) = ap (round n (r + 1)) e ∙ (ap (λ y. y % n) h ∙ mod-eq_of_lt pl)
turned n r p d rl pl e (inr h) =
    ap (round n (r + 1)) e ∙ (ap (λ y. y % n) h ∙ (mod-eq-sub-mod {n = p + n} {m = n} (omega arith) ∙ (ap (λ y. y % n) (let same : p + n - n ≡ p = omega arith in same) ∙ mod-eq_of_lt pl)))

-- and each place stands at its distance behind the reviewer
pub round-distance : (n r p : ℕ) → r < n → p < n → round n (r + 1) (distance n r p) ≡ p
unfolding distance
round-distance n r p rl pl =
    elim (cases_lt r p) [
      | inl after ↦ turned n r p (p - (r + 1)) rl pl (mod-eq-sub-mod {n = p + n - (r + 1)} {m = n} (omega arith) ∙ (ap (λ y. y % n) (let e : p + n - (r + 1) - n ≡ p - (r + 1) = omega arith in e) ∙ mod-eq_of_lt (let low : p - (r + 1) < n = omega arith in low))) (inl (omega arith))
      | inr before ↦ turned n r p (p + n - (r + 1)) rl pl (mod-eq_of_lt (let low : p + n - (r + 1) < n = omega arith in low)) (inr (omega arith))
    ]

pub distance-below : (n r p : ℕ) → 0 < n → distance n r p < n
unfolding distance
distance-below n r p h = mod-lt (p + n - (r + 1)) h

places_at : (n a i d : ℕ) → i < n → get_or (map (round n a) (numbers_below n)) i d ≡ round n a i
places_at n a i d l =
    get_or-map (round n a) (numbers_below n) i 0 d (omega (arith, length-numbers_below n)) ∙ ap (round n a) (get_or-numbers_below n i 0 l)

length-places : (n a : ℕ) → length (map (round n a) (numbers_below n)) ≡ n
length-places n a = length-map (numbers_below n) (round n a) ∙ length-numbers_below n

places_rise : (n r : ℕ) → r < n → AllPairs (λ p q. distance n r p < distance n r q) (map (round n (r + 1)) (numbers_below n))
places_rise n r l i j d ij jl =
    let jn : j < n = omega (arith, length-places n (r + 1)) in
    let at_i = ap (distance n r) (places_at n (r + 1) i d (omega arith)) ∙ distance-round n r i l (omega arith) in
    let at_j = ap (distance n r) (places_at n (r + 1) j d jn) ∙ distance-round n r j l jn in
    omega (arith, at_i, at_j)

pub row-rises : (f : Profile) (r : ℕ) → r < size f.setting → RisesInDistance f r
unfolding row
row-rises f r l =
    AllPairs-filter (λ p q. distance (size f.setting) r p < distance (size f.setting) r q) (f.pairs r) (map (round (size f.setting) (r + 1)) (numbers_below (size f.setting))) (places_rise (size f.setting) r l)

Contains-later : {X : Type 0} (y x : X) (xs : List X) → Contains xs x → Contains (y ∷ xs) x
Contains-later y x xs h = (suc h.0, omega (arith, h.1), h.2)

-- what passes stays in a filtered list
kept : (test : ℕ → Bool) (xs : List ℕ) (k x : ℕ) → test x ≡ true → k < length xs → get_or xs k x ≡ x → Contains (filter test xs) x
kept test [] k x h l e = absurd (omega arith)
kept test (y ∷ ys) zero x h l e =
    subst (λ zs. Contains zs x) (sym (cond-true (test y) (y ∷ filter test ys) (filter test ys) (ap test e ∙ h))) (0, omega arith, e)
kept test (y ∷ ys) (suc k) x h l e =
    let later = kept test ys k x h (omega arith) e in
    cond_both (test y) (y ∷ filter test ys) (filter test ys) (λ zs. Contains zs x) (λ _. Contains-later y x (filter test ys) later) (λ _. later)

pub row-holds : (f : Profile) (r : ℕ) → r < size f.setting → HoldsReviews f r
unfolding row
row-holds f r l p pl =
    let n = size f.setting in
    let d = distance n r p in
    let near : d < n = distance-below n r p (omega arith) in
    let there = places_at n (r + 1) d p near ∙ round-distance n r p l pl in (
      All-contains (λ q. f.pairs r q ≡ true) (filter (f.pairs r) (map (round n (r + 1)) (numbers_below n))) p (filter_passes (f.pairs r) (map (round n (r + 1)) (numbers_below n))),
      λ h. kept (f.pairs r) (map (round n (r + 1)) (numbers_below n)) d p h (omega (arith, length-places n (r + 1))) there,
    )
