use Rattle.std.proofs.Common.{◌≡◌, ℕ, ◌+◌, ◌*◌, ◌^◌, ◌<◌, ◌≤◌, Bool, true, false, cond, eqb, List, length, map, get_or, set, Option, Some, None, refl, ap, ◌∙◌, inl, inr, arith, position}
use Rattle.std.specs.List.{slice_get}
use Rattle.std.specs.Option.{option_map_or}
use Rattle.std.proofs.lemmas.Bool.{cond-true, cond-false, cases_eq, ne_eqb, eq-eqb}
use Rattle.std.proofs.lemmas.List.{get_or-set_same, get_or-set_other}
use Rattle.house_base.specs.declared.limits.TheConstants.{DOLLAR}
use Rattle.house_base.specs.declared.plan.Person.{Person}
use Rattle.house_base.specs.Setting.{Setting, IsSetting, size, cluster_at}
use Rattle.house_base.proofs.Settings.{cluster_at-read}
use Rattle.house_base.specs.Grid.{cell}
use Rattle.peer_selection.specs.Counting.{count_below, sum_below}
use Rattle.peer_selection.specs.Split.{cents_at}
use Rattle.peer_selection.specs.Profile.{Profile, row, row_points, cents, score}
use Rattle.peer_selection.proofs.CountingLemmas.{sum_below-add_one, sum_below-term, sum_below-le, sum_below-same}
use Rattle.review_desk.specs.Desk.{Marks, desk_profile}
use Rattle.seat_quota.specs.Totals.{cluster_sum, row_among, IsRow}
use Rattle.seat_quota.proofs.GivenLemmas.{cents_found}
use Rattle.std.proofs.Math.Nat.{mul-le-mul}
use Rattle.house_base.specs.declared.plan.Owner.{Owner}
use Rattle.house_base.specs.declared.limits.TheConstants.{MOST_OWN, MOST_REVIEWS, MOST_APPLICANTS}
use Rattle.house_base.specs.Setting.{need, owner_from}
use Rattle.house_base.proofs.Settings.{need-le, length-StandInTurn}
use Rattle.peer_selection.specs.Profile.{denominator, cluster_cents, is_valid}
use Rattle.peer_selection.proofs.ClusterLemmas.{cluster_at-in_range, cluster_cents-all}
use Rattle.peer_selection.proofs.RowLemmas.{length-row, length-row_points, row-below, row-distinct, cents-dollar, cents-nothing}
use Rattle.std.proofs.lemmas.Bool.Decides.{Decides-eqb}
use Rattle.std.proofs.lemmas.Map.Made.{AllPairs-from_IsDistinct}
use Rattle.peer_selection.proofs.ValidLemmas.{is_valid-each}

-- Persons and bounds.

pub person-in_range : (s : Setting) (p : ℕ) (a : Person) → IsSetting s → p < size s → slice_get s.people p ≡ Some a → (1 ≤ a.cluster) × (a.cluster ≤ s.clusters)
person-in_range s p a h l at =
    let range = cluster_at-in_range s p h l in
    let e = cluster_at-read s p a at in
    (omega (arith, e, range.0), omega (arith, e, range.1))

need-by : (s : Setting) (p : ℕ) (o : Option Owner) → IsSetting s → owner_from s p ≡ o → option_map_or (λ owner. s.reviews * owner.own) o 0 ≤ MOST_REVIEWS * MOST_OWN
need-by s p None h e = omega arith
need-by s p (Some owner) h e = need-le s p owner h e

pub need-most : (s : Setting) (p : ℕ) → IsSetting s → need s p ≤ MOST_REVIEWS * MOST_OWN
unfolding need
need-most s p h = need-by s p (owner_from s p) h refl

-- no person reviews more than so many
pub row-few : (f : Profile) (r : ℕ) → IsSetting f.setting → is_valid f.setting f.pairs ≡ true → r < size f.setting → length (row_points f r) ≤ MOST_REVIEWS * MOST_OWN
row-few f r h valid l =
    omega (arith, length-row_points f r, length-row f r l, (is_valid-each f.setting f.pairs valid).owed r l, need-most f.setting r h)

pub den-le : (s : Setting) → IsSetting s → denominator s ≤ MOST_APPLICANTS * DOLLAR
unfolding denominator
den-le s h = omega (arith, length-StandInTurn 0 s.owners (size s) h.own h.in_turn, h.few)

-- no more than a dollar comes from one person
pub cents-most : (f : Profile) (r p : ℕ) → r < size f.setting → p < size f.setting → cents f r p ≤ DOLLAR
cents-most f r p rl pl =
    let term = sum_below-term (cents f r) p (size f.setting) pl in
    elim (cases_eq (count_below (f.pairs r) (size f.setting)) 0) [
      | inl none ↦ omega (arith, term, cents-nothing f r rl none)
      | inr some ↦ omega (arith, term, cents-dollar f r rl (omega arith))
    ]

pub cents-sum_most : (f : Profile) (p n : ℕ) → n ≤ size f.setting → p < size f.setting → sum_below (λ r. cents f r p) n ≤ size f.setting * DOLLAR
cents-sum_most f p n h pl =
    let most = sum_below-le (λ r. cents f r p) DOLLAR n (λ r l. cents-most f r p (omega arith) pl) in
    omega (arith, most)

pub score-most : (f : Profile) (p : ℕ) → p < size f.setting → score f p ≤ size f.setting * DOLLAR
unfolding score
score-most f p pl = cents-sum_most f p (size f.setting) (omega arith) pl

cond-le : (b : Bool) (x most : ℕ) → x ≤ most → cond b x 0 ≤ most
cond-le true x most h = h
cond-le false x most h = omega arith

pub cluster_sum-most : (s : Setting) (numbers : ℕ → ℕ) (j n most : ℕ) → ((p : ℕ) → p < n → numbers p ≤ most) → cluster_sum s numbers j n ≤ n * most
cluster_sum-most s numbers j n most h = sum_below-le (λ p. cond (eqb (cluster_at s p) j) (numbers p) 0) most n (λ p l. cond-le (eqb (cluster_at s p) j) (numbers p) most (h p l))

pub sums-fit : (place n x y : ℕ) → place < n → n ≤ MOST_APPLICANTS → x ≤ place * (n * DOLLAR) → y ≤ n * DOLLAR → x + y < 2 ^ 64
sums-fit place n x y l few hx hy =
    let most : n * DOLLAR ≤ MOST_APPLICANTS * DOLLAR = omega arith in
    let all = mul-le-mul {n₁ = place} {m₁ = n * DOLLAR} {n₂ = MOST_APPLICANTS} {m₂ = MOST_APPLICANTS * DOLLAR} (omega arith) most in
    omega (arith, all)

-- one more place
pub sums_more : (s : Setting) (numbers : ℕ → ℕ) (sums : List ℕ) (place at v n : ℕ) → at + 1 ≡ cluster_at s place → at < length sums → at < n → v ≡ get_or sums at 0 + numbers place →
    ((j : ℕ) → j < n → get_or sums j 0 ≡ cluster_sum s numbers (j + 1) place) →
    (j : ℕ) → j < n → get_or (set sums at v) j 0 ≡ cluster_sum s numbers (j + 1) (place + 1)
sums_more s numbers sums place at v n own within below is h j l =
    let step = sum_below-add_one (λ p. cond (eqb (cluster_at s p) (j + 1)) (numbers p) 0) place in
    elim (cases_eq j at) [
      | inl e ↦
          let here = cond-true (eqb (cluster_at s place) (j + 1)) (numbers place) 0 (eq-eqb (cluster_at s place) (j + 1) (omega arith)) in
          let same = ap (λ k. get_or (set sums at v) k 0) e ∙ get_or-set_same sums at v 0 within in
          omega (arith, same, is, ap (λ k. get_or sums k 0) e, h j l, step, here)
      | inr ne ↦
          let there = cond-false (eqb (cluster_at s place) (j + 1)) (numbers place) 0 (ne_eqb (cluster_at s place) (j + 1) (λ e. ne (omega arith))) in
          omega (arith, get_or-set_other sums at j v 0 ne, h j l, step, there)
    ]

-- Profiles.

-- the proposals of a reviewer, by the pairs alone
pub row-among : (f : Profile) (r : ℕ) → row_among (size f.setting) f.pairs r ≡ row f r
unfolding row_among row
row-among f r = refl

pub desk-row : (s : Setting) (desk : Marks) (r : ℕ) (rows : List ℕ) → desk.pairs.side ≡ size s → rows ≡ row_among desk.pairs.side (cell desk.pairs) r → rows ≡ row (desk_profile s desk) r
desk-row s desk r rows side is = is ∙ (ap (λ n. row_among n (cell desk.pairs) r) side ∙ row-among (desk_profile s desk) r)

-- they are a row of different proposals
pub IsRow-row : (f : Profile) (r : ℕ) → IsSetting f.setting → is_valid f.setting f.pairs ≡ true → r < size f.setting → IsRow (size f.setting) (row f r)
IsRow-row f r h valid l = record {
  few = omega (arith, row-few f r h valid l, length-row_points f r);
  below = row-below f r l;
  differ = AllPairs-from_IsDistinct Decides-eqb (row f r) (row-distinct f r l);
}

-- the cents along a row are those that the reviewer gives
pub cents-given : (f : Profile) (r p : ℕ) (rows cs : List ℕ) → rows ≡ row f r →
    ((i : ℕ) → i < length rows → get_or cs i 0 ≡ cents_at (map (f.points r) rows) i) → option_map_or (λ i. get_or cs i 0) (position (λ q. eqb q p) rows) 0 ≡ cents f r p
unfolding cents row_points
cents-given f r p rows cs is h =
    cents_found (λ q. eqb q p) rows cs (cents_at (map (f.points r) rows)) h
    ∙ ap (λ xs. option_map_or (cents_at (map (f.points r) xs)) (position (λ q. eqb q p) xs) 0) is

pub cluster_cents-from : (f : Profile) (xs : List ℕ) (j : ℕ) → ((p : ℕ) → p < size f.setting → get_or xs p 0 ≡ score f p) →
    cluster_sum f.setting (λ p. get_or xs p 0) j (size f.setting) ≡ cluster_cents f j
unfolding cluster_cents
cluster_cents-from f xs j h =
    sum_below-same (λ p. cond (eqb (cluster_at f.setting p) j) (get_or xs p 0) 0) (λ p. cond (eqb (cluster_at f.setting p) j) (score f p) 0) (size f.setting)
    (λ p l. ap (λ x. cond (eqb (cluster_at f.setting p) j) x 0) (h p l))

pub clusters-whole : (f : Profile) (xs : List ℕ) → IsSetting f.setting → is_valid f.setting f.pairs ≡ true →
    ((j : ℕ) → j < f.setting.clusters → get_or xs j 0 ≡ cluster_cents f (j + 1)) → sum_below (λ j. get_or xs j 0) f.setting.clusters ≡ denominator f.setting
clusters-whole f xs h valid is =
    sum_below-same (λ j. get_or xs j 0) (λ j. cluster_cents f (j + 1)) f.setting.clusters is ∙ cluster_cents-all f h valid
