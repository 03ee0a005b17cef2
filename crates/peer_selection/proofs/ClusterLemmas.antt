use Rattle.std.proofs.Common.{◌≡◌, ℕ, zero, suc, ◌+◌, ◌-◌, ◌*◌, ◌<◌, ◌≤◌, Bool, true, false, cond, eqb, List, [], ◌∷◌, length, Some, is_some, find, IsTrue, ◌⊎◌, refl, sym, ap, ◌∙◌, inl, inr, arith}
use Rattle.std.specs.List.{All, AllByRecursion, slice_get}
use Rattle.std.specs.Option.{option_map_or}
use Rattle.std.proofs.lemmas.Bool.{cond-true, cond-false, eqb-true, eq-eqb, ne_eqb}
use Rattle.std.proofs.lemmas.List.Elements.{All-head, All-tail, recursion_from_All}
use Rattle.std.proofs.Math.Nat.{mul-le-mul}
use Rattle.house_base.specs.declared.limits.TheConstants.{DOLLAR, MOST_OWN}
use Rattle.house_base.specs.declared.plan.Owner.{Owner}
use Rattle.house_base.specs.Setting.{Setting, IsSetting, StandInTurn, size, cluster_at, need, owner_from}
use Rattle.peer_selection.specs.Counting.{count_below, sum_below}
use Rattle.peer_selection.specs.Profile.{Profile, is_valid, denominator, cents, score, cluster_cents, quota, cumulative_quota}
use Rattle.peer_selection.proofs.CountingLemmas.{one_if, count_below-none, count_below-only, count_below-split, count_below-sum, sum_below-same, sum_below-only, sum_below-times, sum_below-exchange}
use Rattle.peer_selection.specs.Laws.{IsAssigned, DollarIsGiven}
use Rattle.peer_selection.proofs.ValidLemmas.{is_valid-each}
use Rattle.peer_selection.proofs.RowLemmas.{cents-dollar, cents-nothing}

-- What all clusters get together: a dollar for each person.

-- an element with what holds of each
element_at : {X : Type 0} (P : X → Type 0) (xs : List X) (i : ℕ) → All P xs → i < length xs → (x : X) × (slice_get xs i ≡ Some x) × P x
element_at P [] i h l = absurd (omega arith)
element_at P (x ∷ xs) zero h l = (x, refl, All-head P x xs h)
element_at P (x ∷ xs) (suc i) h l = element_at P xs i (All-tail P x xs h) (omega arith)

-- each applicant's cluster is one of the call's
pub cluster_at-in_range : (s : Setting) (p : ℕ) → IsSetting s → p < size s → (1 ≤ cluster_at s p) × (cluster_at s p ≤ s.clusters)
unfolding cluster_at
cluster_at-in_range s p h l =
    let found = element_at (λ person. (1 ≤ person.cluster) × (person.cluster ≤ s.clusters)) s.people p h.clusters l in
    let e = ap (λ o. option_map_or (λ person. person.cluster) o 0) found.1 in
    (omega (arith, e, found.2.0), omega (arith, e, found.2.1))

-- the clusters share out the scores
pub cluster_cents-sum : (f : Profile) → IsSetting f.setting → sum_below (λ i. cluster_cents f (i + 1)) f.setting.clusters ≡ sum_below (score f) (size f.setting)
unfolding cluster_cents
cluster_cents-sum f h =
    let s = f.setting in
    sum_below-exchange (λ i p. cond (eqb (cluster_at s p) (i + 1)) (score f p) 0) (size s) s.clusters
    ∙ sum_below-same (λ p. sum_below (λ i. cond (eqb (cluster_at s p) (i + 1)) (score f p) 0) s.clusters) (score f) (size s)
    (λ p l.
    let range = cluster_at-in_range s p h l in
    let own = cluster_at s p - 1 in
    sum_below-only (λ i. cond (eqb (cluster_at s p) (i + 1)) (score f p) 0) s.clusters own (omega (arith, range.0, range.1))
    (λ i b ne. cond-false (eqb (cluster_at s p) (i + 1)) (score f p) 0 (ne_eqb (cluster_at s p) (i + 1) (λ e. ne (omega (arith, e)))))
    ∙ cond-true (eqb (cluster_at s p) (own + 1)) (score f p) 0 (eq-eqb (cluster_at s p) (own + 1) (omega (arith, range.0))))

-- the scores are all that the reviewers give
pub score-sum : (f : Profile) → sum_below (score f) (size f.setting) ≡ sum_below (λ r. sum_below (cents f r) (size f.setting)) (size f.setting)
unfolding score
score-sum f = sum_below-exchange (λ p r. cents f r p) (size f.setting) (size f.setting)

-- Persons.

-- how many applicants a person may have
abbrev OwnsSome : Owner → Type 0
OwnsSome o = (1 ≤ o.own) × (o.own ≤ MOST_OWN)

-- whether some person's first applicant stands at a place
abbrev starts : List Owner → ℕ → Bool
starts owners r = is_some (find (λ o. eqb o.first r) owners)

starts-cons : (o : Owner) (owners : List Owner) (r : ℕ) → starts (o ∷ owners) r ≡ cond (eqb o.first r) true (starts owners r)
starts-cons o owners r = elim (eqb o.first r) as (λ b. is_some (cond b (Some o) (find (λ o. eqb o.first r) owners)) ≡ cond b true (starts owners r)) [ true ↦ refl | false ↦ refl ]

turn-le : (from n : ℕ) (owners : List Owner) → StandInTurn from owners n → from ≤ n
turn-le from n [] t = omega (arith, t)
turn-le from n (o ∷ owners) t = omega (arith, turn-le (from + o.own) n owners t.1)

-- no person starts before the first one
starts_later : (from n r : ℕ) (owners : List Owner) → StandInTurn from owners n → r < from → starts owners r ≡ false
starts_later from n r [] t l = refl
starts_later from n r (o ∷ owners) t l =
    starts-cons o owners r
    ∙ (cond-false (eqb o.first r) true (starts owners r) (ne_eqb o.first r (λ e. absurd (omega (arith, t.0, e))))
    ∙ starts_later (from + o.own) n r owners t.1 (omega arith))

starts_once : (a b : Bool) → (a ≡ true → b ≡ false) → one_if (cond a true b) ≡ one_if a + one_if b
starts_once true b h = omega (arith, ap one_if (h refl))
starts_once false b h = omega arith

-- each person starts at one place
pub persons-count : (from n : ℕ) (owners : List Owner) → AllByRecursion OwnsSome owners → StandInTurn from owners n → count_below (starts owners) n ≡ length owners
persons-count from n [] own t = count_below-none (starts []) n (λ r l. refl)
persons-count from n (o ∷ owners) own t =
    let split = count_below-split (starts (o ∷ owners)) (λ r. eqb o.first r) (starts owners) n (λ r l.
    ap one_if (starts-cons o owners r)
    ∙ starts_once (eqb o.first r) (starts owners r) (λ e. starts_later (from + o.own) n r owners t.1 (omega (arith, t.0, eqb-true o.first r e, own.0.0)))) in
    let here = count_below-only (λ r. eqb o.first r) n o.first (omega (arith, t.0, own.0.0, turn-le (from + o.own) n owners t.1)) (eq-eqb o.first o.first refl)
    (λ i l ne. ne_eqb o.first i (λ e. ne (sym e))) in
    omega (arith, split, here, persons-count (from + o.own) n owners own.1 t.1)

-- who owes reviews: each person, and nobody else
owed : (reviews r : ℕ) (owners : List Owner) → AllByRecursion OwnsSome owners → 1 ≤ reviews
    → ((starts owners r ≡ true) × (0 < option_map_or (λ o. reviews * o.own) (find (λ o. eqb o.first r) owners) 0)) ⊎ ((starts owners r ≡ false) × (option_map_or (λ o. reviews * o.own) (find (λ o. eqb o.first r) owners) 0 ≡ 0))
owed reviews r [] own h = inr (refl, refl)
owed reviews r (o ∷ owners) own h =
    elim (eqb o.first r) as (λ b. ((is_some (cond b (Some o) (find (λ o. eqb o.first r) owners)) ≡ true) × (0 < option_map_or (λ o. reviews * o.own) (cond b (Some o) (find (λ o. eqb o.first r) owners)) 0))
    ⊎ ((is_some (cond b (Some o) (find (λ o. eqb o.first r) owners)) ≡ false) × (option_map_or (λ o. reviews * o.own) (cond b (Some o) (find (λ o. eqb o.first r) owners)) 0 ≡ 0))) [
      | true ↦ inl (refl, omega (arith, mul-le-mul h own.0.0))
      | false ↦ owed reviews r owners own.1 h
    ]

-- each person gives a dollar away, whole
pub cents-person : (f : Profile) (r : ℕ) → IsSetting f.setting → IsTrue (is_valid f.setting f.pairs) → r < size f.setting
    → sum_below (cents f r) (size f.setting) ≡ DOLLAR * one_if (starts f.setting.owners r)
unfolding need owner_from
cents-person f r h valid l =
    let owes = (is_valid-each f.setting f.pairs valid).owed r l in
    elim (owed f.setting.reviews r f.setting.owners (recursion_from_All OwnsSome f.setting.owners h.own) h.reviews_in_range.0) [
      | inl some ↦ omega (arith, cents-dollar f r l (omega (arith, owes, some.1)), ap one_if some.0)
      | inr none ↦ omega (arith, cents-nothing f r l (owes ∙ none.1), ap one_if none.0)
    ]

pub cents-of_person : (f : Profile) (r : ℕ) → IsAssigned f → DollarIsGiven f r
unfolding owner_from
cents-of_person f r h l some = omega (arith, cents-person f r h.setting h.valid l, ap one_if some)

-- the clusters get as many dollars as there are persons
pub cluster_cents-all : (f : Profile) → IsSetting f.setting → IsTrue (is_valid f.setting f.pairs) → sum_below (λ i. cluster_cents f (i + 1)) f.setting.clusters ≡ denominator f.setting
unfolding denominator
cluster_cents-all f h valid =
    let n = size f.setting in
    let owners = f.setting.owners in
    let given = sum_below-same (λ r. sum_below (cents f r) n) (λ r. DOLLAR * one_if (starts owners r)) n (λ r l. cents-person f r h valid l) in
    let dollars = sum_below-times DOLLAR (λ r. one_if (starts owners r)) n in
    let counted = count_below-sum (starts owners) n in
    let persons = persons-count 0 n owners (recursion_from_All OwnsSome owners h.own) h.in_turn in
    omega (arith, cluster_cents-sum f h, score-sum f, given, dollars, counted, persons)

-- the quotas fill the line
pub cumulative_quota-all : (f : Profile) → IsSetting f.setting → IsTrue (is_valid f.setting f.pairs) → cumulative_quota f f.setting.clusters ≡ f.setting.seats * denominator f.setting
unfolding cumulative_quota quota
cumulative_quota-all f h valid =
    sum_below-times f.setting.seats (λ i. cluster_cents f (i + 1)) f.setting.clusters ∙ ap (λ x. f.setting.seats * x) (cluster_cents-all f h valid)

some_owner : (n : ℕ) (owners : List Owner) → 1 ≤ n → StandInTurn 0 owners n → 1 ≤ length owners
some_owner n [] h t = absurd (omega (arith, t))
some_owner n (o ∷ owners) h t = omega arith

-- there is some person, so some draw
pub denominator-positive : (f : Profile) → IsSetting f.setting → 0 < denominator f.setting
unfolding denominator
denominator-positive f h = omega (arith, some_owner (size f.setting) f.setting.owners h.some h.in_turn)
