-- What a setting says of its places and persons.
use Rattle.std.proofs.Common.{◌≡◌, ◌≢◌, ℕ, zero, suc, ◌⊎◌, ◌+◌, ◌*◌, ◌≤◌, ◌<◌, Bool, true, not, ◌&&◌, nat_eq, List, [], ◌∷◌, length, map, Some, None, refl, ap, sym, ◌∙◌, inl, inr, eq-eqb, arith, below_more}
use Rattle.std.specs.List.{All, Contains, find, position_or_len, slice_get}
use Rattle.std.specs.Option.{is_some, option_map}
use Rattle.std.proofs.lemmas.List.{length-map}
use Rattle.std.proofs.lemmas.List.Elements.{All-head, All-tail, All-contains}
use Rattle.std.proofs.lemmas.Option.{slice_get-map, slice_get-get_or, slice_get_within, get_or_from_slice_get, same_Some}
use Rattle.std.proofs.lemmas.List.Folds.{find_at}
use Rattle.std.proofs.lemmas.Bool.{cases_Bool, cases_lt, eqb-true}
use Rattle.std.proofs.lemmas.Bool.Decides.{nat_tests}
use Rattle.std.proofs.Math.Nat.{mul-le-mul}
use Rattle.house_base.specs.declared.limits.TheConstants.{MOST_OWN, MOST_REVIEWS}
use Rattle.house_base.specs.declared.plan.Person.{Person}
use Rattle.house_base.specs.declared.plan.Owner.{Owner}
use Rattle.house_base.specs.Grid.{cell}
use Rattle.house_base.specs.Setting.{Setting, IsSetting, StandInTurn, IsOwned, size, cluster_at, number_at, owner_from, need, may}

-- a view that no element has at any place is not among the views
pub not_viewed : {A B : Type 0} (view : A → B) (xs : List A) (y : B) (n : ℕ) → length xs ≤ n → ((k : ℕ) → k < n → slice_get (map view xs) k ≢ Some y) → Contains (map view xs) y → ⊥
not_viewed view xs y n all absent (k, within, is) =
    absent k (omega (arith, length-map xs view)) (slice_get-get_or (map view xs) k y within ∙ ap Some is)

-- one more element whose view is another
pub absent_more : {A B : Type 0} (view : A → B) (xs : List A) (y : B) (i : ℕ) (x : A) → slice_get xs i ≡ Some x → view x ≢ y →
    ((k : ℕ) → k < i → slice_get (map view xs) k ≢ Some y) → (k : ℕ) → k < i + 1 → slice_get (map view xs) k ≢ Some y
absent_more view xs y i x at other absent =
    below_more _ _ absent (λ same. other (same_Some (view x) y (sym (slice_get-map view xs i ∙ ap (option_map view) at) ∙ same)))

-- persons in turn end at the last place
pub StandInTurn-le : (from : ℕ) (owners : List Owner) (n : ℕ) → StandInTurn from owners n → from ≤ n
StandInTurn-le from [] n stand = omega (arith, stand)
StandInTurn-le from (owner ∷ owners) n stand = omega (arith, StandInTurn-le (from + owner.own) owners n stand.1)

-- persons who each have an applicant are no more than the applicants
pub length-StandInTurn : (from : ℕ) (owners : List Owner) (n : ℕ) → All (λ owner. (1 ≤ owner.own) × (owner.own ≤ MOST_OWN)) owners → StandInTurn from owners n → from + length owners ≤ n
length-StandInTurn from [] n own stand = omega (arith, stand)
length-StandInTurn from (owner ∷ owners) n own stand =
    let rest = length-StandInTurn (from + owner.own) owners n (All-tail (λ owner. (1 ≤ owner.own) × (owner.own ≤ MOST_OWN)) owner owners own) stand.1 in
    let first = All-head (λ owner. (1 ≤ owner.own) × (owner.own ≤ MOST_OWN)) owner owners own in
    omega (arith, rest, first.0)

-- what a search finds is in the list
pub Contains-find : {A : Type 0} (test : A → Bool) (xs : List A) (x : A) → find test xs ≡ Some x → Contains xs x
Contains-find test xs x found =
    let at : slice_get xs (position_or_len test xs) ≡ Some x = sym (find_at test xs) ∙ found in
    (position_or_len test xs, slice_get_within xs (position_or_len test xs) x at, get_or_from_slice_get xs (position_or_len test xs) x x at)

pub number_at-read : (s : Setting) (place : ℕ) (person : Person) → slice_get s.people place ≡ Some person → number_at s place ≡ person.number
unfolding number_at
number_at-read s place person at = rw at refl

pub cluster_at-read : (s : Setting) (place : ℕ) (person : Person) → slice_get s.people place ≡ Some person → cluster_at s place ≡ person.cluster
unfolding cluster_at
cluster_at-read s place person at = rw at refl

pub may-read : (s : Setting) (reviewer proposal : ℕ) (a b : Person) → slice_get s.people reviewer ≡ Some a → slice_get s.people proposal ≡ Some b →
    may s reviewer proposal ≡ (is_some (owner_from s reviewer) && not (nat_eq a.cluster b.cluster) && not (cell s.barred reviewer proposal))
unfolding may
may-read s reviewer proposal a b at_reviewer at_proposal = rw (cluster_at-read s reviewer a at_reviewer, cluster_at-read s proposal b at_proposal) refl

pub need-some : (s : Setting) (place : ℕ) (owner : Owner) → owner_from s place ≡ Some owner → need s place ≡ s.reviews * owner.own
unfolding need
need-some s place owner from = rw from refl

pub need-none : (s : Setting) (place : ℕ) → owner_from s place ≡ None → need s place ≡ 0
unfolding need
need-none s place from = rw from refl

-- a person found by its first place is one of the persons
pub Contains-owner_from : (s : Setting) (place : ℕ) (owner : Owner) → owner_from s place ≡ Some owner → Contains s.owners owner
unfolding owner_from
Contains-owner_from s place owner from = Contains-find (λ owner. nat_eq owner.first place) s.owners owner from

-- no person owes more reviews than the limits allow
pub need-le : (s : Setting) (place : ℕ) (owner : Owner) → IsSetting s → owner_from s place ≡ Some owner → s.reviews * owner.own ≤ MOST_REVIEWS * MOST_OWN
need-le s place owner setting from =
    let own = All-contains (λ owner. (1 ≤ owner.own) × (owner.own ≤ MOST_OWN)) s.owners owner setting.own (Contains-owner_from s place owner from) in
    mul-le-mul setting.reviews_in_range.1 own.1

-- persons in turn begin at the first place or behind it
pub first-StandInTurn : (from : ℕ) (owners : List Owner) (n : ℕ) (owner : Owner) → StandInTurn from owners n → Contains owners owner → from ≤ owner.first
first-StandInTurn from [] n owner stand (k, within, is) = absurd (omega arith)
first-StandInTurn from (first ∷ rest) n owner stand (zero, within, is) = omega (arith, stand.0, ap (λ o. o.first) is)
first-StandInTurn from (first ∷ rest) n owner stand (suc k, within, is) =
    omega (arith, first-StandInTurn (from + first.own) rest n owner stand.1 (k, omega arith, is))

-- of persons in turn one alone has a place
pub same_owner : (from : ℕ) (owners : List Owner) (n : ℕ) (a b : Owner) (place : ℕ) → StandInTurn from owners n → Contains owners a → Contains owners b → IsOwned a place → IsOwned b place → a ≡ b
same_owner from [] n a b place stand (k, within, is) contains_b owned_a owned_b = absurd (omega arith)
same_owner from (first ∷ rest) n a b place stand (zero, in_a, is_a) (zero, in_b, is_b) owned_a owned_b = sym is_a ∙ is_b
same_owner from (first ∷ rest) n a b place stand (zero, in_a, is_a) (suc k, in_b, is_b) owned_a owned_b =
    absurd (omega (arith, stand.0, ap (λ o. o.first) is_a, ap (λ o. o.own) is_a, first-StandInTurn (from + first.own) rest n b stand.1 (k, omega arith, is_b)))
same_owner from (first ∷ rest) n a b place stand (suc j, in_a, is_a) (zero, in_b, is_b) owned_a owned_b =
    absurd (omega (arith, stand.0, ap (λ o. o.first) is_b, ap (λ o. o.own) is_b, first-StandInTurn (from + first.own) rest n a stand.1 (j, omega arith, is_a)))
same_owner from (first ∷ rest) n a b place stand (suc j, in_a, is_a) (suc k, in_b, is_b) owned_a owned_b =
    same_owner (from + first.own) rest n a b place stand.1 (j, omega arith, is_a) (k, omega arith, is_b) owned_a owned_b

-- a reviewer's cluster is not that of a proposal that it may review
pub other_cluster : (s : Setting) (reviewer proposal : ℕ) → may s reviewer proposal ≡ true → cluster_at s reviewer ≢ cluster_at s proposal
unfolding may
other_cluster s reviewer proposal allowed same = grind (arith, nat_tests)

-- a search finds an element that passes if there is one
pub find-from_Contains : {A : Type 0} (test : A → Bool) (xs : List A) (x : A) → Contains xs x → test x ≡ true → (y : A) × (find test xs ≡ Some y) × (test y ≡ true)
find-from_Contains test [] x (k, within, is) passes = absurd (omega arith)
find-from_Contains test (y ∷ ys) x (zero, within, is) passes =
    let first : test y ≡ true = ap test is ∙ passes in
    (y, rw first refl, first)
find-from_Contains test (y ∷ ys) x (suc k, within, is) passes =
    elim (cases_Bool (test y)) [
      | inl first ↦ (y, rw first refl, first)
      | inr other ↦ let rest = find-from_Contains test ys x (k, omega arith, is) passes in (rest.0, rw other rest.1, rest.2)
    ]

-- each person is found by its first place
pub owner_from-first : (s : Setting) (owner : Owner) → IsSetting s → Contains s.owners owner → owner_from s owner.first ≡ Some owner
unfolding owner_from
owner_from-first s owner setting contained =
    let found = find-from_Contains (λ o. nat_eq o.first owner.first) s.owners owner contained (eq-eqb owner.first owner.first refl) in
    let among = Contains-find (λ o. nat_eq o.first owner.first) s.owners found.0 found.1 in
    let its_own = All-contains (λ o. (1 ≤ o.own) × (o.own ≤ MOST_OWN)) s.owners found.0 setting.own among in
    let own = All-contains (λ o. (1 ≤ o.own) × (o.own ≤ MOST_OWN)) s.owners owner setting.own contained in
    let first = eqb-true found.0.first owner.first found.2 in
    let same : found.0 ≡ owner = same_owner 0 s.owners (size s) found.0 owner owner.first setting.in_turn among contained (omega arith, omega arith) (omega arith, omega arith) in
    found.1 ∙ ap Some same

-- persons in turn end at the last place or before it
pub end-StandInTurn : (from : ℕ) (owners : List Owner) (n i : ℕ) (owner : Owner) → StandInTurn from owners n → slice_get owners i ≡ Some owner → (from ≤ owner.first) × (owner.first + owner.own ≤ n)
end-StandInTurn from [] n i owner stand at = absurd (omega (arith, slice_get_within [] i owner at))
end-StandInTurn from (first ∷ rest) n zero owner stand at =
    let same : first ≡ owner = same_Some first owner at in
    let after = StandInTurn-le (from + first.own) rest n stand.1 in
    (omega (arith, stand.0, ap (λ o. o.first) same), omega (arith, stand.0, after, ap (λ o. o.first) same, ap (λ o. o.own) same))
end-StandInTurn from (first ∷ rest) n (suc i) owner stand at =
    let later = end-StandInTurn (from + first.own) rest n i owner stand.1 at in
    (omega (arith, later.0), later.1)

-- of two persons in turn the first ends where the second begins, or before it
pub before-StandInTurn : (from : ℕ) (owners : List Owner) (n i j : ℕ) (a b : Owner) → StandInTurn from owners n → slice_get owners i ≡ Some a → slice_get owners j ≡ Some b → i < j → a.first + a.own ≤ b.first
before-StandInTurn from [] n i j a b stand at_a at_b less = absurd (omega (arith, slice_get_within [] i a at_a))
before-StandInTurn from (first ∷ rest) n i zero a b stand at_a at_b less = absurd (omega arith)
before-StandInTurn from (first ∷ rest) n zero (suc j) a b stand at_a at_b less =
    let same : first ≡ a = same_Some first a at_a in
    let later = end-StandInTurn (from + first.own) rest n j b stand.1 at_b in
    omega (arith, stand.0, later.0, ap (λ o. o.first) same, ap (λ o. o.own) same)
before-StandInTurn from (first ∷ rest) n (suc i) (suc j) a b stand at_a at_b less =
    before-StandInTurn (from + first.own) rest n i j a b stand.1 at_a at_b (omega arith)

-- each place belongs to one of the persons in turn
pub owned-StandInTurn : (from : ℕ) (owners : List Owner) (n place : ℕ) → StandInTurn from owners n → from ≤ place → place < n → (i : ℕ) × (owner : Owner) × (slice_get owners i ≡ Some owner) × IsOwned owner place
owned-StandInTurn from [] n place stand behind before = absurd (omega (arith, stand))
owned-StandInTurn from (first ∷ rest) n place stand behind before =
    elim (cases_lt place (first.first + first.own)) [
      | inl inside ↦ (0, first, refl, (omega (arith, stand.0), inside))
      | inr after ↦ let later = owned-StandInTurn (from + first.own) rest n place stand.1 (omega (arith, stand.0)) before in (suc later.0, later.1, later.2, later.3)
    ]

-- a search that finds something finds what passes
pub find_cases : {A : Type 0} (test : A → Bool) (xs : List A) → ((x : A) × (find test xs ≡ Some x) × (test x ≡ true)) ⊎ (find test xs ≡ None)
find_cases test [] = inr refl
find_cases test (y ∷ ys) =
    elim (cases_Bool (test y)) [
      | inl first ↦ inl (y, rw first refl, first)
      | inr other ↦ rw other (find_cases test ys)
    ]

-- no person is found by a place that is not the first one of the person to whom it belongs
pub owner_from-other : (s : Setting) (owner : Owner) (place : ℕ) → IsSetting s → Contains s.owners owner → IsOwned owner place → owner.first ≢ place → owner_from s place ≡ None
unfolding owner_from
owner_from-other s owner place setting contained owned other =
    elim (find_cases (λ o. nat_eq o.first place) s.owners) [
      | inl found ↦
          let among = Contains-find (λ o. nat_eq o.first place) s.owners found.0 found.1 in
          let first = eqb-true found.0.first place found.2 in
          let own = All-contains (λ o. (1 ≤ o.own) × (o.own ≤ MOST_OWN)) s.owners found.0 setting.own among in
          let same : found.0 ≡ owner = same_owner 0 s.owners (size s) found.0 owner place setting.in_turn among contained (omega arith, omega arith) owned in
          absurd (other (ap (λ o. o.first) (sym same) ∙ first))
      | inr none ↦ none
    ]
