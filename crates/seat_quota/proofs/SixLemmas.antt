use Rattle.std.proofs.Common.{◌≡◌, ℕ, ◌+◌, ◌-◌, ◌*◌, replicate, ◌<◌, ◌≤◌, ◌≢◌, ◌%◌, Bool, true, false, cond, ◌&&◌, inl, inr, ◌||◌, not, ltb, leb, eqb, List, [], ◌∷◌, map, get_or, refl, sym, ap, ◌∙◌, arith}
use Rattle.std.specs.List.{AllByRecursion, AllPairs, list_all}
use Rattle.std.specs.Str.{bytes_eq}
use Rattle.std.specs.Cmp.Lexicographic.{bytes_decides}
use Rattle.std.proofs.lemmas.Bool.{cases_eq, ne_eqb, le-ltb, and_parts, not-true, both_ways, eqb-true, eq-eqb, lt-ltb, leb-true, ltb-true}
use Rattle.std.proofs.lemmas.Bool.Decides.{nat_tests}
use Rattle.std.proofs.lemmas.List.{length-map}
use Rattle.std.proofs.lemmas.List.Elements.{All-from_recursion}
use Rattle.std.proofs.lemmas.List.Kept.{AllPairs-cons}
use Rattle.house_base.specs.declared.limits.TheConstants.{MOST_APPLICANTS, MOST_SEATS, FEWEST_CLUSTERS, MOST_CLUSTERS, MOST_REVIEWS, MOST_OWN}
use Rattle.house_base.specs.declared.plan.Owner.{Owner}
use Rattle.house_base.specs.declared.plan.Person.{Person}
use Rattle.house_base.specs.Setting.{Setting, IsSetting, IsOwned, StandInTurn, size, names_of, numbers_of, cluster_at, number_at}
use Rattle.house_base.specs.Grid.{Square, cell}
use Rattle.house_base.specs.Setting.{owner_from, need, may}
use Rattle.peer_selection.specs.Counting.{all_below}
use Rattle.peer_selection.specs.Counting.{count_below}
use Rattle.peer_selection.specs.Profile.{is_valid}
use Rattle.seat_quota.specs.Six.{six_applicants, six_owners, six_pairs, six_people}
use Rattle.peer_selection.proofs.SameLemmas.{is_valid-same}
use Rattle.peer_selection.proofs.CountingLemmas.{all_below-each}

-- A setting by tests, so that a worked one computes.

-- what each element passes
All-by_test : {X : Type 0} (test : X → Bool) (P : X → Type 0) → ((x : X) → test x ≡ true → P x) → (xs : List X) → list_all test xs ≡ true → AllByRecursion P xs
All-by_test test P tells [] h = tt
All-by_test test P tells (x ∷ xs) h = let both = and_parts (test x) (list_all test xs) h in (tells x both.0, All-by_test test P tells xs both.1)

-- whether each pair passes
abbrev pairs_pass : {X : Type 0} → (X → X → Bool) → List X → Bool
pairs_pass test [] = true
pairs_pass test (x ∷ xs) = list_all (test x) xs && pairs_pass test xs

AllPairs-by_test : {X : Type 0} (test : X → X → Bool) (R : X → X → Type 0) → ((x y : X) → test x y ≡ true → R x y) → (xs : List X) → pairs_pass test xs ≡ true → AllPairs R xs
AllPairs-by_test test R tells [] h = λ i j d ij jl. absurd (omega arith)
AllPairs-by_test test R tells (x ∷ xs) h =
    let both = and_parts (list_all (test x) xs) (pairs_pass test xs) h in
    AllPairs-cons R x xs (All-from_recursion (R x) xs (All-by_test (test x) (R x) (tells x) xs both.0)) (AllPairs-by_test test R tells xs both.1)

-- different texts and different numbers
texts_differ : (a b : List ℕ) → not (bytes_eq a b) ≡ true → a ≢ b
texts_differ a b h e = both_ways (bytes_eq a b) (not-true (bytes_eq a b) h) ((bytes_decides a b).1 e)

numbers_differ : (a b : ℕ) → not (eqb a b) ≡ true → a ≢ b
numbers_differ a b h e = both_ways (eqb a b) (not-true (eqb a b) h) (eq-eqb a b e)

between : (x low high : ℕ) → (leb low x && leb x high) ≡ true → (low ≤ x) × (x ≤ high)
between x low high h = let both = and_parts (leb low x) (leb x high) h in (leb-true low x both.0, leb-true x high both.1)

-- the applicants of one person pass
own_by_test : (test : ℕ → ℕ → Bool) (owner : Owner) (place : ℕ) → all_below (λ i. test owner.first (owner.first + i)) owner.own ≡ true → IsOwned owner place → test owner.first place ≡ true
own_by_test test owner place h owned =
    let at : owner.first + (place - owner.first) ≡ place = omega (arith, owned.0) in
    ap (test owner.first) (sym at) ∙ all_below-each (λ i. test owner.first (owner.first + i)) owner.own h (place - owner.first) (omega (arith, owned.0, owned.1))

module _ (s : Setting) where
  in_one_cluster : Owner → Bool
  in_one_cluster owner = all_below (λ i. eqb (cluster_at s (owner.first + i)) (cluster_at s owner.first)) owner.own

  in_rising_number : Owner → Bool
  in_rising_number owner = all_below (λ i. not (ltb (owner.first + i + 1) (owner.first + owner.own)) || ltb (number_at s (owner.first + i)) (number_at s (owner.first + i + 1))) owner.own

  one_cluster_by_test : (owner : Owner) → in_one_cluster owner ≡ true → (place : ℕ) → IsOwned owner place → cluster_at s place ≡ cluster_at s owner.first
  unfolding in_one_cluster
  one_cluster_by_test owner h place owned =
      eqb-true (cluster_at s place) (cluster_at s owner.first) (own_by_test (λ first at. eqb (cluster_at s at) (cluster_at s first)) owner place h owned)

  rising_by_test : (owner : Owner) → in_rising_number owner ≡ true → (place : ℕ) → IsOwned owner place → IsOwned owner (place + 1) → number_at s place < number_at s (place + 1)
  unfolding in_rising_number
  rising_by_test owner h place owned next =
      let passes = own_by_test (λ first at. not (ltb (at + 1) (first + owner.own)) || ltb (number_at s at) (number_at s (at + 1))) owner place h owned in
      let more = lt-ltb (place + 1) (owner.first + owner.own) next.1 in
      ltb-true (number_at s place) (number_at s (place + 1)) (sym (ap (λ b. not b || ltb (number_at s place) (number_at s (place + 1))) more) ∙ passes)

  -- a setting of which all tests compute to true
  IsSetting-by_tests : ((1 ≤ s.seats) × (s.seats ≤ MOST_SEATS)) → ((FEWEST_CLUSTERS ≤ s.clusters) × (s.clusters ≤ MOST_CLUSTERS)) → ((1 ≤ s.reviews) × (s.reviews ≤ MOST_REVIEWS))
      → 1 ≤ size s → size s ≤ MOST_APPLICANTS
      → pairs_pass (λ a b. not (bytes_eq a b)) (names_of s) ≡ true
      → list_all (λ person. leb 1 person.cluster && leb person.cluster s.clusters) s.people ≡ true
      → pairs_pass (λ a b. not (eqb a b)) (numbers_of s) ≡ true
      → list_all (λ number. ltb number (size s)) (numbers_of s) ≡ true
      → all_below (λ number. eqb (get_or (numbers_of s) number number) number) (size s) ≡ true
      → s.barred.side ≡ size s
      → pairs_pass (λ a b. not (bytes_eq a b)) (map (λ owner. owner.name) s.owners) ≡ true
      → list_all (λ owner. leb 1 owner.own && leb owner.own MOST_OWN) s.owners ≡ true
      → StandInTurn 0 s.owners (size s)
      → list_all in_one_cluster s.owners ≡ true
      → list_all in_rising_number s.owners ≡ true
      → IsSetting s
  IsSetting-by_tests seats clusters reviews some few names placed numbers below each square owners own turn one rising = record {
    seats_in_range = seats;
    clusters_in_range = clusters;
    reviews_in_range = reviews;
    some = some;
    few = few;
    names_differ = AllPairs-by_test (λ a b. not (bytes_eq a b)) (λ a b. a ≢ b) texts_differ (names_of s) names;
    clusters = All-from_recursion (λ person. (1 ≤ person.cluster) × (person.cluster ≤ s.clusters)) s.people
        (All-by_test (λ person. leb 1 person.cluster && leb person.cluster s.clusters) (λ person. (1 ≤ person.cluster) × (person.cluster ≤ s.clusters)) (λ person. between person.cluster 1 s.clusters) s.people placed);
    numbers_differ = AllPairs-by_test (λ a b. not (eqb a b)) (λ a b. a ≢ b) numbers_differ (numbers_of s) numbers;
    numbers_below = All-from_recursion (λ number. number < size s) (numbers_of s) (All-by_test (λ number. ltb number (size s)) (λ number. number < size s) (λ number. ltb-true number (size s)) (numbers_of s) below);
    each_number = λ number l. (number, omega (arith, length-map s.people (λ (person : Person). person.number)), eqb-true (get_or (numbers_of s) number number) number (all_below-each (λ number. eqb (get_or (numbers_of s) number number) number) (size s) each number l));
    square = square;
    owners_differ = AllPairs-by_test (λ a b. not (bytes_eq a b)) (λ a b. a ≢ b) texts_differ (map (λ owner. owner.name) s.owners) owners;
    own = All-from_recursion (λ owner. (1 ≤ owner.own) × (owner.own ≤ MOST_OWN)) s.owners
        (All-by_test (λ owner. leb 1 owner.own && leb owner.own MOST_OWN) (λ owner. (1 ≤ owner.own) × (owner.own ≤ MOST_OWN)) (λ owner. between owner.own 1 MOST_OWN) s.owners own);
    in_turn = turn;
    one_cluster = All-from_recursion (λ owner. (place : ℕ) → IsOwned owner place → cluster_at s place ≡ cluster_at s owner.first) s.owners
        (All-by_test in_one_cluster (λ owner. (place : ℕ) → IsOwned owner place → cluster_at s place ≡ cluster_at s owner.first) one_cluster_by_test s.owners one);
    rising = All-from_recursion (λ owner. (place : ℕ) → IsOwned owner place → IsOwned owner (place + 1) → number_at s place < number_at s (place + 1)) s.owners
        (All-by_test in_rising_number (λ owner. (place : ℕ) → IsOwned owner place → IsOwned owner (place + 1) → number_at s place < number_at s (place + 1)) rising_by_test s.owners rising);
  }

pub six-setting : IsSetting six_applicants
unfolding six_applicants cluster_at number_at all_below in_one_cluster in_rising_number
six-setting = IsSetting-by_tests six_applicants (omega arith, omega arith) (omega arith, omega arith) (omega arith, omega arith) (omega arith) (omega arith)
    refl refl refl refl refl refl refl refl (refl, (refl, (refl, (refl, (refl, (refl, refl)))))) refl refl

six-valid : is_valid six_applicants six_pairs ≡ true
unfolding six_applicants six_pairs is_valid all_below count_below cluster_at owner_from need may cell
six-valid = refl

-- pairs that agree with those of the six are a valid assignment
pub six-assigned : (s : Setting) (pairs : Square) → s ≡ six_applicants → ((r p : ℕ) → r < 6 → p < 6 → cell pairs r p ≡ six_pairs r p) → is_valid s (cell pairs) ≡ true
unfolding six_applicants
six-assigned s pairs is cells =
    ap (λ t. is_valid t (cell pairs)) is ∙ (is_valid-same six_applicants (cell pairs) six_pairs cells ∙ six-valid)

-- one more reviewer has its pairs

either : (a b : Bool) → cond b true (cond a true false) ≡ (a || b)
either true true = refl
either true false = refl
either false true = refl
either false false = refl

pub pairs_more : (r p i : ℕ) (old mid new : Bool) → old ≡ (ltb r i && six_pairs r p) → mid ≡ cond (eqb r i && eqb p ((i + 1) % 6)) true old →
    new ≡ cond (eqb r i && eqb p ((i + 2) % 6)) true mid → new ≡ (ltb r (i + 1) && six_pairs r p)
unfolding six_pairs
pairs_more r p i old mid new is_old is_mid is_new =
    elim (cases_eq r i) [
      | inl e ↦
          let here = eq-eqb r i e in
          let past = le-ltb r i (omega arith) in
          let next = lt-ltb r (i + 1) (omega arith) in
          is_new
          ∙ (ap (λ m. cond (eqb r i && eqb p ((i + 2) % 6)) true m) (is_mid ∙ ap (λ o. cond (eqb r i && eqb p ((i + 1) % 6)) true o) is_old)
          ∙ (rw (here, past, next) (either (eqb p ((i + 1) % 6)) (eqb p ((i + 2) % 6)) ∙ ap (λ k. eqb p ((k + 1) % 6) || eqb p ((k + 2) % 6)) (sym e))))
      | inr ne ↦
          let other = ne_eqb r i ne in
          let same = same_side r i ne in
          is_new
          ∙ (ap (λ m. cond (eqb r i && eqb p ((i + 2) % 6)) true m) (is_mid ∙ ap (λ o. cond (eqb r i && eqb p ((i + 1) % 6)) true o) is_old)
          ∙ rw (other, same) refl)
    ]
  where
    same_side : (r i : ℕ) → r ≢ i → ltb r i ≡ ltb r (i + 1)
    same_side r i ne = grind (arith, nat_tests)

-- the setting of these people, persons and barred pairs
pub six-made : (people : List Person) (owners : List Owner) (barred : Square) → people ≡ six_people → owners ≡ six_owners → barred ≡ record { side = 6; cells = replicate (6 * 6) false } →
    (let made : Setting = record { seats = 2; clusters = 3; reviews = 2; people = people; owners = owners; barred = barred } in made) ≡ six_applicants
unfolding six_applicants
six-made people owners barred a b c = λ i. record { seats = 2; clusters = 3; reviews = 2; people = a i; owners = b i; barred = c i }
