use Rattle.std.specs.Prelude.{◌≡◌, ℕ, ◌+◌, ◌-◌, ◌*◌, ◌%◌, ◌<◌, ◌≤◌, Bool, ◌==◌, ◌&&◌, not, Option, is_some, List, [], ◌∷◌, length, map, find, All, AllPairs, Contains, ◌≢◌, slice_get}
use Rattle.std.specs.Option.{option_map_or}
use Rattle.house_base.specs.declared.limits.TheConstants.{MOST_APPLICANTS, MOST_SEATS, FEWEST_CLUSTERS, MOST_CLUSTERS, MOST_REVIEWS, MOST_OWN}
use Rattle.house_base.specs.declared.call.Call.{Call}
use Rattle.house_base.specs.declared.plan.Person.{Person}
use Rattle.house_base.specs.declared.plan.Owner.{Owner}
use Rattle.house_base.specs.Grid.{Square, cell}

-- A peer selection setting: the numbers of seats, of clusters and of reviews that each applicant gets, the
-- applicants in place order, the persons to whom they belong in the order of their first places, and the
-- pairs of a person's place and an applicant's place that may not be.
pub record Setting : Type 0 where
  pub seats : ℕ
  pub clusters : ℕ
  pub reviews : ℕ
  pub people : List Person
  pub owners : List Owner
  pub barred : Square

-- the setting of a call with these applicants, persons and barred pairs
abbrev pub setting_of : Call → List Person → List Owner → Square → Setting
setting_of call people owners barred = record {
  seats = call.seats;
  clusters = call.clusters;
  reviews = call.reviews;
  people = people;
  owners = owners;
  barred = barred;
}

-- how many applicants there are
abbrev pub size : Setting → ℕ
size s = length s.people

-- the applicants' names, in place order
abbrev pub names_of : Setting → List (List ℕ)
names_of s = map (λ person. person.name) s.people

-- the applicants' register numbers, in place order
abbrev pub numbers_of : Setting → List ℕ
numbers_of s = map (λ person. person.number) s.people

-- the name of the applicant at a place
unfoldable pub name_at : Setting → ℕ → List ℕ
name_at s place = option_map_or (λ person. person.name) (slice_get s.people place) []

-- the cluster of the applicant at a place; clusters count from 1
unfoldable pub cluster_at : Setting → ℕ → ℕ
cluster_at s place = option_map_or (λ person. person.cluster) (slice_get s.people place) 0

-- the register number of the applicant at a place
unfoldable pub number_at : Setting → ℕ → ℕ
number_at s place = option_map_or (λ person. person.number) (slice_get s.people place) 0

-- the person whose first applicant stands at a place
unfoldable pub owner_from : Setting → ℕ → Option Owner
owner_from s place = find (λ owner. owner.first == place) s.owners

-- how many reviews the person at a place owes: so many for each of its applicants. A place that is not a
-- person's first owes none.
unfoldable pub need : Setting → ℕ → ℕ
need s place = option_map_or (λ owner. s.reviews * owner.own) (owner_from s place) 0

-- A person, named by its first place, may review an applicant of another cluster, unless the pair is barred.
unfoldable pub may : Setting → ℕ → ℕ → Bool
may s reviewer proposal =
    is_some (owner_from s reviewer) && not (cluster_at s reviewer == cluster_at s proposal)
    && not (cell s.barred reviewer proposal)

-- how far a proposal stands behind a reviewer, round n places: 0 for the next one
unfoldable pub distance : ℕ → ℕ → ℕ → ℕ
distance n reviewer proposal = (proposal + n - (reviewer + 1)) % n

-- a place among a person's applicants
abbrev pub IsOwned : Owner → ℕ → Type 0
IsOwned owner place = (owner.first ≤ place) × (place < owner.first + owner.own)

-- the persons' applicants stand one person after another, from a place on to the n-th
abbrev pub StandInTurn : ℕ → List Owner → ℕ → Type 0
StandInTurn from [] n = from ≡ n
StandInTurn from (owner ∷ owners) n = (owner.first ≡ from) × StandInTurn (from + owner.own) owners n

-- what holds of each setting
pub record IsSetting (s : Setting) : Type 0 where
  pub seats_in_range : (1 ≤ s.seats) × (s.seats ≤ MOST_SEATS)
  pub clusters_in_range : (FEWEST_CLUSTERS ≤ s.clusters) × (s.clusters ≤ MOST_CLUSTERS)
  pub reviews_in_range : (1 ≤ s.reviews) × (s.reviews ≤ MOST_REVIEWS)
  pub some : 1 ≤ size s
  pub few : size s ≤ MOST_APPLICANTS
  pub names_differ : AllPairs (λ a b. a ≢ b) (names_of s)
  pub clusters : All (λ person. (1 ≤ person.cluster) × (person.cluster ≤ s.clusters)) s.people
  pub numbers_differ : AllPairs (λ a b. a ≢ b) (numbers_of s)
  pub numbers_below : All (λ number. number < size s) (numbers_of s)
  pub each_number : (number : ℕ) → number < size s → Contains (numbers_of s) number
  pub square : s.barred.side ≡ size s
  pub owners_differ : AllPairs (λ a b. a ≢ b) (map (λ owner. owner.name) s.owners)
  pub own : All (λ owner. (1 ≤ owner.own) × (owner.own ≤ MOST_OWN)) s.owners
  pub in_turn : StandInTurn 0 s.owners (size s)
  pub one_cluster : All (λ owner. (place : ℕ) → IsOwned owner place
      → cluster_at s place ≡ cluster_at s owner.first) s.owners
  pub rising : All (λ owner. (place : ℕ) → IsOwned owner place → IsOwned owner (place + 1)
      → number_at s place < number_at s (place + 1)) s.owners
