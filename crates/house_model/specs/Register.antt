use Rattle.std.specs.Prelude.{◌≤◌, ◌≢◌, All, AllPairs, IsTrue, ℕ, ◌+◌, ◌/◌, ◌%◌, ◌*◌, Bool, false, ◌&&◌, ◌||◌, ◌==◌, nat_lt, not, List, [], ◌∷◌, length, map, filter, find, flat_map, position, count_by, slice_get}
use Rattle.std.specs.List.{list_any, list_all, enumerate_from}
use Rattle.std.specs.Option.{option_map_or}
use Rattle.std.specs.Str.{bytes_eq}
use Rattle.house_base.specs.Name.{is_name}
use Rattle.house_base.specs.Text.{Text, among}
use Rattle.house_base.specs.declared.limits.TheConstants.{MOST_APPLICANTS, MOST_OWN}
use Rattle.house_base.specs.declared.plan.Person.{Person}
use Rattle.house_base.specs.declared.plan.Owner.{Owner}
use Rattle.house_base.specs.Grid.{Square}
use Rattle.house_base.specs.Setting.{Setting, owner_from, name_at}
use Rattle.peer_selection.specs.Counting.{numbers_below, count_below}
use Rattle.peer_selection.specs.Profile.{Pairs}

-- What the opening of a call puts on record: the applicants with their persons, in register order; the
-- persons that were put into clusters; the pairs of a person and an applicant that may not be; and those of a
-- hand-made assignment.
pub record Register : Type 0 where
  pub applicants : List (Text × Text)
  pub placed : List (Text × ℕ)
  pub barred : List (Text × Text)
  pub pairs : List (Text × Text)

-- the names of the applicants, in register order
abbrev pub names : Register → List Text
names reg = map (λ a. a.0) reg.applicants

-- each of the texts once, in the order in which they first appear
abbrev pub firsts : List Text → List Text
firsts [] = []
firsts (x ∷ xs) = x ∷ filter (λ y. not (bytes_eq x y)) (firsts xs)

-- the persons, in the order in which each first appears
unfoldable pub persons : Register → List Text
persons reg = firsts (map (λ a. a.1) reg.applicants)

-- how many applicants a person has
unfoldable pub own_count : Register → Text → ℕ
own_count reg person = count_by (λ a. bytes_eq a.1 person) reg.applicants

-- the persons that were put into a cluster
abbrev pub placed_names : Register → List Text
placed_names reg = map (λ p. p.0) reg.placed

-- the cluster into which a person was put; 0 where it was put into none
unfoldable pub cluster_of : Register → Text → ℕ
cluster_of reg person = option_map_or (λ p. p.1) (find (λ p. bytes_eq p.0 person) reg.placed) 0

-- whether a pair of texts is among these
unfoldable pub pair_among : List (Text × Text) → Text → Text → Bool
pair_among ps a b = list_any (λ p. bytes_eq p.0 a && bytes_eq p.1 b) ps

-- whether each person was put into a cluster
unfoldable pub all_placed : Register → Bool
all_placed reg = list_all (among (placed_names reg)) (persons reg)

-- the number of a person: its index among the persons
unfoldable pub person_number : Register → Text → ℕ
person_number reg person = option_map_or (λ i. i) (position (bytes_eq person) (persons reg)) 0

-- the person of the applicant with a register number
unfoldable pub person_of : Register → ℕ → Text
person_of reg i = option_map_or (λ a. a.1) (slice_get reg.applicants i) []

-- The place of an applicant: how many applicants have a person that comes before its person, or its person and
-- a smaller register number.
unfoldable pub place : Register → ℕ → ℕ
place reg i = count_below (λ j. nat_lt (person_number reg (person_of reg j)) (person_number reg (person_of reg i))
    || (person_number reg (person_of reg j) == person_number reg (person_of reg i)
    && nat_lt j i)) (length reg.applicants)

-- an applicant with its person's cluster and its register number
abbrev pub entry : Register → ℕ × (Text × Text) → Person
entry reg e = record { name = e.1.0; cluster = cluster_of reg e.1.1; number = e.0 }

-- the applicants of a person, in register order
unfoldable pub own_people : Register → Text → List Person
own_people reg person = map (entry reg) (filter (λ e. bytes_eq e.1.1 person) (enumerate_from 0 reg.applicants))

-- the applicants in place order: person by person, each person's in register order
unfoldable pub people : Register → List Person
people reg = flat_map (own_people reg) (persons reg)

-- these persons with their first places, where the first of them stands at a given place
abbrev pub owners_from : Register → ℕ → List Text → List Owner
owners_from reg first [] = []
owners_from reg first (person ∷ others) =
    record { name = person; first = first; own = own_count reg person } ∷ owners_from reg (first + own_count reg person) others

unfoldable pub owners : Register → List Owner
owners reg = owners_from reg 0 (persons reg)

-- the square of a test over places below n
unfoldable pub square_of : ℕ → (ℕ → ℕ → Bool) → Square
square_of n test = record { side = n; cells = map (λ i. test (i / n) (i % n)) (numbers_below (n * n)) }

-- the name of the person whose first place this is
unfoldable pub reviewer_at : Setting → ℕ → Text
reviewer_at s r = option_map_or (λ owner. owner.name) (owner_from s r) []

-- whether the pairs name the person at one place and the applicant at another
unfoldable pub name_pair : List (Text × Text) → Setting → Pairs
name_pair ps s r p = pair_among ps (reviewer_at s r) (name_at s p)

-- the setting of a register before pairs are barred, for these numbers of seats, clusters and reviews
unfoldable pub open_setting : ℕ → ℕ → ℕ → Register → Setting
open_setting seats clusters reviews reg = record {
  seats = seats;
  clusters = clusters;
  reviews = reviews;
  people = people reg;
  owners = owners reg;
  barred = square_of (length reg.applicants) (λ r p. false);
}

-- the setting of a register
unfoldable pub registered_setting : ℕ → ℕ → ℕ → Register → Setting
registered_setting seats clusters reviews reg = record (open_setting seats clusters reviews reg) {
  barred = square_of (length reg.applicants) (name_pair reg.barred (open_setting seats clusters reviews reg));
}

-- what holds of each register that the lines of a call give
pub record IsRegister (reg : Register) : Type 0 where
  pub few : length reg.applicants ≤ MOST_APPLICANTS
  pub names_differ : AllPairs (λ a b. a ≢ b) (names reg)
  pub names_formed : All (λ a. IsTrue (is_name a.0) × IsTrue (is_name a.1)) reg.applicants
  pub own : (person : Text) → own_count reg person ≤ MOST_OWN
  pub placed_differ : AllPairs (λ a b. a ≢ b) (placed_names reg)
  pub placed_persons : All (λ p. IsTrue (among (persons reg) p)) (placed_names reg)
