use Rattle.std.specs.Prelude.{◌≡◌, ◌≢◌, ℕ, ◌<◌, ◌≤◌, All, AllPairs, Contains, List, Some, length, map, filter, flat_map, slice_get, slice_index}
use Rattle.std.specs.List.{enumerate_from}
use Rattle.std.specs.Str.{bytes_eq}
use Rattle.house_base.specs.declared.limits.TheConstants.{MOST_APPLICANTS}
use Rattle.house_base.specs.declared.plan.Person.{Person}
use Rattle.house_base.specs.declared.plan.Owner.{Owner}
use Rattle.house_base.specs.Text.{Text}
use Rattle.house_model.specs.Register.{Register, names, persons, cluster_of}
use Rattle.register_book.specs.Held.{text_at}
use Rattle.cluster_draw.specs.declared.placings.Placing.{Placing}

-- the name of a person that was placed, and of each one
abbrev pub name_of : Register → Placing → Text
name_of reg placing = text_at (persons reg) placing.person

abbrev pub names_of : Register → List Placing → List Text
names_of reg placings = map (name_of reg) placings

-- the placings of the persons of a register, in an order
pub record ArePlacings (reg : Register) (order : List Text) (placings : List Placing) : Type 0 where
  pub known : All (λ placing. placing.person < length (persons reg)) placings
  pub named : names_of reg placings ≡ order
  pub clusters : All (λ placing. placing.cluster ≡ cluster_of reg (name_of reg placing)) placings

-- those of the numbered applicants that are a person's, in a cluster
abbrev pub own_rows : Text → ℕ → List (ℕ × (Text × Text)) → List Person
own_rows person cluster applicants =
    map (λ e. record { name = e.1.0; cluster = cluster; number = e.0 }) (filter (λ e. bytes_eq e.1.1 person) applicants)

-- the applicants, person by person, each person's in its cluster
unfoldable pub applicants_in : Register → List Placing → List Person
applicants_in reg placings =
    flat_map (λ placing. own_rows (name_of reg placing) placing.cluster (enumerate_from 0 reg.applicants)) placings

-- the register numbers of applicants
abbrev pub numbers_in : List Person → List ℕ
numbers_in applicants = map (λ person. person.number) applicants

-- the applicants of a register, each with the name that has its number, and one for each number
pub record AreApplicants (reg : Register) (applicants : List Person) : Type 0 where
  pub many : length applicants ≡ length reg.applicants
  pub numbers_below : All (λ number. number < length applicants) (numbers_in applicants)
  pub numbers_differ : AllPairs (λ a b. a ≢ b) (numbers_in applicants)
  pub each_number : (number : ℕ) → number < length applicants → Contains (numbers_in applicants) number
  pub named : (place : ℕ) (person : Person) → slice_get applicants place ≡ Some person
      → slice_get (names reg) person.number ≡ Some person.name

-- the persons of a register who were placed, in the same order
pub record AreReviewers (reg : Register) (placings : List Placing) (reviewers : List Owner) : Type 0 where
  pub many : length reviewers ≡ length placings
  pub known : (index : ℕ) (placing : Placing) → slice_get placings index ≡ Some placing
      → placing.person < length (persons reg)
  pub named : (index : ℕ) (placing : Placing) (owner : Owner) → slice_get placings index ≡ Some placing
      → slice_get reviewers index ≡ Some owner → name_of reg placing ≡ owner.name
  pub first : (index : ℕ) (owner : Owner) → slice_get reviewers index ≡ Some owner
      → owner.first < length reg.applicants

-- a table gives each number below so many a place of its own below so many
pub record GivesOwnPlaces (n : ℕ) (table : List ℕ) : Type 0 where
  pub few : n ≤ MOST_APPLICANTS
  pub room : length table ≡ MOST_APPLICANTS
  pub below : (number : ℕ) → number < n → slice_index table number < n
  pub differ : (a b : ℕ) → a < n → b < n → slice_index table a ≡ slice_index table b → a ≡ b
