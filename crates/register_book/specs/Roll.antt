use Rattle.std.specs.Prelude.{◌≡◌, ◌≤◌, ℕ, List, length, map, count_by}
use Rattle.std.specs.Str.{bytes_eq}
use Rattle.house_base.specs.declared.limits.TheConstants.{MOST_APPLICANTS}
use Rattle.house_base.specs.Text.{Text}
use Rattle.house_model.specs.Register.{firsts}
use Rattle.name_index.specs.Index.{number_in}

-- the names of these applicants, in register order
abbrev pub names_in : List (Text × Text) → List Text
names_in applicants = map (λ a. a.0) applicants

-- their persons, in the order in which each first appears
unfoldable pub persons_in : List (Text × Text) → List Text
persons_in applicants = firsts (map (λ a. a.1) applicants)

-- how many of them a person has
unfoldable pub own_in : List (Text × Text) → Text → ℕ
own_in applicants person = count_by (λ a. bytes_eq a.1 person) applicants

-- applicants with indices of their names and of their persons, the number of each one's person, and how many
-- applicants each person has
pub record IsRoll (applicants : List (Text × Text)) (names persons : List Text) (owners own : List ℕ) : Type 0 where
  pub few : length applicants ≤ MOST_APPLICANTS
  pub names_are : names ≡ names_in applicants
  pub persons_are : persons ≡ persons_in applicants
  pub owners_are : owners ≡ map (λ a. number_in (persons_in applicants) a.1) applicants
  pub own_are : own ≡ map (own_in applicants) (persons_in applicants)
