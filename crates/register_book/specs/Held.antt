use Rattle.std.specs.Prelude.{◌≡◌, ◌≤◌, ◌<◌, ℕ, ◌*◌, Bool, true, All, List, [], length, map, filter, find, flat_map, slice_index, slice_index_or}
use Rattle.std.specs.Option.{option_map_or}
use Rattle.std.specs.Str.{bytes_eq}
use Rattle.house_base.specs.Text.{Text}
use Rattle.house_model.specs.Register.{Register, IsRegister}
use Rattle.register_book.specs.PairList.{PairsHeld}
use Rattle.register_book.specs.Places.{PlacesHeld}
use Rattle.name_index.specs.Index.{number_in}
use Rattle.register_book.specs.Roll.{names_in, persons_in}
use Rattle.register_book.specs.Rows.{holds}
use Rattle.register_book.specs.declared.rows.TheConstants.{ROW_WORDS}

-- the text with a number among others; the empty text where there is none
abbrev pub text_at : List Text → ℕ → Text
text_at texts i = slice_index_or texts i []

-- the names of pairs of numbers
unfoldable pub named : List Text → List Text → List (ℕ × ℕ) → List (Text × Text)
named persons names pairs = map (λ p. (text_at persons p.0, text_at names p.1)) pairs

-- each pair of a person and a name whose numbers pass a test
unfoldable pub pairs_where : (ℕ → ℕ → Bool) → List Text → List Text → List (Text × Text)
pairs_where test persons names =
    filter (λ p. test (number_in persons p.0) (number_in names p.1)) (flat_map
    (λ person. map (λ name. (person, name)) names) persons)

-- the register that a book stands for
unfoldable pub register_of : List (Text × Text) → PlacesHeld → List ℕ → PairsHeld → Register
register_of applicants places conflicts pairs = record {
  applicants = applicants;
  placed = places.placed;
  barred = pairs_where (holds conflicts) (persons_in applicants) (names_in applicants);
  pairs = named (persons_in applicants) (names_in applicants) pairs.pairs;
}

-- the cluster that the places give a person; 0 where they give it none
unfoldable pub cluster_in : List (Text × ℕ) → Text → ℕ
cluster_in placed person = option_map_or (λ p. p.1) (find (λ p. bytes_eq p.0 person) placed) 0

-- the clusters of the persons by number, and room for the place of each
pub record ArePlaces (applicants : List (Text × Text)) (places : PlacesHeld) : Type 0 where
  pub from_one : All (λ p. 1 ≤ p.1) places.placed
  pub room : length applicants ≤ places.room
  pub long : length (persons_in applicants) ≤ length places.clusters
  pub clusters : (i : ℕ) → i < length (persons_in applicants) →
      slice_index places.clusters i ≡ cluster_in places.placed (text_at (persons_in applicants) i)
  pub rest : (i : ℕ) → length (persons_in applicants) ≤ i → slice_index places.clusters i ≡ 0

-- conflicts of persons and applicants who are on record, and a row for each person
pub record AreConflicts (applicants : List (Text × Text)) (conflicts : List ℕ) : Type 0 where
  pub long : length (persons_in applicants) * ROW_WORDS ≤ length conflicts
  pub known : (person name : ℕ) → holds conflicts person name ≡ true →
      (person < length (persons_in applicants)) × (name < length applicants)

-- pairs of persons and applicants who are on record, and a row for each person
pub record ArePairs (applicants : List (Text × Text)) (pairs : PairsHeld) : Type 0 where
  pub long : length (persons_in applicants) * ROW_WORDS ≤ length pairs.rows
  pub known : All (λ p. (p.0 < length (persons_in applicants)) × (p.1 < length applicants)) pairs.pairs

-- a register as a book keeps it
pub record IsBook (applicants : List (Text × Text)) (places : PlacesHeld) (conflicts : List ℕ) (pairs : PairsHeld) : Type 0 where
  pub register : IsRegister (register_of applicants places conflicts pairs)
  pub places_kept : ArePlaces applicants places
  pub conflicts_kept : AreConflicts applicants conflicts
  pub pairs_kept : ArePairs applicants pairs
