use Rattle.std.specs.Prelude.{◌≡◌, ℕ, Bool, List, ◌==◌, ◌&&◌}
use Rattle.std.specs.List.{list_any}
use Rattle.register_book.specs.Rows.{holds}

-- pairs of a person's number and an applicant's, in the order in which they came, and their rows of bits
pub record PairsHeld : Type 0 where
  pub pairs : List (ℕ × ℕ)
  pub rows : List ℕ

-- whether a pair of numbers is among these
unfoldable pub numbers_among : List (ℕ × ℕ) → ℕ → ℕ → Bool
numbers_among pairs person applicant = list_any (λ p. p.0 == person && p.1 == applicant) pairs

-- the bits tell which pairs are held
abbrev pub IsPairList : List (ℕ × ℕ) → List ℕ → Type 0
IsPairList pairs rows = (person applicant : ℕ) → holds rows person applicant ≡ numbers_among pairs person applicant
