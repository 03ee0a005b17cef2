-- How lines are held in one buffer.
use Rattle.std.specs.Prelude.{◌≡◌, ℕ, ◌-◌, ◌≤◌, ◌==◌, false, All, List, [], ◌∷◌, length, take, drop}
use Rattle.house_base.specs.Text.{Text}
use Rattle.house_model.specs.Text.{Lines}

-- a text without a line feed
abbrev pub HasNoFeed : Text → Type 0
HasNoFeed text = All (λ byte. (byte == 10) ≡ false) text

-- the parts of a text that end at these places, one behind the other from an index on
abbrev pub parts_from : ℕ → List ℕ → Text → Lines
parts_from from [] bytes = []
parts_from from (end ∷ ends) bytes = take (end - from) (drop from bytes) ∷ parts_from end ends bytes

-- places that rise from an index to the last
abbrev pub RiseTo : ℕ → List ℕ → ℕ → Type 0
RiseTo from [] last = from ≡ last
RiseTo from (end ∷ ends) last = (from ≤ end) × RiseTo end ends last

-- lines that stand one behind the other in a buffer and end at these places
pub record AreHeld (bytes : Text) (ends : List ℕ) : Type 0 where
  pub rise : RiseTo 0 ends (length bytes)
  pub no_feed : HasNoFeed bytes
