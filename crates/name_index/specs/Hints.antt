use Rattle.std.specs.Prelude.{◌≡◌, ℕ, suc, ◌%◌, ◌<◌, Option, Some, List, [], length, slice_get, slice_index_or}
use Rattle.std.specs.Hash.FoldHasher.{initial, write, finish}
use Rattle.house_base.specs.Text.{Text}
use Rattle.name_index.specs.declared.hints.TheConstants.{HINTS}

-- the digest of a text: what the hasher of std gives for its bytes, as the number of a hint
unfoldable pub digest_of : Text → ℕ
digest_of text = finish (write initial text) % HINTS

-- what hints have for a text: the number under its digest
abbrev pub hint_for : List ℕ → Text → Option ℕ
hint_for hints text = slice_get hints (digest_of text)

-- each text has a hint that is not 0
abbrev pub HaveHints : List Text → List ℕ → Type 0
HaveHints texts hints = (i : ℕ) → i < length texts → (number : ℕ) × (hint_for hints (slice_index_or texts i []) ≡ Some (suc number))
