-- A text that comes in pieces, and its lines.
use Rattle.std.specs.Prelude.{◌≡◌, ℕ, ◌+◌, ◌++◌, Bool, List, [], ◌∷◌, Option, Some, None, MatchBool, length, take, if◌then◌else◌}
use Rattle.std.specs.Option.{option_map, option_to_list}
use Rattle.house_base.specs.Text.{Text}
use Rattle.house_model.specs.Text.{Lines, is_empty, without_return}
use Rattle.command_text.specs.Held.{HasNoFeed}

-- the bytes that were fed since the last line feed, and those of the line that the last feed ended, if it did
pub record Cutting : Type 0 where
  pub begun : Text
  pub ended : Option Text

-- nothing was fed
abbrev pub fresh : Cutting
fresh = record { begun = []; ended = None }

-- the line that the last feed ended
abbrev pub ended_line : Cutting → Option Text
ended_line cutting = option_map without_return cutting.ended

-- what stands behind the last line feed
abbrev pub rest_of : Cutting → Option Text
rest_of cutting = if is_empty cutting.begun then None else Some (without_return cutting.begun)

-- a feed of a piece with a line feed: it uses the piece up to its first one, and the line ends
pub record EndsLine (before : Cutting) (piece : Text) (used : ℕ) (after : Cutting) : Type 0 where
  pub front : Text
  pub front_has_no_feed : HasNoFeed front
  pub used_is : used ≡ length front + 1
  pub front_is : take used piece ≡ front ++ 10 ∷ []
  pub after_is : after ≡ record { begun = []; ended = Some (before.begun ++ front) }

-- a feed of a piece without a line feed: it uses all of it, and the line goes on
pub record GoesOn (before : Cutting) (piece : Text) (used : ℕ) (after : Cutting) : Type 0 where
  pub has_no_feed : HasNoFeed piece
  pub used_is : used ≡ length piece
  pub after_is : after ≡ record { begun = before.begun ++ piece; ended = None }

-- a feed of a piece, of which it uses so many bytes, and that ends a line or does not
abbrev pub Feeds : Cutting → Text → ℕ → Bool → Cutting → Type 0
Feeds before piece used whole after =
    MatchBool whole (EndsLine before piece used after) (GoesOn before piece used after)

-- a line that a feed of a piece ends, using so many bytes of it, where it leaves as much begun as there was
abbrev pub IsWholeLine : Cutting → Text → ℕ → Text → Type 0
IsWholeLine before piece used line = (after : Cutting) × EndsLine before piece used after
    × (ended_line after ≡ Some line) × (after.begun ≡ before.begun)

-- a feed, with what it came to
pub record Feeding : Type 0 where
  pub piece : Text
  pub used : ℕ
  pub whole : Bool
  pub after : Cutting

-- feeds, one behind the other
abbrev pub AreFed : Cutting → List Feeding → Type 0
AreFed before [] = Unit {0}
AreFed before (f ∷ fs) = Feeds before f.piece f.used f.whole f.after × AreFed f.after fs

-- what is left after feeds
abbrev pub last_after : Cutting → List Feeding → Cutting
last_after before [] = before
last_after before (f ∷ fs) = last_after f.after fs

-- the bytes that feeds used
abbrev pub used_bytes : List Feeding → Text
used_bytes [] = []
used_bytes (f ∷ fs) = take f.used f.piece ++ used_bytes fs

-- the lines that feeds ended
abbrev pub ended_lines : List Feeding → Lines
ended_lines [] = []
ended_lines (f ∷ fs) = option_to_list (ended_line f.after) ++ ended_lines fs
