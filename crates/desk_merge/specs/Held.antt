-- How the reviews are held: as the text of their desk file, with the place at which each line ends.
use Rattle.std.specs.Prelude.{◌≡◌, ℕ, ◌+◌, ◌-◌, List, [], ◌∷◌, IsTrue, length, map, slice_index_or, take, ◌==◌}
use Rattle.std.specs.FinMap.{entries, from_sorted, is_sorted}
use Rattle.std.specs.List.{slice_split}
use Rattle.house_base.specs.Text.{Text}
use Rattle.house_model.specs.Heard.{without_last}
use Rattle.house_model.specs.Said.{number}
use Rattle.house_model.specs.Text.{word}
use Rattle.desk_merge.specs.Desk.{AreItems, desk_text, entry_line}
use Rattle.desk_merge.specs.Joined.{Item, Joined, key_cmp}

-- what the words of a line say
unfoldable pub item_in : Text → Item
item_in line = ((word line 1, word line 2), (number (word line 3), number (word line 4)))

-- what a line with its line feed says
abbrev pub item_on : Text → Item
item_on line = item_in (take (length line - 1) line)

-- what the lines of a text say
unfoldable pub items_in : Text → List Item
items_in text = map item_in (without_last (slice_split (λ b. b == 10) text))

abbrev pub joined_in : Text → Joined
joined_in text = from_sorted (items_in text)

-- where the lines of items end, from an index on
abbrev pub line_ends : ℕ → List Item → List ℕ
line_ends from [] = []
line_ends from (e ∷ es) = (from + length (entry_line e)) ∷ line_ends (from + length (entry_line e)) es

-- a desk file, and where its lines end
pub record AreHeld (text : Text) (ends : List ℕ) : Type 0 where
  pub spelled : text ≡ desk_text (items_in text)
  pub items : AreItems (items_in text)
  pub rise : IsTrue (is_sorted key_cmp (items_in text))
  pub ends_are : ends ≡ line_ends 0 (items_in text)

-- the item at an index
abbrev pub item_at : Joined → ℕ → Item
item_at m i = slice_index_or (entries m) i (([], []), (0, 0))
