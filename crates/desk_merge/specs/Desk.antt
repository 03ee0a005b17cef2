-- The desk file: a line for each review, in the order of the keys.
use Rattle.std.specs.Prelude.{◌≡◌, ℕ, ◌+◌, ◌<◌, ◌≤◌, ◌^◌, List, [], ◌∷◌, ◌++◌, All, IsTrue, Result, Ok, Err, codes, decimal, flat_map, length}
use Rattle.std.specs.FinMap.{entries, is_sorted}
use Rattle.house_base.specs.declared.limits.TheConstants.{MOST_POINTS}
use Rattle.house_base.specs.Name.{is_name}
use Rattle.house_base.specs.Text.{Text}
use Rattle.house_model.specs.Report.{line_of}
use Rattle.desk_merge.specs.Joined.{Item, Joined, key_cmp}

-- names, a revision of 64 bits, and points within their bound
pub record IsItem (e : Item) : Type 0 where
  pub reviewer : IsTrue (is_name e.0.0)
  pub proposal : IsTrue (is_name e.0.1)
  pub revision : e.1.0 < 2 ^ 64
  pub points : e.1.1 ≤ MOST_POINTS

-- the words of an item
abbrev pub entry_words : Item → List Text
entry_words e = codes "entry" ∷ e.0.0 ∷ e.0.1 ∷ decimal e.1.0 ∷ decimal e.1.1 ∷ []

-- the line of an item: its words with one space between them, and a line feed
unfoldable pub entry_line : Item → Text
entry_line e = line_of (entry_words e)

-- the lines of items
unfoldable pub desk_text : List Item → Text
desk_text es = flat_map entry_line es

-- the desk file of a map
abbrev pub desk_file : Joined → Text
desk_file m = desk_text (entries m)

-- items that a desk file can have
abbrev pub AreItems : List Item → Type 0
AreItems es = All IsItem es

-- the key comes behind those of all the items before it, which rise
abbrev pub CanFollow : List Item → Item → Type 0
CanFollow before e = IsTrue (is_sorted key_cmp (before ++ e ∷ []))

-- Bytes that are the file of no map. Lines before this one, counted from 1, are a desk file, and it is the line of no item
-- that can follow them.
pub record IsFaultAt (bytes : Text) (line : ℕ) : Type 0 where
  pub before : List Item
  pub behind : Text
  pub bytes_are : bytes ≡ desk_text before ++ behind
  pub items : AreItems before
  pub rise : IsTrue (is_sorted key_cmp before)
  pub line_is : line ≡ length before + 1
  pub goes_on : 0 < length behind
  pub fault : (e : Item) (rest : Text) → IsItem e → CanFollow before e → behind ≡ entry_line e ++ rest → ⊥

-- what bytes are read as: a map whose file they are, or the line at which they are off the form
abbrev pub Reads : Text → Result Joined ℕ → Type 0
Reads bytes (Ok m) = (bytes ≡ desk_file m) × AreItems (entries m)
Reads bytes (Err line) = IsFaultAt bytes line
