-- A map of texts and vectors, seen as what each file holds.
use Rattle.std.specs.Prelude.{ℕ, List, map, String, Vec, string_bytes}
use Rattle.std.specs.BTreeMap.{BTreeMap}
use Rattle.std.specs.FinMap.{from_entries}
use Rattle.house_io.specs.Files.{Contents}

module _ {Y Z : Type 0} where
  -- the bytes of a name and the content of its file
  abbrev pub file_of : String Y × Vec ℕ Z → List ℕ × List ℕ
  file_of entry = (string_bytes entry.0, entry.1.items)

  -- what a map of texts and vectors holds
  abbrev pub contents_of : BTreeMap (String Y) (Vec ℕ Z) → Contents
  contents_of files = from_entries (map file_of files.entries)
