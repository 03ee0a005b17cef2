use Rattle.std.specs.Prelude.{ℕ, Bool, List, length, nat_le, ◌==◌, ◌&&◌, ◌||◌, slice_index}
use Rattle.std.specs.List.{list_all}
use Rattle.house_base.specs.declared.limits.TheConstants.{MOST_NAME_BYTES}

-- a byte from a, which is 97, to z, which is 122
abbrev pub is_letter : ℕ → Bool
is_letter b = nat_le 97 b && nat_le b 122

-- a byte that may stand in a name: a letter, a digit, which is 48 to 57, or a hyphen, which is 45
abbrev pub is_name_byte : ℕ → Bool
is_name_byte b = is_letter b || (nat_le 48 b && nat_le b 57) || b == 45

-- a word of the form of a name: 1 to 24 such bytes, the first a letter
unfoldable pub is_name : List ℕ → Bool
is_name word = nat_le (length word) MOST_NAME_BYTES && is_letter (slice_index word 0) && list_all is_name_byte word
