use Rattle.std.specs.Prelude.{ℕ, Bool, List, length, nat_le, nat_lt, ◌&&◌, ◌||◌}
use Rattle.std.specs.List.{list_all}
use Rattle.house_base.specs.Name.{is_name_byte}
use Rattle.house_base.specs.declared.limits.TheConstants.{MOST_SEED_BYTES}

-- a byte that may stand in a seed: one of a name, or a capital letter, which is 65 to 90
abbrev pub is_seed_byte : ℕ → Bool
is_seed_byte b = is_name_byte b || (nat_le 65 b && nat_le b 90)

-- a word of the form of a seed: 1 to 64 such bytes
unfoldable pub is_seed : List ℕ → Bool
is_seed word = nat_lt 0 (length word) && nat_le (length word) MOST_SEED_BYTES && list_all is_seed_byte word
