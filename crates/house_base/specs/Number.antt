use Rattle.std.specs.Prelude.{ℕ, Bool, List, length, nat_le, nat_lt, ◌==◌, ◌&&◌, ◌||◌, not, slice_index, Option, Some, None, if◌then◌else◌}
use Rattle.std.specs.Str.{all_ascii_digits}
use Rattle.std.specs.Str.Parse.{digits_value}

-- a number in its one decimal form: digits, of which the first is 0 only where it stands alone
abbrev pub is_canonical : List ℕ → Bool
is_canonical text = nat_lt 0 (length text) && all_ascii_digits text
    && (length text == 1 || not (slice_index text 0 == 48))

-- the number that a text spells, where it is at most so much
unfoldable pub number_up_to : ℕ → List ℕ → Option ℕ
number_up_to most text =
    if is_canonical text && nat_le (digits_value 10 text) most then Some (digits_value 10 text) else None
