-- What bytes are read as, as a function of them: by the longest front of them that is a desk file.
use Rattle.std.specs.Prelude.{ℕ, zero, suc, ◌+◌, ◌^◌, Bool, ◌&&◌, nat_lt, nat_le, Result, Ok, Err, length, take, if◌then◌else◌}
use Rattle.std.specs.FinMap.{is_sorted}
use Rattle.std.specs.List.{list_all}
use Rattle.std.specs.Str.{bytes_eq}
use Rattle.house_base.specs.declared.limits.TheConstants.{MOST_POINTS}
use Rattle.house_base.specs.Name.{is_name}
use Rattle.house_base.specs.Text.{Text}
use Rattle.desk_merge.specs.Desk.{desk_text}
use Rattle.desk_merge.specs.Held.{items_in, joined_in}
use Rattle.desk_merge.specs.Joined.{Item, Joined, key_cmp}

-- whether a desk file can have an item
abbrev pub is_item : Item → Bool
is_item e = is_name e.0.0 && is_name e.0.1 && nat_lt e.1.0 (2 ^ 64) && nat_le e.1.1 MOST_POINTS

-- whether a text is the desk file of the items that its lines say
unfoldable pub is_desk_file : Text → Bool
is_desk_file text = bytes_eq text (desk_text (items_in text)) && list_all is_item (items_in text)
    && is_sorted key_cmp (items_in text)

-- how many bytes the longest front has that is a desk file, of those of at most so many
unfoldable pub front_within : ℕ → Text → ℕ
front_within zero text = 0
front_within (suc n) text = if is_desk_file (take (suc n) text) then suc n else front_within n text

-- the longest front that is a desk file
abbrev pub longest_front : Text → Text
longest_front bytes = take (front_within (length bytes) bytes) bytes

-- what bytes are read as: the map whose file they are, or else the number of the line behind the longest front that is one
unfoldable pub desk_read : Text → Result Joined ℕ
desk_read bytes =
    if is_desk_file bytes then Ok (joined_in bytes) else Err (length (items_in (longest_front bytes)) + 1)
