-- Which lines an intake keeps, how it ends, and what is told.
use Rattle.std.specs.Prelude.{ℕ, ◌+◌, ◌++◌, ◌||◌, nat_lt, Bool, [], ◌∷◌, length, drop, flat_map, codes, decimal, if◌then◌else◌}
use Rattle.std.specs.List.{range_with_len}
use Rattle.house_base.specs.Text.{Text}
use Rattle.house_model.specs.Text.{Lines}
use Rattle.intake_log.specs.declared.limits.TheConstants.{MOST_LINE_BYTES}
use Rattle.intake_log.specs.Scan.{is_full}
use Rattle.intake_desk.specs.declared.status.DeskStatus.{DeskStatus}
use Rattle.intake_desk.specs.declared.status.DeskStatus.TheVariants as status

-- whether a line is not put behind these
abbrev pub is_refused : Lines → Text → Bool
is_refused held line = nat_lt MOST_LINE_BYTES (length line) || is_full held line

-- the lines that are put behind others: those before the first that is refused
unfoldable pub kept_behind : Lines → Lines → Lines
kept_behind held [] = []
kept_behind held (line ∷ rest) = if is_refused held line then [] else line ∷ kept_behind (held ++ line ∷ []) rest

-- how an intake ends at these lines, the first of which is refused and has this number
abbrev pub end_at : ℕ → Lines → DeskStatus
end_at number [] = status.Done
end_at number (line ∷ rest) = if nat_lt MOST_LINE_BYTES (length line) then status.Long number else status.Full

-- how the intake of these lines behind old ones ends, faults and want of memory aside
abbrev pub intake_end : Lines → Lines → DeskStatus
intake_end old input = let count = length (kept_behind old input) in end_at (count + 1) (drop count input)

-- the line that tells how many lines are held
abbrev pub told_line : ℕ → Text
told_line count = codes "kept " ++ decimal count ++ 10 ∷ []

-- what is told of so many lines that were put behind so many
abbrev pub told : ℕ → ℕ → Text
told old count = flat_map told_line (range_with_len (old + 1) count)

-- what `show` prints
abbrev pub shown : Lines → Text
shown lines = flat_map (λ line. line ++ 10 ∷ []) lines
