-- The lines of a slip, part by part, as they are written.
use Rattle.std.specs.Prelude.{ℕ, List, ◌∷◌, filter, flat_map}
use Rattle.house_base.specs.declared.plan.Owner.{Owner}
use Rattle.house_base.specs.Setting.{Setting, name_at}
use Rattle.house_base.specs.Text.{Text}
use Rattle.house_model.specs.Report.{line_of}
use Rattle.peer_selection.specs.Profile.{Profile, row}
use Rattle.slip_check.specs.Slip.{ballot_of, ballot_row, cell_of, cell_text, member_row, places_in, reviews_one_of}

-- the line of the member at a place, and those of the members of a cluster
abbrev pub member_line : Setting → ℕ → Text
member_line s p = line_of (member_row (name_at s p))

unfoldable pub member_lines : Setting → ℕ → Text
member_lines s j = flat_map (member_line s) (places_in s j)

-- the persons who review one of a cluster
unfoldable pub voters_of : Profile → ℕ → List Owner
voters_of f j = filter (reviews_one_of f (places_in f.setting j)) f.setting.owners

-- the line of a person's ballot, and those of all who review one of a cluster
unfoldable pub ballot_line : Profile → Owner → Text
ballot_line f owner = line_of (ballot_row (ballot_of f owner))

unfoldable pub ballot_lines : Profile → ℕ → Text
ballot_lines f j = flat_map (ballot_line f) (voters_of f j)

-- the cell of a reviewer for the proposal at a place, with a space before it
abbrev pub spaced_cell : Profile → ℕ → ℕ → Text
spaced_cell f r p = 32 ∷ cell_text (cell_of f r p)

-- all cells of a reviewer, by rising distance
unfoldable pub spaced_cells : Profile → ℕ → Text
spaced_cells f r = flat_map (spaced_cell f r) (row f r)
