-- The slip that is told of a name, and what is promised of it and of a text that is right.
use Rattle.std.specs.Prelude.{◌≡◌, ◌∷◌, ℕ, ◌<◌, [], codes, drop, position}
use Rattle.std.specs.Option.{option_map_or}
use Rattle.std.specs.Str.{bytes_eq}
use Rattle.house_base.specs.Setting.{name_at, names_of, size}
use Rattle.house_base.specs.Text.{Text}
use Rattle.house_model.specs.Headline.{AreOfCall}
use Rattle.house_model.specs.Isolation.{IsApplicantOf, without}
use Rattle.house_model.specs.Report.{line_of}
use Rattle.house_model.specs.Reviews.{profile}
use Rattle.house_model.specs.Said.{setting}
use Rattle.house_model.specs.Text.{Lines}
use Rattle.peer_selection.specs.Lottery.{chance}
use Rattle.peer_selection.specs.Profile.{Profile}
use Rattle.command_text.specs.Strict.{fed_lines}
use Rattle.slip_check.specs.Form.{chance_in, rows_of, slip_in}
use Rattle.slip_check.specs.Slip.{printed_slip}

-- the slip of the applicant of a name, or the line that no applicant has it
unfoldable pub slip_told : Text → Profile → Text
slip_told name f =
    option_map_or (printed_slip f) (position (bytes_eq name) (names_of f.setting)) (line_of (codes "unlisted" ∷ []))

-- a text is also the slip that lines give without those of the person of the name's applicant
abbrev pub OwnReviewsAreInNoSlip : Text → Lines → Text → Type 0
OwnReviewsAreInNoSlip name lines text = (person : Text) (p : ℕ) → IsApplicantOf person lines p
    → name_at (setting lines) p ≡ name → text ≡ slip_told name (profile (without person lines))

-- all lines of a whole call whose slip of the name that a text tells has the text's lines behind the first give the
-- applicant of this name the chance that the text prints
abbrev pub PrintsChances : Text → Type 0
PrintsChances bytes = (lines : Lines) (p : ℕ) → AreOfCall lines → p < size (setting lines)
    → (slip_in (rows_of bytes)).name ≡ name_at (setting lines) p
    → drop 1 (fed_lines bytes) ≡ drop 1 (fed_lines (printed_slip (profile lines) p))
    → chance (profile lines) p ≡ chance_in (rows_of bytes)
