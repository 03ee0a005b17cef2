-- What becomes of a report behind which a file of withdrawals is taken.
use Rattle.std.specs.Prelude.{◌≡◌, ℕ, ◌++◌, Result, Ok, Err}
use Rattle.house_base.specs.declared.answer.Reason.{Reason}
use Rattle.house_base.specs.Text.{Text}
use Rattle.house_model.specs.Headline.{ChancesAreCounted, OwnReviewsChangeNoChance}
use Rattle.house_model.specs.Text.{Lines}
use Rattle.house_top.specs.declared.bad.Bad.{Bad}
use Rattle.house_top.specs.declared.bad.Bad.TheVariants as bad
use Rattle.house_top.specs.declared.status.Status.{Status}
use Rattle.house_top.specs.declared.status.Status.TheVariants as status
use Rattle.house_top.specs.Refused.{text_without_run}

-- the status of a call that tells who moves up, or that a line of the file is refused
abbrev pub status_of_reserve : Result Text (ℕ × Reason) → Status
status_of_reserve (Ok text) = status.Done
status_of_reserve (Err fault) = status.BadFile (bad.Leave fault.0 fault.1)

-- and its text
abbrev pub text_of_reserve : Result Text (ℕ × Reason) → Text
text_of_reserve (Ok text) = text
text_of_reserve (Err fault) = text_without_run (status.BadFile (bad.Leave fault.0 fault.1))

-- a line of a file of withdrawals is refused for this
abbrev pub IsLeaving : Bad → Type 0
IsLeaving (bad.Leave line reason) = Unit {0}
IsLeaving why = ⊥

-- a text has a report of these lines in front, with the chances that the lines give, whatever their reviewers write
abbrev pub BeginsWithReport : Lines → Text → Type 0
BeginsWithReport lines text = (report : Text) × (rest : Text) × (text ≡ report ++ rest)
    × ChancesAreCounted lines report × OwnReviewsChangeNoChance lines report
