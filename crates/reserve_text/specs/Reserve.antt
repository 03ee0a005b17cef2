-- What is told of a report and of a file of withdrawals.
use Rattle.std.specs.Prelude.{◌≡◌, ℕ, Result, Ok, Err}
use Rattle.house_base.specs.declared.answer.Reason.{Reason}
use Rattle.house_base.specs.Text.{Text}
use Rattle.reserve_text.specs.declared.text.Reserve.{Reserve}
use Rattle.reserve_text.specs.declared.text.Reserve.TheVariants as reserve

-- it is this text, or the first line of the file that is refused, and why
abbrev pub IsReserve : Result Text (ℕ × Reason) → Reserve → Type 0
IsReserve r (reserve.Text text) = r ≡ Ok text.items
IsReserve r (reserve.Bad line reason) = r ≡ Err (line, reason)
