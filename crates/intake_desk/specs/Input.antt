-- How far an input was cut into lines.
use Rattle.std.specs.Prelude.{◌≡◌, ◌≢◌, ℕ, ◌+◌, ◌-◌, ◌≤◌, ◌==◌, ◌++◌, Bool, MatchBool, [], ◌∷◌, length, take, position, Option, Some, IfSome, IsSomeAnd}
use Rattle.std.specs.Io.KnownBytes.{IsAtEnd}
use Rattle.std.specs.Option.{option_map}
use Rattle.house_base.specs.Text.{Text}
use Rattle.house_model.specs.Heard.{whole_lines}
use Rattle.house_model.specs.Text.{Lines, lines}
use Rattle.command_text.specs.Held.{HasNoFeed}
use Rattle.intake_log.specs.declared.limits.TheConstants.{MOST_LINE_BYTES}
use Rattle.intake_desk.specs.declared.waiting.Came.{Came}
use Rattle.intake_desk.specs.declared.waiting.Came.TheVariants as came

-- what is still to be cut: the bytes that wait, and those that are left of the input
abbrev pub uncut : Text → Option Text → Option Text
uncut waiting left = option_map (λ rest. waiting ++ rest) left

-- The next line stands before this place of the bytes that wait: up to their first line feed, or all of them at the
-- end of the input.
abbrev pub IsNext : Text → Option Text → ℕ → Bool → Type 0
IsNext waiting left end is_last = MatchBool is_last
    (HasNoFeed waiting × (waiting ≢ []) × (end ≡ length waiting) × IsAtEnd left)
    (position (λ byte. byte == 10) waiting ≡ Some end)

-- what came, seen by the bytes that wait and those that are left
abbrev pub HasCome : Text → Option Text → Came → Type 0
HasCome waiting left (came.Line end is_last) = IsNext waiting left end is_last
HasCome waiting left came.Long = HasNoFeed waiting × (MOST_LINE_BYTES + 2 ≤ length waiting)
HasCome waiting left came.End = (waiting ≡ []) × IsAtEnd left

-- the lines of a text that begins with these bytes are these lines and those of what follows
pub record IsBehind (consumed : Text) (done : Lines) : Type 0 where
  pub lines_are : (more : Text) → lines (consumed ++ more) ≡ done ++ lines more
  pub whole_are : (more : Text) → whole_lines (consumed ++ more) ≡ done ++ whole_lines more

-- of an input these lines are cut off, and these bytes wait
abbrev pub IsCut : Option Text → Option Text → Text → Lines → Type 0
IsCut before left waiting done = IfSome before (λ text. IsSomeAnd left (λ rest.
    (consumed : Text) × (text ≡ consumed ++ (waiting ++ rest)) × IsBehind consumed done))

-- behind these lines of an input stands one of this kind
abbrev pub IsFollowed : Option Text → Lines → (Text → Type 0) → Type 0
IsFollowed before done P = IfSome before (λ text. (line : Text) × (more : Lines) × (lines text ≡ done ++ line ∷ more) × P line)

-- the bytes that were taken of an input of which the rest is left
abbrev pub taken_before : Text → Text → Text
taken_before input rest = take (length input - length rest) input
