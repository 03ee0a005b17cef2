-- What is read of an input.
use Rattle.std.specs.Prelude.{◌≡◌, ◌≢◌, ◌≤◌, ◌-◌, ◌||◌, true, false, [], ◌++◌, ℕ, length, take, Option, IfSome, IsSomeAnd}
use Rattle.house_base.specs.Text.{Text}
use Rattle.house_model.specs.declared.goal.Goal.{Goal}
use Rattle.house_model.specs.Heard.{is_over, whole_lines}
use Rattle.house_model.specs.Runs.{ends_run}
use Rattle.house_model.specs.Text.{Lines}

-- where a source tells what is left, it told it before, and these bytes were taken in between
abbrev pub TakesWhereTold : Option Text → Option Text → Text → Type 0
TakesWhereTold before after bytes = IfSome before (λ input. IsSomeAnd after (λ rest. input ≡ bytes ++ rest))

-- where a source told what was left, nothing is left
abbrev pub EndsWhereTold : Option Text → Option Text → Type 0
EndsWhereTold before after = IfSome before (λ input. IsSomeAnd after (λ rest. rest ≡ []))

-- the bytes that were taken of an input of which the rest is left
abbrev pub taken_before : Text → Text → Text
taken_before input rest = take (length input - length rest) input

-- bytes are within the limits, and no line that ends among them ends a run with these opening lines
pub record IsUndecided (g : Goal) (opening : Lines) (bytes : Text) : Type 0 where
  pub within : is_over bytes ≡ false
  pub goes_on : ends_run g (opening ++ whole_lines bytes) ≡ false

-- bytes are over the limits, or a line that ends among them ends a run with these opening lines
abbrev pub IsDecided : Goal → Lines → Text → Type 0
IsDecided g opening bytes = (is_over bytes || ends_run g (opening ++ whole_lines bytes)) ≡ true

-- where a source told what was left, nothing is left, or what was taken in between decides how a run ends
abbrev pub DecidedWhereTold : Goal → Lines → Option Text → Option Text → Type 0
DecidedWhereTold g opening before after =
    IfSome before (λ input. IsSomeAnd after (λ rest. rest ≢ [] → IsDecided g opening (taken_before input rest)))

-- where a source tells what is left, what was taken in between decides nothing
abbrev pub UndecidedWhereTold : Goal → Lines → Option Text → Option Text → Type 0
UndecidedWhereTold g opening before after =
    IfSome before (λ input. IfSome after (λ rest. IsUndecided g opening (taken_before input rest)))

-- how many bytes are taken at once, at most
abbrev pub most_at_once : ℕ
most_at_once = 65536

-- bytes that decide nothing, and behind them no more than are taken at once
abbrev pub IsNoFurther : Goal → Lines → Text → Type 0
IsNoFurther g opening bytes =
    (front behind : Text) × (bytes ≡ front ++ behind) × IsUndecided g opening front × (length behind ≤ most_at_once)

-- where a source tells what is left, no more was taken in between than may decide how a run ends
abbrev pub NoFurtherWhereTold : Goal → Lines → Option Text → Option Text → Type 0
NoFurtherWhereTold g opening before after =
    IfSome before (λ input. IfSome after (λ rest. IsNoFurther g opening (taken_before input rest)))
