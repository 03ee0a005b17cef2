-- What a run has heard of its input.
use Rattle.std.specs.Prelude.{◌≡◌, ◌≢◌, ◌+◌, ◌-◌, ◌^◌, ◌<◌, ◌≤◌, ◌⊎◌, ◌&&◌, true, false, List, [], ◌∷◌, ◌++◌, Option, Some, None, IfSome, IsSomeAnd, length}
use Rattle.command_text.specs.Cutting.{Cutting, Feeding, AreFed, fresh, last_after, used_bytes}
use Rattle.house_base.specs.Text.{Text}
use Rattle.house_model.specs.declared.goal.Goal.{Goal}
use Rattle.house_model.specs.declared.limits.TheConstants.{MOST_BYTES, MOST_LINES}
use Rattle.house_model.specs.declared.verb.Verb.TheVariants as verb
use Rattle.house_model.specs.Ending.{in_force, stop_of}
use Rattle.house_model.specs.Heard.{heard, is_over, whole_lines}
use Rattle.house_model.specs.Outcome.{outcome}
use Rattle.house_model.specs.Reviews.{took_of}
use Rattle.house_model.specs.Runs.{end_of, ends_run, halt, looked_at, settles, taken}
use Rattle.house_model.specs.Said.{has}
use Rattle.house_model.specs.Text.{Lines}
use Rattle.input_run.specs.declared.hearing.Hearing.{Hearing}
use Rattle.input_run.specs.declared.hearing.Progress.{Progress}
use Rattle.input_run.specs.declared.hearing.Progress.TheVariants as progress
use Rattle.input_run.specs.declared.input.Heard.{Heard}
use Rattle.input_run.specs.declared.input.Heard.TheVariants as what
use Rattle.input_run.specs.declared.line_run.LineRun.{LineRun}
use Rattle.input_run.specs.declared.line_run.Taken.{Taken}
use Rattle.input_run.specs.declared.line_run.Taken.TheVariants as line
use Rattle.input_run.specs.declared.opening.Opening.{Opening}
use Rattle.input_run.specs.declared.opening.Opening.TheVariants as opening
use Rattle.input_run.specs.Kept.{HasTaken}

-- bytes in whatever pieces, and what their feeds have left as begun
pub record IsCut (bytes : Text) (cutting : Cutting) : Type 0 where
  pub feeds : List Feeding
  pub are_fed : AreFed fresh feeds
  pub used : used_bytes feeds ≡ bytes
  pub left : (last_after fresh feeds).begun ≡ cutting.begun

-- no line of these ends a run
pub record GoOn (g : Goal) (lines : Lines) : Type 0 where
  pub unstopped : stop_of (halt g) lines ≡ None
  pub unsettled : (settles g && has verb.Assign lines) ≡ false

-- a run has taken opening lines, none of which ends the run, and can count those of an input behind them
pub record HasOpened (g : Goal) (opening : Lines) (run : LineRun) : Type 0 where
  pub taken : HasTaken g opening run
  pub go_on : GoOn g opening
  pub few : length opening + MOST_LINES < 2 ^ 64 - 1

-- a run has these lines, none of which stands behind one that ends the run
pub record HasLines (g : Goal) (lines : Lines) (run : LineRun) : Type 0 where
  pub taken : HasTaken g lines run
  pub few : length lines < 2 ^ 64 - 1
  pub looked : looked_at g lines ≡ lines
  pub clear : (stop_of (halt g) lines ≡ None) ⊎ ((settles g && has verb.Assign (in_force (halt g) lines)) ≡ false)

-- A run has taken its opening lines: all of them, none of which ends the run, or those up to one that does.
abbrev pub HasTakenOpening : Goal → Lines → Opening → LineRun → Type 0
HasTakenOpening g lines opening.Going run = HasOpened g lines run
HasTakenOpening g lines opening.Ended run = (front behind : Lines) × (lines ≡ front ++ behind)
    × HasLines g front run × (ends_run g front ≡ true)

-- Behind opening lines a hearing has the lines of these bytes that end, none of which ends the run, and the bytes behind
-- them. The limits count the bytes and their lines alone.
pub record HasHeard (g : Goal) (opening : Lines) (bytes : Text) (h : Hearing) : Type 0 where
  pub goal : h.goal ≡ g
  pub taken : HasTaken g (opening ++ whole_lines bytes) h.run
  pub few : length opening + MOST_LINES < 2 ^ 64 - 1
  pub cut : IsCut bytes h.cutter
  pub go_on : GoOn g (opening ++ whole_lines bytes)
  pub bytes_counted : h.bytes ≡ length bytes
  pub lines_counted : h.lines ≡ length (whole_lines bytes)
  pub within : is_over bytes ≡ false

-- behind opening lines a run has the lines of these bytes that end, the last of which ends the run
pub record HasEnded (g : Goal) (opening : Lines) (bytes : Text) (run : LineRun) : Type 0 where
  pub lines : HasLines g (opening ++ whole_lines bytes) run
  pub ends : ends_run g (opening ++ whole_lines bytes) ≡ true
  pub within : is_over bytes ≡ false

-- bytes after which an input has room for no more, and no line of which ends a run with these opening lines
pub record IsFull (g : Goal) (opening : Lines) (bytes : Text) : Type 0 where
  pub go_on : GoOn g (opening ++ whole_lines bytes)
  pub within : is_over bytes ≡ false
  pub full : (length bytes ≡ MOST_BYTES) ⊎ (length (whole_lines bytes) ≡ MOST_LINES)

-- the last of these lines ends a run, which has taken them
pub record EndsWith (g : Goal) (lines : Lines) (run : LineRun) : Type 0 where
  pub taken : HasTaken g lines run
  pub ends : ends_run g lines ≡ true
  pub looked : looked_at g lines ≡ lines
  pub clear : (stop_of (halt g) lines ≡ None) ⊎ ((settles g && has verb.Assign (in_force (halt g) lines)) ≡ false)

-- a line behind others: the run goes on, with what became of the line, or the line ends it
abbrev pub TakesLine : Goal → Lines → Text → Taken → LineRun → Type 0
TakesLine g lines x (line.Going took) run =
    HasTaken g (lines ++ x ∷ []) run × GoOn g (lines ++ x ∷ []) × (took ≡ took_of g lines x)
TakesLine g lines x line.Ended run = EndsWith g (lines ++ x ∷ []) run
TakesLine g lines x line.Memory run = Unit {0}

-- how far a run has come with a line
abbrev pub progress_of : Taken → Progress
progress_of (line.Going took) = progress.Going
progress_of line.Ended = progress.Ended
progress_of line.Memory = progress.Memory

-- some bytes more, up to the end of a line
abbrev pub Advances : Goal → Lines → Text → Progress → Hearing → Type 0
Advances g opening bytes progress.Going h = HasHeard g opening bytes h
Advances g opening bytes progress.Ended h = HasEnded g opening bytes h.run
Advances g opening bytes progress.Over h = ⊥
Advances g opening bytes progress.Memory h = Unit {0}

-- a piece more
abbrev pub HearsPiece : Goal → Lines → Text → Text → Progress → Hearing → Type 0
HearsPiece g opening bytes piece progress.Going h = HasHeard g opening (bytes ++ piece) h
HearsPiece g opening bytes piece progress.Ended h = (front behind : Text) × (piece ≡ front ++ behind)
    × HasEnded g opening (bytes ++ front) h.run
HearsPiece g opening bytes piece progress.Over h = (front behind : Text) × (piece ≡ front ++ behind) × (behind ≢ [])
    × IsFull g opening (bytes ++ front)
HearsPiece g opening bytes piece progress.Memory h = Unit {0}

-- Lines tell how a run ends that has taken opening lines and goes on with an input of which a rest was not read.
pub record TellsEnd (g : Goal) (opening : Lines) (input rest : Text) (lines : Lines) : Type 0 where
  pub due : outcome g opening input ≡ Some (end_of g lines)
  pub same_lines : taken g (opening ++ heard input) ≡ taken g lines
  pub all : ends_run g lines ≡ false → (rest ≡ []) × (is_over input ≡ false) × (opening ++ heard input ≡ lines)

-- behind opening lines an input was heard as far as it tells how the run ends
abbrev pub HearsWhereTold : Goal → Lines → Option Text → Option Text → Heard → Type 0
HearsWhereTold g opening before after (what.Lines run) = (lines : Lines) × HasLines g lines run
    × (length lines ≤ length opening + MOST_LINES) × IfSome before (λ input. IsSomeAnd after (λ rest. TellsEnd g opening input rest lines))
HearsWhereTold g opening before after what.TooLong = IfSome before (λ input. outcome g opening input ≡ None)

-- what was heard are some lines, or too many
abbrev pub HasSomeLines : Goal → Heard → Type 0
HasSomeLines g (what.Lines run) = (lines : Lines) × HasLines g lines run
HasSomeLines g what.TooLong = Unit {0}
