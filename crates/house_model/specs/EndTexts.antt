use Rattle.std.specs.Prelude.{◌≡◌, List, [], ◌∷◌, ℕ, codes}
use Rattle.peer_selection.specs.Shortage.{Places, IsShortage, assignment_demand}
use Rattle.house_model.specs.declared.goal.Goal.{Goal}
use Rattle.house_model.specs.declared.goal.Goal.TheVariants as goal
use Rattle.house_model.specs.Ending.{Ended}
use Rattle.house_model.specs.Report.{line_of, refused_words}
use Rattle.house_model.specs.Runs.{end_of, report_of, taken}
use Rattle.house_model.specs.Said.{assigned, setting}
use Rattle.house_model.specs.Text.{Lines}
use Rattle.house_model.specs.Texts.{short_text, pairs_text}

-- The text with which a run ends.

-- the text that is given where the lines taken do what was asked for
abbrev pub done_text : Goal → Lines → List ℕ
done_text goal.Run lines = report_of lines
done_text goal.Pairs lines = pairs_text (setting lines) (assigned goal.Pairs lines)
done_text goal.Feasible lines = line_of (codes "feasible" ∷ [])

-- the text is that of the shortage of a setting
abbrev pub IsShortText : List ℕ → Lines → Type 0
IsShortText text lines =
    (a b : Places) × IsShortage (assignment_demand (setting lines)) a b × (text ≡ short_text (setting lines) a b)

-- the text that is given with an end, for a goal and the lines that were taken
abbrev pub IsTextOfEnd : Ended → Goal → Lines → List ℕ → Type 0
IsTextOfEnd Ended.Done g lines text = text ≡ done_text g lines
IsTextOfEnd Ended.Settled g lines text = text ≡ done_text g lines
IsTextOfEnd (Ended.Refused line reason) g lines text = text ≡ line_of (refused_words line reason)
IsTextOfEnd Ended.Short g lines text = IsShortText text lines

-- the text with which a list of lines ends for the report: its report, its refusal or its shortage
abbrev pub IsEndText : Lines → List ℕ → Type 0
IsEndText lines text = IsTextOfEnd (end_of goal.Run lines) goal.Run (taken goal.Run lines) text
