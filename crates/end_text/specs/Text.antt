-- The text with which lines end for the report, as a function of the lines.
use Rattle.peer_selection.specs.Shortage.{assignment_demand}
use Rattle.house_base.specs.Text.{Text}
use Rattle.house_model.specs.declared.goal.Goal.TheVariants as goal
use Rattle.house_model.specs.Ending.{Ended}
use Rattle.house_model.specs.EndTexts.{done_text}
use Rattle.house_model.specs.Report.{line_of, refused_words}
use Rattle.house_model.specs.Runs.{end_of, taken}
use Rattle.house_model.specs.Said.{setting}
use Rattle.house_model.specs.Text.{Lines}
use Rattle.house_model.specs.Texts.{short_text}
use Rattle.end_text.specs.Shortage.{shortage_proposals, shortage_reviewers}

-- the text of the shortage of a setting
abbrev pub shortage_text : Lines → Text
shortage_text lines =
    let d = assignment_demand (setting lines) in short_text (setting lines) (shortage_reviewers d) (shortage_proposals d)

-- the text that is given with an end, where these lines were taken for the report
abbrev pub text_of_end : Ended → Lines → Text
text_of_end Ended.Done lines = done_text goal.Run lines
text_of_end Ended.Settled lines = done_text goal.Run lines
text_of_end (Ended.Refused line reason) lines = line_of (refused_words line reason)
text_of_end Ended.Short lines = shortage_text lines

-- the text with which lines end for the report
unfoldable pub end_text_of : Lines → Text
end_text_of lines = text_of_end (end_of goal.Run lines) (taken goal.Run lines)
