-- The text with which lines end for the report is the one that is found for them.
use Rattle.std.proofs.Common.{◌≡◌, refl, sym, subst}
use Rattle.peer_selection.specs.Shortage.{assignment_demand}
use Rattle.house_base.specs.Text.{Text}
use Rattle.house_model.specs.declared.goal.Goal.TheVariants as goal
use Rattle.house_model.specs.Ending.{Ended}
use Rattle.house_model.specs.EndTexts.{IsEndText, IsTextOfEnd}
use Rattle.house_model.specs.Runs.{end_of, taken}
use Rattle.house_model.specs.Said.{setting}
use Rattle.house_model.specs.Text.{Lines}
use Rattle.house_model.proofs.EndTextLemmas.{end_text-determined}
use Rattle.end_text.specs.Shortage.{shortage_proposals, shortage_reviewers}
use Rattle.end_text.specs.Text.{end_text_of, text_of_end}
use Rattle.end_text.proofs.ShortageLemmas.{found_shortage}

pub end_text-found : (lines : Lines) (text : Text) → IsEndText lines text → text ≡ end_text_of lines
unfolding end_text_of
end_text-found lines text says = by (end_of goal.Run lines) refl says where
  met : Lines
  met = taken goal.Run lines

  by : (end : Ended) → end_of goal.Run lines ≡ end → IsTextOfEnd end goal.Run met text → text ≡ text_of_end end met
  by Ended.Done is said = said
  by Ended.Settled is said = said
  by (Ended.Refused line reason) is said = said
  by Ended.Short is (a, b, shortage, said) =
      let d = assignment_demand (setting met) in
      end_text-determined lines text (text_of_end Ended.Short met) says
      (subst (λ end. IsTextOfEnd end goal.Run met (text_of_end Ended.Short met)) (sym is)
      (shortage_reviewers d, shortage_proposals d, found_shortage d a b shortage, refl))
