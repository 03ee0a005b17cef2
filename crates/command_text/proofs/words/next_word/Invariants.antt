use Rattle.std.proofs.Common.{◌≡◌, length}
use Rattle.house_model.specs.Text.{words}
use Rattle.command_text.proofs.words.next_word.Given as goal

-- the gaps that were passed hold no word
abbrev pub invariant-loop-word : goal.invariant-loop-word
invariant-loop-word l = words l.rest ≡ words l.line

abbrev pub decreases-loop-word : goal.decreases-loop-word
decreases-loop-word l = length l.rest
