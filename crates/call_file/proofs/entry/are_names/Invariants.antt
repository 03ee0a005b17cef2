use Rattle.std.proofs.Common.{◌≡◌, length}
use Rattle.std.specs.List.{list_all}
use Rattle.house_base.specs.Name.{is_name}
use Rattle.house_model.specs.Text.{words}
use Rattle.call_file.proofs.entry.are_names.Given as goal

-- the words that were passed are names
abbrev pub invariant-loop-word : goal.invariant-loop-word
invariant-loop-word l = list_all is_name (words l.text) ≡ list_all is_name (words l.rest)

abbrev pub decreases-loop-word : goal.decreases-loop-word
decreases-loop-word l = length (words l.rest)
