use Rattle.std.proofs.Common.{◌≡◌}
use Rattle.trial_file.specs.Trial.{trial_names}
use Rattle.trial_file.proofs.names.trial_names.Given as goal

abbrev pub invariant-loop-index : goal.invariant-loop-index
invariant-loop-index l = l.names.items ≡ trial_names l.index
