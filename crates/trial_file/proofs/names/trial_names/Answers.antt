use Rattle.std.proofs.Common.{sym, ◌∙◌}
use Rattle.trial_file.proofs.NameLemmas.{names-none, one_name_more}
use Rattle.trial_file.proofs.names.trial_names.Goals as goal

pub loop-index-init : goal.loop-index-init
loop-index-init c = c.in_ok-names.ensures.items ∙ sym names-none

pub loop-index-preserved : goal.loop-index-preserved
loop-index-preserved c =
    one_name_more c.loop-index.names.items c.push.new.self.items c.in_ok-trial_name.field-0 c.loop-index.index c.in_ok-push.ensures.items c.loop-index.invariant c.in_ok-trial_name.ensures
