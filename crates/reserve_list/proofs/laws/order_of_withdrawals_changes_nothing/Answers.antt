use Rattle.house_model.specs.Text.{lines}
use Rattle.reserve_list.specs.Leaving.{leaving}
use Rattle.reserve_list.proofs.SetLemmas.{after-same}
use Rattle.reserve_list.proofs.laws.order_of_withdrawals_changes_nothing.Goals as goal

pub returns-clause-names : goal.returns-clause-names
returns-clause-names c = after-same

pub returns-clause-files : goal.returns-clause-files
returns-clause-files c = λ b one other same. after-same b (leaving (lines one)) (leaving (lines other)) same
