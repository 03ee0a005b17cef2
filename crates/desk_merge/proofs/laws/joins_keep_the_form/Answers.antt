use Rattle.desk_merge.proofs.ItemLemmas.{items-join}
use Rattle.desk_merge.proofs.laws.joins_keep_the_form.Goals as goal

pub returns : goal.returns
returns c = items-join
