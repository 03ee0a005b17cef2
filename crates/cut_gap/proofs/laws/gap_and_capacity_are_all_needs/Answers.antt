use Rattle.cut_gap.proofs.CutLemmas.{capacity-and_needed}
use Rattle.cut_gap.proofs.laws.gap_and_capacity_are_all_needs.Goals as goal

pub returns : goal.returns
returns c = capacity-and_needed
