use Rattle.std.proofs.Common.{◌∙◌}
use Rattle.peer_selection.proofs.ClusterLemmas.{cumulative_quota-all}
use Rattle.peer_selection.proofs.SeatLemmas.{seats-all}
use Rattle.peer_selection.proofs.SelectionLemmas.{selected-filled, selected-empty}
use Rattle.peer_selection.proofs.laws.seats_are_filled_by_rank.Goals as goal

pub returns-clause-cluster : goal.returns-clause-cluster
returns-clause-cluster c = selected-filled

pub returns-clause-all : goal.returns-clause-all
returns-clause-all c = λ f v h draw. selected-empty f v h.setting ∙ seats-all f v f.setting.clusters draw (cumulative_quota-all f h.setting h.valid)
