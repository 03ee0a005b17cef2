use Rattle.peer_selection.proofs.ClusterLemmas.{cumulative_quota-all}
use Rattle.peer_selection.proofs.SeatLemmas.{seats-all, seats-rounded}
use Rattle.peer_selection.proofs.laws.seats_are_given.Goals as goal

pub returns-clause-all : goal.returns-clause-all
returns-clause-all c = λ f v h draw. seats-all f v f.setting.clusters draw (cumulative_quota-all f h.setting h.valid)

pub returns-clause-rounded : goal.returns-clause-rounded
returns-clause-rounded c = λ f v h draw i below. seats-rounded f v f.setting.clusters i draw (cumulative_quota-all f h.setting h.valid) below
