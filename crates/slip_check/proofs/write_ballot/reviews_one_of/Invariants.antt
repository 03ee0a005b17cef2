use Rattle.std.proofs.Common.{◌≡◌, false, eqb, filter}
use Rattle.std.specs.List.{list_any}
use Rattle.house_base.specs.Grid.{cell}
use Rattle.house_base.specs.Setting.{cluster_at}
use Rattle.peer_selection.specs.Counting.{numbers_below}
use Rattle.slip_check.proofs.write_ballot.reviews_one_of.Given as goal

-- of the members so far the person reviews none
abbrev pub invariant-loop-place : goal.invariant-loop-place
invariant-loop-place l = list_any (cell l.desk.pairs l.reviewer) (filter (λ q. eqb (cluster_at l.plan q) l.cluster) (numbers_below l.place)) ≡ false
