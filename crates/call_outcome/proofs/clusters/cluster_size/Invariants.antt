use Rattle.std.proofs.Common.{◌≡◌, ◌≤◌, eqb}
use Rattle.house_base.specs.Setting.{cluster_at}
use Rattle.peer_selection.specs.Counting.{count_below}
use Rattle.call_outcome.proofs.clusters.cluster_size.Given as goal

-- the members among the places so far
abbrev pub invariant-loop-place : goal.invariant-loop-place
invariant-loop-place l = record { members : l.size ≡ count_below (λ p. eqb (cluster_at l.plan p) l.cluster) l.place; few : l.size ≤ l.place }
