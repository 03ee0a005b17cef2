use Rattle.std.proofs.Common.{◌≡◌, not, vec_len}
use Rattle.peer_selection.specs.Counting.{count_below}
use Rattle.peer_selection.specs.Shortage.{Places}
use Rattle.assign_flow.specs.Places.{places_of}
use Rattle.assign_flow.specs.Residual.{IsTree}
use Rattle.assign_flow.specs.Search.{tree_of, GoesFrom}
use Rattle.assign_flow.specs.Ways.{graph_of}
use Rattle.assign_flow.proofs.search.Search.run.Given as goal

abbrev pub invariant-loop-found : goal.invariant-loop-found
invariant-loop-found l = record {
  side : vec_len l.self.reviewers ≡ vec_len l.initial.self.reviewers;
  grown : IsTree (graph_of l.ways) (tree_of l.self);
  goes : (a b : Places) → GoesFrom (graph_of l.ways) a b (places_of l.room) l.initial.self → GoesFrom (graph_of l.ways) a b (places_of l.room) l.self;
}

-- the proposals that are not reached yet
abbrev pub decreases-loop-found : goal.decreases-loop-found
decreases-loop-found l = count_below (λ p. not (places_of l.self.reached_proposals p)) (vec_len l.self.reviewers)
