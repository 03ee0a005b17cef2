use Rattle.std.proofs.Common.{◌≡◌, not, vec_len}
use Rattle.peer_selection.specs.Counting.{count_below}
use Rattle.peer_selection.specs.Shortage.{Places}
use Rattle.assign_flow.specs.Places.{places_of}
use Rattle.assign_flow.specs.Residual.{IsTree}
use Rattle.assign_flow.specs.Search.{tree_of, GoesFrom}
use Rattle.assign_flow.specs.Ways.{graph_of}
use Rattle.assign_flow.proofs.search.Search.reach_reviewers.Given as goal

abbrev pub invariant-loop-reviewer : goal.invariant-loop-reviewer
invariant-loop-reviewer l = record {
  side : vec_len l.self.reviewers ≡ vec_len l.initial.self.reviewers;
  grown : IsTree (graph_of l.ways) (tree_of l.self);
  goes : (a b : Places) → GoesFrom (graph_of l.ways) a b (places_of l.room) l.initial.self → GoesFrom (graph_of l.ways) a b (places_of l.room) l.self;
  proposals : l.self.reached_proposals ≡ l.initial.self.reached_proposals;
}

-- the reviewers that are not reached yet
abbrev pub decreases-loop-reviewer : goal.decreases-loop-reviewer
decreases-loop-reviewer l = count_below (λ r. not (places_of l.self.reached_reviewers r)) (vec_len l.self.reviewers)
