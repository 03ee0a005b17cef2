use Rattle.std.proofs.Common.{arith}
use Rattle.std.proofs.lemmas.Bool.{false≢true}
use Rattle.house_base.proofs.RowLemmas.{IfNone-map}
use Rattle.assign_flow.specs.Places.{places_of}
use Rattle.assign_flow.specs.Residual.{wanting, nowhere}
use Rattle.assign_flow.specs.Search.{tree_of}
use Rattle.assign_flow.specs.Ways.{graph_of}
use Rattle.assign_flow.proofs.TreeLemmas.{tree-none, under_way-none}
use Rattle.assign_flow.proofs.search.Search.from_reviewers.Goals as goal

pub run-requires-clause-tree : goal.run-requires-clause-tree
run-requires-clause-tree c =
    tree-none (graph_of c.args.ways.now) (tree_of c.clear.new.self) c.clear.ensures.count (λ r l. c.clear.ensures.reviewers r) (λ p l. c.clear.ensures.proposals p)

pub returns-clause-grown : goal.returns-clause-grown
returns-clause-grown c =
    let g = graph_of c.args.ways.now in
    let goes = under_way-none g (wanting c.args.unmet.now) nowhere (places_of c.args.room.now) (places_of c.of_some-self.result) (places_of c.clear.new.self.near_proposals) (tree_of c.clear.new.self) c.clear.ensures.count c.clear.ensures.reviewers c.clear.ensures.proposals
    (λ r l. c.of_some-self.ensures.inside r (omega arith))
    (λ p l. c.clear.ensures.near_proposals p)
    (λ p l e. absurd (false≢true e)) in
    c.run.ensures.grown (wanting c.args.unmet.now) nowhere goes

pub returns-clause-full : goal.returns-clause-full
returns-clause-full c =
    let g = graph_of c.args.ways.now in
    let goes = under_way-none g (wanting c.args.unmet.now) nowhere (places_of c.args.room.now) (places_of c.of_some-self.result) (places_of c.clear.new.self.near_proposals) (tree_of c.clear.new.self) c.clear.ensures.count c.clear.ensures.reviewers c.clear.ensures.proposals
    (λ r l. c.of_some-self.ensures.inside r (omega arith))
    (λ p l. c.clear.ensures.near_proposals p)
    (λ p l e. absurd (false≢true e)) in
    IfNone-map _ _ c.run.result (λ h. h (wanting c.args.unmet.now) nowhere goes) c.run.ensures.full

pub returns-clause-reached : goal.returns-clause-reached
returns-clause-reached c =
    let g = graph_of c.args.ways.now in
    let goes = under_way-none g (wanting c.args.unmet.now) nowhere (places_of c.args.room.now) (places_of c.of_some-self.result) (places_of c.clear.new.self.near_proposals) (tree_of c.clear.new.self) c.clear.ensures.count c.clear.ensures.reviewers c.clear.ensures.proposals
    (λ r l. c.of_some-self.ensures.inside r (omega arith))
    (λ p l. c.clear.ensures.near_proposals p)
    (λ p l e. absurd (false≢true e)) in
    IfNone-map _ _ c.run.result (λ h. h (wanting c.args.unmet.now) nowhere goes) c.run.ensures.reached
