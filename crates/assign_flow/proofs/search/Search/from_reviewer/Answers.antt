use Rattle.std.proofs.Common.{◌||◌, eqb, slice_index, ap, ◌∙◌}
use Rattle.std.proofs.lemmas.Bool.{false≢true, eqb-true, lt-ltb}
use Rattle.assign_flow.specs.Places.{places_of}
use Rattle.assign_flow.specs.Residual.{wanting, nowhere, only}
use Rattle.assign_flow.specs.Search.{tree_of}
use Rattle.assign_flow.specs.Ways.{graph_of}
use Rattle.assign_flow.proofs.TreeLemmas.{tree-none, under_way-none, grown-wider, or_none}
use Rattle.assign_flow.proofs.search.Search.from_reviewer.Goals as goal

pub run-requires-clause-tree : goal.run-requires-clause-tree
run-requires-clause-tree c =
    tree-none (graph_of c.args.ways.now) (tree_of c.clear.new.self) c.clear.ensures.count (λ r l. c.clear.ensures.reviewers r) (λ p l. c.clear.ensures.proposals p)

pub returns-clause-grown : goal.returns-clause-grown
returns-clause-grown c =
    let g = graph_of c.args.ways.now in
    let goes = under_way-none g (only c.args.reviewer) nowhere (places_of c.args.room.now) (places_of c.insert.new.self) (places_of c.clear.new.self.near_proposals) (tree_of c.clear.new.self) c.clear.ensures.count c.clear.ensures.reviewers c.clear.ensures.proposals
    (λ r l. c.insert.ensures r ∙ (ap (λ b. eqb r c.args.reviewer || b) (c.clear.ensures.near_reviewers r) ∙ or_none (eqb r c.args.reviewer)))
    (λ p l. c.clear.ensures.near_proposals p)
    (λ p l e. absurd (false≢true e)) in
    grown-wider g (only c.args.reviewer) nowhere (places_of c.args.room.now) (wanting c.args.unmet.now) (tree_of c.run.new.self) (c.run.ensures.grown (only c.args.reviewer) nowhere goes)
    (λ r l e. ap (wanting c.args.unmet.now) (eqb-true r c.args.reviewer e) ∙ lt-ltb 0 (slice_index c.args.unmet.now c.args.reviewer) c.requires.unmet)
