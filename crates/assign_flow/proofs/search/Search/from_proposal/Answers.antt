use Rattle.std.proofs.Common.{◌||◌, eqb, ap, ◌∙◌}
use Rattle.std.proofs.lemmas.Bool.{eqb-true}
use Rattle.house_base.proofs.RowLemmas.{IfNone-map}
use Rattle.assign_flow.specs.Places.{places_of}
use Rattle.assign_flow.specs.Residual.{nowhere, only}
use Rattle.assign_flow.specs.Search.{tree_of}
use Rattle.assign_flow.specs.Ways.{graph_of}
use Rattle.assign_flow.proofs.TreeLemmas.{tree-none, under_way-none, or_none}
use Rattle.assign_flow.proofs.search.Search.from_proposal.Goals as goal

pub run-requires-clause-tree : goal.run-requires-clause-tree
run-requires-clause-tree c =
    tree-none (graph_of c.args.ways.now) (tree_of c.clear.new.self) c.clear.ensures.count (λ r l. c.clear.ensures.reviewers r) (λ p l. c.clear.ensures.proposals p)

pub returns-clause-grown : goal.returns-clause-grown
returns-clause-grown c =
    let g = graph_of c.args.ways.now in
    let goes = under_way-none g nowhere (only c.args.proposal) (places_of c.args.room.now) (places_of c.clear.new.self.near_reviewers) (places_of c.insert.new.self) (tree_of c.clear.new.self) c.clear.ensures.count c.clear.ensures.reviewers c.clear.ensures.proposals
    (λ r l. c.clear.ensures.near_reviewers r)
    (λ p l. c.insert.ensures p ∙ (ap (λ b. eqb p c.args.proposal || b) (c.clear.ensures.near_proposals p) ∙ or_none (eqb p c.args.proposal)))
    (λ p l e. ap (places_of c.args.room.now) (eqb-true p c.args.proposal e) ∙ c.requires.none) in
    c.run.ensures.grown nowhere (only c.args.proposal) goes

pub returns-clause-full : goal.returns-clause-full
returns-clause-full c =
    let g = graph_of c.args.ways.now in
    let goes = under_way-none g nowhere (only c.args.proposal) (places_of c.args.room.now) (places_of c.clear.new.self.near_reviewers) (places_of c.insert.new.self) (tree_of c.clear.new.self) c.clear.ensures.count c.clear.ensures.reviewers c.clear.ensures.proposals
    (λ r l. c.clear.ensures.near_reviewers r)
    (λ p l. c.insert.ensures p ∙ (ap (λ b. eqb p c.args.proposal || b) (c.clear.ensures.near_proposals p) ∙ or_none (eqb p c.args.proposal)))
    (λ p l e. ap (places_of c.args.room.now) (eqb-true p c.args.proposal e) ∙ c.requires.none) in
    IfNone-map _ _ c.run.result (λ h. h nowhere (only c.args.proposal) goes) c.run.ensures.full

pub returns-clause-reached : goal.returns-clause-reached
returns-clause-reached c =
    let g = graph_of c.args.ways.now in
    let goes = under_way-none g nowhere (only c.args.proposal) (places_of c.args.room.now) (places_of c.clear.new.self.near_reviewers) (places_of c.insert.new.self) (tree_of c.clear.new.self) c.clear.ensures.count c.clear.ensures.reviewers c.clear.ensures.proposals
    (λ r l. c.clear.ensures.near_reviewers r)
    (λ p l. c.insert.ensures p ∙ (ap (λ b. eqb p c.args.proposal || b) (c.clear.ensures.near_proposals p) ∙ or_none (eqb p c.args.proposal)))
    (λ p l e. ap (places_of c.args.room.now) (eqb-true p c.args.proposal e) ∙ c.requires.none) in
    IfNone-map _ _ c.run.result (λ h. h nowhere (only c.args.proposal) goes) c.run.ensures.reached
