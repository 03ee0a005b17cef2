use Rattle.std.proofs.Common.{not, vec_len, ap, ◌∙◌, arith}
use Rattle.peer_selection.specs.Counting.{count_below}
use Rattle.assign_flow.specs.Places.{places_of}
use Rattle.assign_flow.specs.Search.{tree_of, reviewer_mark}
use Rattle.assign_flow.specs.Ways.{graph_of}
use Rattle.assign_flow.proofs.CountLemmas.{marks-fewer}
use Rattle.assign_flow.proofs.TreeLemmas.{reached-same, sought-grown, under_way-ends}
use Rattle.assign_flow.proofs.search.Search.run.Goals as goal

pub returns-in-Some-clause-grown : goal.returns-in-Some-clause-grown
returns-in-Some-clause-grown c = λ a b goes. c.in-Some.ensures.grown a b (c.loop-found.invariant.goes a b goes)

pub returns-in_default-next_proposal-clause-grown : goal.returns-in_default-next_proposal-clause-grown
returns-in_default-next_proposal-clause-grown c = λ a b goes.
    sought-grown (graph_of c.args.ways.now) a b (places_of c.args.room.now) (tree_of c.reach_reviewers.new.self) (c.in_default.ensures.goes a b (c.loop-found.invariant.goes a b goes)).sought

pub returns-in_default-next_proposal-clause-full : goal.returns-in_default-next_proposal-clause-full
returns-in_default-next_proposal-clause-full c = λ a b goes. (c.in_default.ensures.goes a b (c.loop-found.invariant.goes a b goes)).sought.full

pub returns-in_default-next_proposal-clause-reached : goal.returns-in_default-next_proposal-clause-reached
returns-in_default-next_proposal-clause-reached c = λ a b goes.
    let s = c.reach_reviewers.new.self in
    under_way-ends (graph_of c.args.ways.now) a b (places_of c.args.room.now) (places_of s.near_reviewers) (places_of s.near_proposals) (tree_of s)
    (c.in_default.ensures.goes a b (c.loop-found.invariant.goes a b goes))
    (λ r near. reached-same (places_of s.reached_reviewers r) (reviewer_mark s.reviewers.items r).before ∙ c.in_default.ensures.all r near)
    c.in_default-next_proposal.ensures.none

pub loop-found-smaller : goal.loop-found-smaller
loop-found-smaller c =
    let s = c.loop-found.self in
    let a = c.reach_reviewers.new.self in
    let m = c.reach_proposal.new.self in
    let p = c.in-Some-next_proposal.proposal in
    let fewer = marks-fewer (places_of a.reached_proposals) (places_of m.reached_proposals) (vec_len a.reviewers) p (a.proposals_below p c.in-Some-next_proposal.ensures.near) c.reach_proposal.ensures.proposals c.in-Some-next_proposal.ensures.new in
    omega (
      arith,
      fewer,
      ap (count_below (λ i. not (places_of m.reached_proposals i))) c.reach_proposal.ensures.side,
      ap (count_below (λ i. not (places_of s.reached_proposals i))) c.reach_reviewers.ensures.side,
      ap (λ x. count_below (λ i. not (places_of x i)) (vec_len a.reviewers)) c.in_default.ensures.proposals,
    )

pub loop-found-preserved : goal.loop-found-preserved
loop-found-preserved c =
    let inv = c.loop-found.invariant in
    record {
      side = c.reach_proposal.ensures.side ∙ (c.reach_reviewers.ensures.side ∙ inv.side);
      grown = c.reach_proposal.ensures.tree;
      goes = λ a b goes. c.reach_proposal.ensures.goes a b (places_of c.args.room.now) (c.in_default.ensures.goes a b (inv.goes a b goes));
    }
