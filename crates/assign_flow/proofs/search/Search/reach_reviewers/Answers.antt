use Rattle.std.proofs.Common.{not, vec_len, ap, ◌∙◌, arith}
use Rattle.peer_selection.specs.Counting.{count_below}
use Rattle.assign_flow.specs.Places.{places_of}
use Rattle.assign_flow.proofs.CountLemmas.{marks-fewer}
use Rattle.assign_flow.proofs.search.Search.reach_reviewers.Goals as goal

pub returns-in-Some-reach_reviewer-clause-grown : goal.returns-in-Some-reach_reviewer-clause-grown
returns-in-Some-reach_reviewer-clause-grown c = λ a b goes. c.in-Some-reach_reviewer.ensures.grown a b (c.loop-reviewer.invariant.goes a b goes)

pub loop-reviewer-smaller : goal.loop-reviewer-smaller
loop-reviewer-smaller c =
    let s = c.loop-reviewer.self in
    let m = c.reach_reviewer.new.self in
    let r = c.in-Some.reviewer in
    let fewer = marks-fewer (places_of s.reached_reviewers) (places_of m.reached_reviewers) (vec_len s.reviewers) r (s.reviewers_below r c.in-Some.ensures.near) c.reach_reviewer.ensures.reviewers c.in-Some.ensures.new in
    omega (arith, fewer, ap (count_below (λ i. not (places_of m.reached_reviewers i))) c.reach_reviewer.ensures.side)

pub loop-reviewer-preserved : goal.loop-reviewer-preserved
loop-reviewer-preserved c =
    let inv = c.loop-reviewer.invariant in
    record {
      side = c.reach_reviewer.ensures.side ∙ inv.side;
      grown = c.in_default-reach_reviewer.ensures.tree;
      goes = λ a b goes. c.in_default-reach_reviewer.ensures.goes a b (inv.goes a b goes);
      proposals = c.in_default-reach_reviewer.ensures.proposals ∙ inv.proposals;
    }
