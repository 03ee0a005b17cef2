use Rattle.std.proofs.Common.{◌≡◌, None, Some, true, false, sym, ap, ◌∙◌, arith}
use Rattle.std.proofs.lemmas.List.{get_or_default}
use Rattle.house_base.specs.Grid.{cell}
use Rattle.assign_flow.specs.Search.{tree_of}
use Rattle.assign_flow.proofs.WalkLemmas.{sets-from, comes-to, goes-back, walks-reviewer, walked-more}
use Rattle.assign_flow.proofs.walk.walk_back.Goals as goal

pub set_held-requires-clause-reviewer_below : goal.set_held-requires-clause-reviewer_below
set_held-requires-clause-reviewer_below c =
    let s = c.args.search.now in
    let t = tree_of s in
    let n = c.args.ways.now.free.side in
    let hole = c.loop-reviewer.hole in
    let w = c.loop-reviewer.invariant.walked in
    let from : t.proposal_from hole ≡ Some c.in-Some.reviewer = ap (λ m. m.from) (sym (c.index.ensures ∙ get_or_default s.proposals.items hole _ _ (omega (arith, w.below)))) ∙ c.in-Some.is in
    omega (arith, ap (λ x. x.side) c.loop-reviewer.invariant.free, (comes-to n t (cell c.args.ways.now.held) (cell c.loop-reviewer.ways.held) c.args.proposal hole c.in-Some.reviewer w from).below)

pub index-requires-in-loop-reviewer : goal.index-requires-in-loop-reviewer
index-requires-in-loop-reviewer c =
    let s = c.args.search.now in
    let t = tree_of s in
    let n = c.args.ways.now.free.side in
    let hole = c.loop-reviewer.hole in
    let w = c.loop-reviewer.invariant.walked in
    let from : t.proposal_from hole ≡ Some c.in-Some.reviewer = ap (λ m. m.from) (sym (c.index.ensures ∙ get_or_default s.proposals.items hole _ _ (omega (arith, w.below)))) ∙ c.in-Some.is in
    omega (arith, ap (λ x. x.side) c.loop-reviewer.invariant.free, (comes-to n t (cell c.args.ways.now.held) (cell c.loop-reviewer.ways.held) c.args.proposal hole c.in-Some.reviewer w from).below)

pub returns-in_default-from-clause-walks : goal.returns-in_default-from-clause-walks
returns-in_default-from-clause-walks c =
    let s = c.args.search.now in
    let t = tree_of s in
    let n = c.args.ways.now.free.side in
    let hole = c.loop-reviewer.hole in
    let r = c.in-Some.reviewer in
    let w = c.loop-reviewer.invariant.walked in
    let from : t.proposal_from hole ≡ Some r = ap (λ m. m.from) (sym (c.index.ensures ∙ get_or_default s.proposals.items hole _ _ (omega (arith, w.below)))) ∙ c.in-Some.is in
    let come = comes-to n t (cell c.args.ways.now.held) (cell c.loop-reviewer.ways.held) c.args.proposal hole r w from in
    let gain = sets-from n (cell c.loop-reviewer.ways.held) (cell c.set_held.new.self.held) r hole true come.below w.below
    (λ i q il ql. c.set_held.ensures.held i q (omega (arith, ap (λ x. x.side) c.loop-reviewer.invariant.free)) (omega (arith, ap (λ x. x.side) c.loop-reviewer.invariant.free))) in
    let source : t.reviewer_from r ≡ None = ap (λ m. m.from) (sym (c.index-in-loop-reviewer.ensures ∙ get_or_default s.reviewers.items r _ _ (omega (arith, come.below)))) ∙ c.in_default-from.is in
    walks-reviewer n t (cell c.args.ways.now.held) (cell c.loop-reviewer.ways.held) (cell c.set_held.new.self.held) c.args.proposal hole r w from gain source

pub set_held-requires-in-loop-reviewer-clause-reviewer_below : goal.set_held-requires-in-loop-reviewer-clause-reviewer_below
set_held-requires-in-loop-reviewer-clause-reviewer_below c =
    let s = c.args.search.now in
    let t = tree_of s in
    let n = c.args.ways.now.free.side in
    let hole = c.loop-reviewer.hole in
    let w = c.loop-reviewer.invariant.walked in
    let from : t.proposal_from hole ≡ Some c.in-Some.reviewer = ap (λ m. m.from) (sym (c.index.ensures ∙ get_or_default s.proposals.items hole _ _ (omega (arith, w.below)))) ∙ c.in-Some.is in
    omega (arith, ap (λ x. x.side) c.loop-reviewer.invariant.free, ap (λ x. x.side) c.set_held.ensures.free, (comes-to n t (cell c.args.ways.now.held) (cell c.loop-reviewer.ways.held) c.args.proposal hole c.in-Some.reviewer w from).below)

pub set_held-requires-in-loop-reviewer-clause-proposal_below : goal.set_held-requires-in-loop-reviewer-clause-proposal_below
set_held-requires-in-loop-reviewer-clause-proposal_below c =
    let s = c.args.search.now in
    let t = tree_of s in
    let n = c.args.ways.now.free.side in
    let hole = c.loop-reviewer.hole in
    let r = c.in-Some.reviewer in
    let w = c.loop-reviewer.invariant.walked in
    let from : t.proposal_from hole ≡ Some r = ap (λ m. m.from) (sym (c.index.ensures ∙ get_or_default s.proposals.items hole _ _ (omega (arith, w.below)))) ∙ c.in-Some.is in
    let come = comes-to n t (cell c.args.ways.now.held) (cell c.loop-reviewer.ways.held) c.args.proposal hole r w from in
    let before : t.reviewer_from r ≡ Some c.in-Some-from.next = ap (λ m. m.from) (sym (c.index-in-loop-reviewer.ensures ∙ get_or_default s.reviewers.items r _ _ (omega (arith, come.below)))) ∙ c.in-Some-from.is in
    omega (arith, ap (λ x. x.side) c.loop-reviewer.invariant.free, ap (λ x. x.side) c.set_held.ensures.free, (goes-back n t (cell c.args.ways.now.held) (cell c.loop-reviewer.ways.held) c.args.proposal hole r c.in-Some-from.next w from before).below)

pub loop-reviewer-smaller : goal.loop-reviewer-smaller
loop-reviewer-smaller c =
    let s = c.args.search.now in
    let t = tree_of s in
    let n = c.args.ways.now.free.side in
    let hole = c.loop-reviewer.hole in
    let r = c.in-Some.reviewer in
    let w = c.loop-reviewer.invariant.walked in
    let from : t.proposal_from hole ≡ Some r = ap (λ m. m.from) (sym (c.index.ensures ∙ get_or_default s.proposals.items hole _ _ (omega (arith, w.below)))) ∙ c.in-Some.is in
    let come = comes-to n t (cell c.args.ways.now.held) (cell c.loop-reviewer.ways.held) c.args.proposal hole r w from in
    let before : t.reviewer_from r ≡ Some c.in-Some-from.next = ap (λ m. m.from) (sym (c.index-in-loop-reviewer.ensures ∙ get_or_default s.reviewers.items r _ _ (omega (arith, come.below)))) ∙ c.in-Some-from.is in
    omega (arith, come.tall, (goes-back n t (cell c.args.ways.now.held) (cell c.loop-reviewer.ways.held) c.args.proposal hole r c.in-Some-from.next w from before).lower)

pub loop-reviewer-preserved : goal.loop-reviewer-preserved
loop-reviewer-preserved c =
    let s = c.args.search.now in
    let t = tree_of s in
    let n = c.args.ways.now.free.side in
    let hole = c.loop-reviewer.hole in
    let r = c.in-Some.reviewer in
    let next = c.in-Some-from.next in
    let w = c.loop-reviewer.invariant.walked in
    let side = ap (λ x. x.side) c.loop-reviewer.invariant.free in
    let from : t.proposal_from hole ≡ Some r = ap (λ m. m.from) (sym (c.index.ensures ∙ get_or_default s.proposals.items hole _ _ (omega (arith, w.below)))) ∙ c.in-Some.is in
    let come = comes-to n t (cell c.args.ways.now.held) (cell c.loop-reviewer.ways.held) c.args.proposal hole r w from in
    let before : t.reviewer_from r ≡ Some next = ap (λ m. m.from) (sym (c.index-in-loop-reviewer.ensures ∙ get_or_default s.reviewers.items r _ _ (omega (arith, come.below)))) ∙ c.in-Some-from.is in
    let back = goes-back n t (cell c.args.ways.now.held) (cell c.loop-reviewer.ways.held) c.args.proposal hole r next w from before in
    let gain = sets-from n (cell c.loop-reviewer.ways.held) (cell c.set_held.new.self.held) r hole true come.below w.below
    (λ i q il ql. c.set_held.ensures.held i q (omega (arith, side)) (omega (arith, side))) in
    let loss = sets-from n (cell c.set_held.new.self.held) (cell c.set_held-in-loop-reviewer.new.self.held) r next false come.below back.below
    (λ i q il ql. c.set_held-in-loop-reviewer.ensures.held i q (omega (arith, side, ap (λ x. x.side) c.set_held.ensures.free)) (omega (arith, side, ap (λ x. x.side) c.set_held.ensures.free))) in
    record {
      free = c.set_held-in-loop-reviewer.ensures.free ∙ (c.set_held.ensures.free ∙ c.loop-reviewer.invariant.free);
      walked = walked-more n t (cell c.args.ways.now.held) (cell c.loop-reviewer.ways.held) (cell c.set_held.new.self.held) (cell c.set_held-in-loop-reviewer.new.self.held) c.args.proposal hole r next w from before gain loss;
    }
