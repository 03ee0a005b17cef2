use Rattle.std.proofs.Common.{ℕ, true, false, sym, ap, ◌∙◌, subst, arith}
use Rattle.std.proofs.lemmas.Bool.{and_parts}
use Rattle.house_base.specs.Grid.{cell}
use Rattle.assign_flow.specs.Residual.{height, LeadsBack, WalksBack}
use Rattle.assign_flow.specs.Search.{tree_of}
use Rattle.assign_flow.specs.Ways.{graph_of}
use Rattle.assign_flow.specs.Places.{places_of}
use Rattle.assign_flow.proofs.WalkLemmas.{sets-from}
use Rattle.assign_flow.proofs.RerouteLemmas.{HasWay, IsTurned, Offers, unreached-reviewer, blocked-reached, leads-turned, rerouted}
use Rattle.assign_flow.proofs.reroute.reroute.Goals as goal

pub walk_back-requires-clause-leads : goal.walk_back-requires-clause-leads
walk_back-requires-clause-leads c =
    let g = graph_of c.args.ways.now in
    let s = c.from_proposal.new.self in
    let t = tree_of s in
    let r = c.args.reviewer in
    let p = c.args.proposal in
    let grown = c.from_proposal.ensures.grown in
    let offers : Offers g (places_of c.offered_by-offered.result) r = λ q l. c.offered_by-offered.ensures.ways q l in
    let x = cell c.set_held.new.self.held in
    let y = cell c.set_held-2.new.self.held in
    let next = c.in-Some.next in
    let found = c.in-Some.ensures.found in
    let offer = and_parts (g.free r next) (g.held r next) (sym (offers next found.0) ∙ found.2) in
    let way : HasWay g t r p next = record {
      reviewer_below = omega arith;
      proposal_below = omega arith;
      free = c.requires.free;
      wanting = c.requires.new;
      unreached = unreached-reviewer g t r p (places_of c.offered_by-offered.result) grown offers (omega arith);
      next_below = found.0;
      next_reached = found.1;
      next_free = offer.0;
      next_held = offer.1;
    } in
    let turned : IsTurned g x y r p next = record {
      gain = sets-from g.side g.held x r p true (omega arith) (omega arith) (λ i q il ql. c.set_held.ensures.held i q (omega arith) (omega arith));
      loss = sets-from g.side x y r next false (omega arith) found.0 (λ i q il ql. c.set_held-2.ensures.held i q (omega (arith, ap (λ x. x.side) c.set_held.ensures.free)) (omega (arith, ap (λ x. x.side) c.set_held.ensures.free)));
    } in
    let P : ℕ → Type 0 = λ n. LeadsBack n y t (height t next) in
    subst P (ap (λ x. x.side) (sym c.set_held.ensures.free ∙ sym c.set_held-2.ensures.free)) (leads-turned g t x y r p next grown.grown way turned)

pub returns-clause-rerouted : goal.returns-clause-rerouted
returns-clause-rerouted c =
    let g = graph_of c.args.ways.now in
    let s = c.from_proposal.new.self in
    let t = tree_of s in
    let r = c.args.reviewer in
    let p = c.args.proposal in
    let grown = c.from_proposal.ensures.grown in
    let offers : Offers g (places_of c.offered_by-offered.result) r = λ q l. c.offered_by-offered.ensures.ways q l in
    let x = cell c.set_held.new.self.held in
    let y = cell c.set_held-2.new.self.held in
    let next = c.in-Some.next in
    let found = c.in-Some.ensures.found in
    let offer = and_parts (g.free r next) (g.held r next) (sym (offers next found.0) ∙ found.2) in
    let way : HasWay g t r p next = record {
      reviewer_below = omega arith;
      proposal_below = omega arith;
      free = c.requires.free;
      wanting = c.requires.new;
      unreached = unreached-reviewer g t r p (places_of c.offered_by-offered.result) grown offers (omega arith);
      next_below = found.0;
      next_reached = found.1;
      next_free = offer.0;
      next_held = offer.1;
    } in
    let turned : IsTurned g x y r p next = record {
      gain = sets-from g.side g.held x r p true (omega arith) (omega arith) (λ i q il ql. c.set_held.ensures.held i q (omega arith) (omega arith));
      loss = sets-from g.side x y r next false (omega arith) found.0 (λ i q il ql. c.set_held-2.ensures.held i q (omega (arith, ap (λ x. x.side) c.set_held.ensures.free)) (omega (arith, ap (λ x. x.side) c.set_held.ensures.free)));
    } in
    let z = cell c.walk_back.new.ways.held in
    let P : ℕ → Type 0 = λ n. WalksBack n t y z next c.walk_back.result in
    let walk = subst P (ap (λ x. x.side) (c.set_held-2.ensures.free ∙ c.set_held.ensures.free)) c.walk_back.ensures.walks in
    λ e. rerouted g t x y z r p next c.walk_back.result (places_of c.offered_by-offered.result) grown way turned walk

pub returns-in_default-clause-blocked : goal.returns-in_default-clause-blocked
returns-in_default-clause-blocked c =
    let g = graph_of c.args.ways.now in
    let s = c.from_proposal.new.self in
    let t = tree_of s in
    let offers : Offers g (places_of c.offered_by-offered.result) c.args.reviewer = λ q l. c.offered_by-offered.ensures.ways q l in
    let reached = rw c.in_default.is at c.from_proposal.ensures.reached in
    λ e. blocked-reached g t c.args.reviewer c.args.proposal (places_of c.offered_by-offered.result) c.from_proposal.ensures.grown reached offers (omega arith) (omega arith)
