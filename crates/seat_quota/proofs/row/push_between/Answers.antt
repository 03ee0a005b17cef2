use Rattle.std.proofs.Common.{◌≡◌, ◌+◌, ◌-◌, ◌++◌, refl, sym, ap, ◌∙◌, arith}
use Rattle.std.proofs.lemmas.List.{append-nil}
use Rattle.house_base.specs.Grid.{cell}
use Rattle.peer_selection.specs.Counting.{numbers_below}
use Rattle.seat_quota.specs.Totals.{among_places}
use Rattle.seat_quota.proofs.GivenLemmas.{between_run, between_takes}
use Rattle.seat_quota.proofs.row.push_between.Goals as goal

pub loop-proposal-init : goal.loop-proposal-init
unfolding numbers_below
loop-proposal-init c =
    let front = c.args.row.now.items in
    record {
      from = omega arith;
      to = c.requires.from;
      row = sym (ap (λ n. front ++ among_places (cell c.args.pairs.now c.args.reviewer) c.args.from n) (let e : c.args.from - c.args.from ≡ 0 = omega arith in e) ∙ append-nil front);
    }

pub loop-proposal-preserved : goal.loop-proposal-preserved
loop-proposal-preserved c =
    let t = cell c.args.pairs.now c.args.reviewer in
    let y = c.in-Some.proposal in
    let front = c.args.row.now.items in
    let old = c.loop-proposal.row.items in
    record {
      from = omega (arith, c.in-Some.ensures.from, c.loop-proposal.invariant.from);
      to = omega (arith, c.if-proposal-to.false);
      row = between_takes t c.args.from y (y + 1 - c.args.from) front old c.push.new.self.items
          (between_run t c.args.from c.loop-proposal.next y front old c.loop-proposal.invariant.row c.loop-proposal.invariant.from c.in-Some.ensures.from c.in-Some.ensures.before)
          (omega (arith, c.in-Some.ensures.from, c.loop-proposal.invariant.from)) c.in-Some.ensures.true_there refl c.in_ok-push.ensures.items;
    }

pub returns-then-proposal-to : goal.returns-then-proposal-to
returns-then-proposal-to c =
    between_run (cell c.args.pairs.now c.args.reviewer) c.args.from c.loop-proposal.next c.args.to c.args.row.now.items c.loop-proposal.row.items
    c.loop-proposal.invariant.row c.loop-proposal.invariant.from c.loop-proposal.invariant.to
    (λ q above below. c.in-Some.ensures.before q above (omega (arith, below, c.if-proposal-to.true)))

pub returns : goal.returns
returns c =
    between_run (cell c.args.pairs.now c.args.reviewer) c.args.from c.loop-proposal.next c.args.to c.args.row.now.items c.loop-proposal.row.items
    c.loop-proposal.invariant.row c.loop-proposal.invariant.from c.loop-proposal.invariant.to
    (λ q above below. c.in_default.ensures.none q above (omega (arith, below, c.requires.to)))
