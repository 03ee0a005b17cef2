use Rattle.std.proofs.Common.{◌≡◌, ℕ, ◌<◌, ◌≤◌, false, sym, ap, ◌∙◌, arith}
use Rattle.house_base.specs.Grid.{cell}
use Rattle.house_base.specs.Setting.{size, may}
use Rattle.peer_selection.proofs.CountingLemmas.{one_if, count_below-zero}
use Rattle.first_assign.specs.Settling.{proposal_at}
use Rattle.first_assign.proofs.SettlingLemmas.{at_below, kept-run, settled-full, settled-row, settled-run}
use Rattle.first_assign.proofs.settling.settle_row.Goals as goal
use Rattle.first_assign.proofs.settling.settle_row.Goals.{then-settle_at, else-settle_at}

pub loop-unmet-init : goal.loop-unmet-init
loop-unmet-init c = record {
  from = omega arith;
  side = c.requires.side;
  settled = c.requires.settled;
  counted = omega (arith, count_below-zero (λ e. cell c.args.pairs.now c.args.reviewer (proposal_at (size c.args.plan.now) c.args.reviewer e)), c.need-unmet.ensures.value);
}

pub returns-in_default-clause-settled : goal.returns-in_default-clause-settled
returns-in_default-clause-settled c =
    let s = c.args.plan.now in
    let n = size s in
    let r = c.args.reviewer in
    let allowed = c.args.allowed.now in
    let side = c.requires.allowed.side in
    let barred : (e : ℕ) → c.loop-unmet.from ≤ e → e < n → may s r (proposal_at n r e) ≡ false = λ e from below.
    sym (c.requires.allowed.pairs r (proposal_at n r e) c.requires.below (at_below n r e below))
    ∙ (ap (λ m. cell allowed r (proposal_at m r e)) (sym side) ∙ c.in_default.ensures.none e from (omega (arith, below, side))) in
    settled-row s c.loop-unmet.flow (cell c.loop-unmet.pairs) r n c.requires.below (omega arith)
    (settled-run s c.loop-unmet.flow (cell c.loop-unmet.pairs) r c.loop-unmet.from n c.requires.below c.loop-unmet.invariant.from (omega arith) barred c.loop-unmet.invariant.settled)

pub settle_at-requires-clause-settled : goal.settle_at-requires-clause-settled
settle_at-requires-clause-settled c =
    let s = c.args.plan.now in
    let n = size s in
    let r = c.args.reviewer in
    let to = c.in-Some.distance in
    let allowed = c.args.allowed.now in
    let side = c.requires.allowed.side in
    let inside : to < n = omega (arith, c.in-Some.ensures.below, side) in
    let barred : (e : ℕ) → c.loop-unmet.from ≤ e → e < to → may s r (proposal_at n r e) ≡ false = λ e from below.
    sym (c.requires.allowed.pairs r (proposal_at n r e) c.requires.below (at_below n r e (omega (arith, below, inside))))
    ∙ (ap (λ m. cell allowed r (proposal_at m r e)) (sym side) ∙ c.in-Some.ensures.before e from below) in
    settled-run s c.loop-unmet.flow (cell c.loop-unmet.pairs) r c.loop-unmet.from to c.requires.below c.in-Some.ensures.from (omega arith) barred c.loop-unmet.invariant.settled

pub loop-unmet-preserved : goal.loop-unmet-preserved
loop-unmet-preserved c =
    let n = size c.args.plan.now in
    let r = c.args.reviewer in
    let side = c.requires.allowed.side in
    let inside : c.in-Some.distance < n = omega (arith, c.in-Some.ensures.below, side) in
    let run = kept-run n (cell c.loop-unmet.pairs) r c.loop-unmet.from c.in-Some.distance c.requires.below c.in-Some.ensures.from (omega arith) c.loop-unmet.invariant.settled.none_kept in
    record {
      from = omega (arith, inside);
      side = c.settle_at.ensures.side;
      settled = c.settle_at.ensures.settled;
      counted = elim c.if-settle_at.branch [
        | then-settle_at w ↦ omega (arith, run, c.settle_at.ensures.counted, ap one_if w.if-settle_at.true, w.unmet-is, c.loop-unmet.invariant.counted, c.loop-unmet-test.true)
        | else-settle_at w ↦ omega (arith, run, c.settle_at.ensures.counted, ap one_if w.if-settle_at.false, w.unmet-is, c.loop-unmet.invariant.counted)
      ];
    }

pub returns-clause-settled : goal.returns-clause-settled
returns-clause-settled c =
    settled-full c.args.plan.now c.loop-unmet.flow (cell c.loop-unmet.pairs) c.args.reviewer c.loop-unmet.from c.requires.below c.loop-unmet.invariant.from
    (omega (arith, c.loop-unmet.invariant.counted, c.loop-unmet-test.false)) c.loop-unmet.invariant.settled
