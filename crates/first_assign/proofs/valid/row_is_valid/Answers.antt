use Rattle.std.proofs.Common.{◌≡◌, ℕ, true, false, ◌+◌, ◌<◌, ◌≤◌, ◌&&◌, ◌||◌, not, eqb, length-set, get_or, sym, ap, ◌∙◌, refl, arith}
use Rattle.std.proofs.lemmas.Bool.{and_left}
use Rattle.house_base.specs.Grid.{cell}
use Rattle.house_base.specs.Setting.{size, need, may}
use Rattle.peer_selection.specs.Counting.{count_below}
use Rattle.peer_selection.proofs.CountingLemmas.{all_below-zero, all_below-fails, count_below-zero, count_below-le}
use Rattle.first_assign.proofs.CountLemmas.{counts_begin, counts_more, counts_run}
use Rattle.first_assign.proofs.StepLemmas.{all_more, all_run, count_passes, count_run}
use Rattle.first_assign.proofs.valid.row_is_valid.Goals as goal

pub loop-proposal-init : goal.loop-proposal-init
loop-proposal-init c = record {
  from = omega arith;
  may_be = all_below-zero _;
  counted = sym (count_below-zero (cell c.args.pairs.now c.args.reviewer));
  most = omega arith;
  each = refl;
  received = counts_begin (cell c.args.pairs.now) c.args.reviewer (size c.args.plan.now) c.args.received.now c.requires.before;
}

pub returns-then-not-may-clause-valid : goal.returns-then-not-may-clause-valid
returns-then-not-may-clause-valid c =
    let bars = ap (λ b. not b || may c.args.plan.now c.args.reviewer c.in-Some.proposal) c.in-Some.ensures.true_there ∙ (sym c.may.ensures ∙ c.if-not-may.true) in
    sym (and_left _ _ (all_below-fails _ c.in-Some.proposal _ (omega (arith, c.in-Some.ensures.below, c.requires.side)) bars))

pub overflow_add-count : goal.overflow_add-count
overflow_add-count c = omega (arith, c.loop-proposal.invariant.most, c.loop-proposal.invariant.from, c.requires.most)

pub overflow_add-received : goal.overflow_add-received
overflow_add-received c =
    let inside : c.in-Some.proposal < size c.args.plan.now = omega (arith, c.in-Some.ensures.below, c.requires.side) in
    let is = c.loop-proposal.invariant.received.rest c.in-Some.proposal c.in-Some.ensures.from inside in
    omega (arith, is, count_below-le (λ r. cell c.args.pairs.now r c.in-Some.proposal) c.args.reviewer, c.requires.below, c.requires.most)

pub overflow_add-from : goal.overflow_add-from
overflow_add-from c = omega (arith, c.in-Some.ensures.below, c.requires.side, c.requires.most)

pub loop-proposal-preserved : goal.loop-proposal-preserved
loop-proposal-preserved c =
    let s = c.args.plan.now in
    let f = cell c.args.pairs.now in
    let row = c.args.reviewer in
    let n = size s in
    let from = c.loop-proposal.from in
    let to = c.in-Some.proposal in
    let on : from ≤ to = c.in-Some.ensures.from in
    let inside : to < n = omega (arith, c.in-Some.ensures.below, c.requires.side) in
    let here : f row to ≡ true = c.in-Some.ensures.true_there in
    let before : (q : ℕ) → from ≤ q → q < to → f row q ≡ false = c.in-Some.ensures.before in
    let old = c.loop-proposal.received in
    record {
      from = omega (arith, inside);
      may_be = all_more _ to (all_run _ from to c.loop-proposal.invariant.may_be (λ q above below. ap (λ b. not b || may s row q) (before q above below)))
          (ap (λ b. not b || may s row to) here ∙ (sym c.may.ensures ∙ c.if-not-may.false));
      counted = omega (arith, c.loop-proposal.invariant.counted, count_run (f row) from to on before, count_passes (f row) to here);
      most = omega (arith, on, c.loop-proposal.invariant.most);
      each = omega (arith, length-set old to (get_or old to 0 + 1), c.loop-proposal.invariant.each);
      received = counts_more f row to n (get_or old to 0) old here (omega (arith, inside, c.requires.each, c.loop-proposal.invariant.each)) refl inside
          (counts_run f row from to n old on (omega (arith, inside)) before c.loop-proposal.invariant.received);
    }

pub returns-clause-valid : goal.returns-clause-valid
returns-clause-valid c =
    let s = c.args.plan.now in
    let f = cell c.args.pairs.now in
    let row = c.args.reviewer in
    let n = size s in
    let from = c.loop-proposal.from in
    let none : (q : ℕ) → from ≤ q → q < n → f row q ≡ false = λ q above below. c.in_default.ensures.none q above (omega (arith, below, c.requires.side)) in
    let whole = all_run (λ p. not (f row p) || may s row p) from n c.loop-proposal.invariant.may_be (λ q above below. ap (λ b. not b || may s row q) (none q above below)) in
    let counted : c.loop-proposal.count ≡ count_below (f row) n = c.loop-proposal.invariant.counted ∙ sym (count_run (f row) from n c.loop-proposal.invariant.from none) in
    ap (λ k. eqb k c.need.result) counted
    ∙ (ap (eqb (count_below (f row) n)) c.need.ensures.value
    ∙ sym (ap (λ b. b && eqb (count_below (f row) n) (need s row)) whole))

pub returns-clause-counted : goal.returns-clause-counted
returns-clause-counted c = λ equal p below.
    let f = cell c.args.pairs.now in
    let row = c.args.reviewer in
    let n = size c.args.plan.now in
    let from = c.loop-proposal.from in
    let none : (q : ℕ) → from ≤ q → q < n → f row q ≡ false = λ q above under. c.in_default.ensures.none q above (omega (arith, under, c.requires.side)) in
    (counts_run f row from n n c.loop-proposal.received c.loop-proposal.invariant.from (omega arith) none c.loop-proposal.invariant.received).done p below
