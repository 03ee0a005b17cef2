use Rattle.std.proofs.Common.{ℕ, subst, arith}
use Rattle.house_base.specs.Grid.{cell}
use Rattle.house_base.specs.Setting.{size}
use Rattle.first_assign.specs.Settling.{IsSet, SettlesOne, proposal_at}
use Rattle.first_assign.proofs.SettlingLemmas.{kept-next, settled-next, settles-one}
use Rattle.first_assign.proofs.settling.settle_at.Goals as goal

pub overflow_add-proposal : goal.overflow_add-proposal
overflow_add-proposal c = omega (arith, c.requires.reviewer_below, c.count-count.ensures.setting.few)

pub overflow_add-proposal-2 : goal.overflow_add-proposal-2
overflow_add-proposal-2 c = omega (arith, c.requires.reviewer_below, c.requires.distance_below, c.count-count.ensures.setting.few)

pub returns-clause-settled : goal.returns-clause-settled
returns-clause-settled c =
    let s = c.args.plan.now in
    let n = size s in
    let r = c.args.reviewer in
    let d = c.args.distance in
    let f = c.args.flow.now in
    let g = c.settle_pair.new.flow in
    let kept = c.settle_pair.result in
    let old = c.requires.settled in
    let S : ℕ → Type 0 = λ k. SettlesOne f g r (proposal_at k r d) kept in
    let T : ℕ → Type 0 = λ k. IsSet f.may.side r (proposal_at k r d) kept (cell c.args.pairs.now) (cell c.settle_pair.new.pairs) in
    let sets = subst T c.count-count.ensures.value c.settle_pair.ensures.sets in
    settled-next s f g (cell c.args.pairs.now) (cell c.settle_pair.new.pairs) r d kept c.requires.reviewer_below c.requires.distance_below
    (settles-one n f g r (proposal_at n r d) kept old.flow.side
    (old.unsettled.row c.requires.reviewer_below d (omega arith) c.requires.distance_below)
    (subst S c.count-count.ensures.value c.settle_pair.ensures.settles))
    (λ i q il ql. sets i q (omega (arith, il, old.flow.side)) (omega (arith, ql, old.flow.side)))
    old

pub returns-clause-counted : goal.returns-clause-counted
returns-clause-counted c =
    let n = size c.args.plan.now in
    let r = c.args.reviewer in
    let d = c.args.distance in
    let side = c.requires.settled.flow.side in
    let T : ℕ → Type 0 = λ k. IsSet c.args.flow.now.may.side r (proposal_at k r d) c.settle_pair.result (cell c.args.pairs.now) (cell c.settle_pair.new.pairs) in
    let sets = subst T c.count-count.ensures.value c.settle_pair.ensures.sets in
    kept-next n (cell c.args.pairs.now) (cell c.settle_pair.new.pairs) r d c.settle_pair.result c.requires.reviewer_below c.requires.distance_below
    (λ i q il ql. sets i q (omega (arith, il, side)) (omega (arith, ql, side)))
