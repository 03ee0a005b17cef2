use Rattle.std.proofs.Common.{◌≡◌, ℕ, ◌+◌, ◌-◌, ◌<◌, ◌≤◌, false, ap, ◌∙◌, arith}
use Rattle.house_base.specs.Grid.{cell}
use Rattle.first_assign.proofs.DistanceLemmas.{at-behind, at-first, if_none, none-round}
use Rattle.first_assign.proofs.settling.next_distance.Goals as goal
use Rattle.first_assign.proofs.settling.next_distance.Goals.{then-from-behind+in_default, else-from-behind}

pub returns-in-Some-clause-true_there : goal.returns-in-Some-clause-true_there
returns-in-Some-clause-true_there c =
    let n = c.args.pairs.now.side in
    let r = c.args.reviewer in
    let p = c.in-Some.proposal in
    let place : r + 1 + (p - (r + 1)) ≡ p = omega (arith, c.in-Some.ensures.from) in
    ap (cell c.args.pairs.now r) (at-behind n r (p - (r + 1)) c.requires (omega (arith, c.in-Some.ensures.from, c.in-Some.ensures.below)) ∙ place)
    ∙ c.in-Some.ensures.true_there

pub returns-in-Some-clause-before : goal.returns-in-Some-clause-before
returns-in-Some-clause-before c = λ e from below.
    let n = c.args.pairs.now.side in
    let r = c.args.reviewer in
    ap (cell c.args.pairs.now r) (at-behind n r e c.requires (omega (arith, below, c.in-Some.ensures.below)))
    ∙ c.in-Some.ensures.before (r + 1 + e) (omega (arith, from)) (omega (arith, below))

pub returns-in_err-proposal-clause-none : goal.returns-in_err-proposal-clause-none
returns-in_err-proposal-clause-none c =
    let n = c.args.pairs.now.side in
    let r = c.args.reviewer in
    let from = c.args.from in
    let row = cell c.args.pairs.now r in
    let behind : (q : ℕ) → r + 1 + from ≤ q → q < n → row q ≡ false = λ q above below. elim c.if-from-behind.branch [
      | then-from-behind+in_default w ↦ w.in_default.ensures.none q above below
      | else-from-behind w ↦ absurd (let wrong : ⊥ = omega (arith, above, below, w.if-from-behind.false, c.side.ensures.value) in wrong)
    ] in
    if_none _ c.from_residual.result
    (none-round n r from n row c.requires (omega arith) behind
    (λ q above below. c.in_err-proposal.ensures.none q (omega (arith, above, c.saturating_sub.ensures, c.side.ensures.value)) (omega (arith, below))))

pub returns-then-proposal-reviewer-clause-none : goal.returns-then-proposal-reviewer-clause-none
returns-then-proposal-reviewer-clause-none c =
    let n = c.args.pairs.now.side in
    let r = c.args.reviewer in
    let from = c.args.from in
    let row = cell c.args.pairs.now r in
    let behind : (q : ℕ) → r + 1 + from ≤ q → q < n → row q ≡ false = λ q above below. elim c.if-from-behind.branch [
      | then-from-behind+in_default w ↦ w.in_default.ensures.none q above below
      | else-from-behind w ↦ absurd (let wrong : ⊥ = omega (arith, above, below, w.if-from-behind.false, c.side.ensures.value) in wrong)
    ] in
    none-round n r from n row c.requires (omega arith) behind
    (λ q above below. c.in_ok-proposal.ensures.before q (omega (arith, above, c.saturating_sub.ensures, c.side.ensures.value)) (omega (arith, below, c.requires, c.if-proposal-reviewer.true)))

pub returns-clause-true_there : goal.returns-clause-true_there
returns-clause-true_there c =
    let n = c.args.pairs.now.side in
    let r = c.args.reviewer in
    let p = c.in_ok-proposal.proposal in
    let side = c.side.ensures.value in
    let place : c.side.result - (r + 1) + p - (n - (r + 1)) ≡ p = omega (arith, side) in
    ap (cell c.args.pairs.now r) (at-first n r (c.side.result - (r + 1) + p) c.requires (omega (arith, side)) (omega (arith, side, c.if-proposal-reviewer.false, c.requires)) ∙ place)
    ∙ c.in_ok-proposal.ensures.true_there

pub returns-clause-before : goal.returns-clause-before
returns-clause-before c =
    let n = c.args.pairs.now.side in
    let r = c.args.reviewer in
    let from = c.args.from in
    let row = cell c.args.pairs.now r in
    let p = c.in_ok-proposal.proposal in
    let side = c.side.ensures.value in
    let behind : (q : ℕ) → r + 1 + from ≤ q → q < n → row q ≡ false = λ q above below. elim c.if-from-behind.branch [
      | then-from-behind+in_default w ↦ w.in_default.ensures.none q above below
      | else-from-behind w ↦ absurd (let wrong : ⊥ = omega (arith, above, below, w.if-from-behind.false, c.side.ensures.value) in wrong)
    ] in
    none-round n r from (c.side.result - (r + 1) + p) row c.requires (omega (arith, side, c.if-proposal-reviewer.false, c.requires)) behind
    (λ q above below. c.in_ok-proposal.ensures.before q (omega (arith, above, c.saturating_sub.ensures, side)) (omega (arith, below, side)))
