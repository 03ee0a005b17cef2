use Rattle.std.proofs.Common.{ap, ◌∙◌, sym, arith}
use Rattle.peer_selection.proofs.CountingLemmas.{count_below-add_one, count_below-le, count_below-zero, one_if}
use Rattle.reserve_list.specs.Board.{holds_on}
use Rattle.reserve_list.proofs.board.Board.holders.Goals as goal
use Rattle.reserve_list.proofs.board.Board.holders.Goals.{then-holds, else-holds}

pub loop-number-init : goal.loop-number-init
loop-number-init c = sym (count_below-zero (holds_on c.args.self.now))

pub overflow_add-holders : goal.overflow_add-holders
overflow_add-holders c = omega (arith, c.loop-number.invariant, count_below-le (holds_on c.args.self.now) c.loop-number.number, c.count-number-end.ensures.value, c.count-number-end.ensures.board.ranked.few)

pub loop-number-preserved : goal.loop-number-preserved
loop-number-preserved c =
    let more = count_below-add_one (holds_on c.args.self.now) c.loop-number.number in
    elim c.if-holds.branch [
      | then-holds w ↦ let one = ap one_if (sym c.holds.ensures ∙ w.if-holds.true) in omega (arith, c.loop-number.invariant, more, one, w.holders-is)
      | else-holds w ↦ let none = ap one_if (sym c.holds.ensures ∙ w.if-holds.false) in omega (arith, c.loop-number.invariant, more, none, w.holders-is)
    ]
