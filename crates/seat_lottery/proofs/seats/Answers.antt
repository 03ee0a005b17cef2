use Rattle.std.proofs.Common.{◌≡◌, ◌-◌, sym, subst, arith}
use Rattle.peer_selection.specs.Laws.{IsRounded}
use Rattle.peer_selection.specs.Marks.{marks}
use Rattle.peer_selection.proofs.MarkLemmas.{marks-apart, marks-rounded}
use Rattle.seat_lottery.proofs.seats.Goals as goal

pub overflow_sub-result : goal.overflow_sub-result
overflow_sub-result c = omega (arith, marks-apart c.args.before c.args.width c.args.den c.args.draw c.requires.draw)

pub returns-clause-counted : goal.returns-clause-counted
returns-clause-counted c = omega (arith, marks-apart c.args.before c.args.width c.args.den c.args.draw c.requires.draw)

pub returns-clause-rounded : goal.returns-clause-rounded
returns-clause-rounded c =
    let counted : c.marks_below.result - c.marks_below-2.result ≡ marks c.args.before c.args.width c.args.den c.args.draw =
    omega (arith, marks-apart c.args.before c.args.width c.args.den c.args.draw c.requires.draw) in
    subst (λ seats. IsRounded seats c.args.width c.args.den) (sym counted) (marks-rounded c.args.before c.args.width c.args.den c.args.draw c.requires.draw)
