use Rattle.std.proofs.Common.{◌∙◌, ap, arith, sym}
use Rattle.house_base.specs.Text.{among}
use Rattle.slip_check.proofs.BallotLemmas.{cells_pushed, too_many_cells, no_cell, cell_again}
use Rattle.slip_check.proofs.ballot.Cells.add.Goals as goal

pub returns-then-len-ge-MOST_CELLS-clause-off : goal.returns-then-len-ge-MOST_CELLS-clause-off
returns-then-len-ge-MOST_CELLS-clause-off c = λ ws r e. too_many_cells ws c.args.word.now _ _ r (omega (arith, c.len.ensures, c.if-len-ge-MOST_CELLS.true))

pub returns-in_default-clause-off : goal.returns-in_default-clause-off
returns-in_default-clause-off c = λ ws r e. no_cell ws c.args.word.now c.in_default.ensures.none

pub returns-then-is_among-clause-off : goal.returns-then-is_among-clause-off
returns-then-is_among-clause-off c = λ ws r e.
    cell_again ws c.args.word.now c.args.self.now.proposals.items c.args.self.now.points.items r
    (ap (among c.args.self.now.proposals.items) (sym c.in-Some.ensures.proposal)
    ∙ ap (λ ps. among ps c.in-Some.cell.proposal) (sym c.deref.ensures.value)
    ∙ sym c.is_among.ensures ∙ c.if-is_among.true)

pub returns-clause-added : goal.returns-clause-added
returns-clause-added c = λ ws r.
    cells_pushed ws c.args.word.now c.args.self.now.proposals.items c.push.new.self.items c.args.self.now.points.items c.push-2.new.self.items
    c.in-Some.cell.proposal c.in-Some.cell.points r (omega (arith, c.len.ensures, c.if-len-ge-MOST_CELLS.false)) c.in-Some.ensures.form
    (ap (λ ps. among ps c.in-Some.cell.proposal) (sym c.deref.ensures.value) ∙ sym c.is_among.ensures ∙ c.if-is_among.false)
    c.in-Some.ensures.proposal c.in-Some.ensures.points c.in_ok-push.ensures.items c.in_ok-push-2.ensures.items
