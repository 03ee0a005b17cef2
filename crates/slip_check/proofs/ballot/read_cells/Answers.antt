use Rattle.slip_check.proofs.BallotLemmas.{cell_off, nothing_read}
use Rattle.slip_check.proofs.ballot.read_cells.Goals as goal

pub loop-left-init : goal.loop-left-init
loop-left-init c = rw (c.new.ensures.items, c.new-2.ensures.items) (nothing_read c.args.rest.now)

pub returns-in-Err-clause-off : goal.returns-in-Err-clause-off
returns-in-Err-clause-off c = λ e.
    cell_off c.args.rest.now c.loop-left.left.now c.in-Some.more.now c.in-Some.word.now c.loop-left.cells.proposals.items c.loop-left.cells.points.items
    c.loop-left.invariant c.in-Some.ensures.found (c.in-Err.ensures.off c.loop-left.invariant.ws c.loop-left.invariant.read (cc))
