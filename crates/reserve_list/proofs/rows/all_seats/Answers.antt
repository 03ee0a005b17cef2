use Rattle.std.proofs.Common.{ap, ◌+◌, length, sym, arith}
use Rattle.reserve_list.proofs.RowLemmas.{seats_up_to-more, seats_up_to-none, seats_up_to-within}
use Rattle.reserve_list.proofs.rows.all_seats.Goals as goal

pub loop-index-init : goal.loop-index-init
loop-index-init c = sym (seats_up_to-none c.args.outcome.now)

pub overflow_add-seats : goal.overflow_add-seats
overflow_add-seats c =
    let more = seats_up_to-more c.args.outcome.now c.clusters-clusters.result.now c.loop-index.index (record { cents = 0; quota = 0; seats = 0; filled = 0 }) c.clusters-clusters.ensures in
    let l = ap length c.clusters-clusters.ensures in
    let within = seats_up_to-within c.args.outcome.now (c.loop-index.index + 1) (omega arith) in
    omega (arith, c.loop-index.invariant, more (omega arith), within, c.requires)

pub loop-index-preserved : goal.loop-index-preserved
loop-index-preserved c =
    let more = seats_up_to-more c.args.outcome.now c.clusters-clusters.result.now c.loop-index.index (record { cents = 0; quota = 0; seats = 0; filled = 0 }) c.clusters-clusters.ensures in
    let l = ap length c.clusters-clusters.ensures in
    omega (arith, c.loop-index.invariant, more (omega arith))
