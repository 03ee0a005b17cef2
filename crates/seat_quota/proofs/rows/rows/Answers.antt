use Rattle.std.proofs.Common.{map, ap, ◌∙◌}
use Rattle.house_base.specs.Grid.{cell}
use Rattle.peer_selection.specs.Counting.{numbers_below}
use Rattle.seat_quota.specs.Totals.{row_among}
use Rattle.seat_quota.proofs.TallyLemmas.{rows_more}
use Rattle.seat_quota.proofs.rows.rows.Goals as goal

pub loop-reviewer-init : goal.loop-reviewer-init
unfolding numbers_below
loop-reviewer-init c = ap (map (λ row. row.items)) c.new-rows.ensures.items

pub loop-reviewer-preserved : goal.loop-reviewer-preserved
loop-reviewer-preserved c =
    ap (map (λ row. row.items)) c.in_ok-push.ensures.items
    ∙ rows_more (λ row. row.items) c.loop-reviewer.rows.items c.in_ok-row.field-0 (row_among c.args.pairs.now.side (cell c.args.pairs.now)) c.loop-reviewer.reviewer c.loop-reviewer.invariant c.in_ok-row.ensures
