use Rattle.std.proofs.Common.{map, sym, ap, ◌∙◌}
use Rattle.house_base.specs.Grid.{Square, cell}
use Rattle.peer_selection.specs.Counting.{numbers_below}
use Rattle.seat_quota.specs.Totals.{row_among}
use Rattle.seat_quota.proofs.tally.Tally.set_up.Goals as goal

pub invariant_of-result : goal.invariant_of-result
invariant_of-result c = record {
  places = c.in_ok-rows.ensures ∙ sym (ap (λ (g : Square). map (row_among g.side (cell g)) (numbers_below g.side)) c.in_ok-desk.ensures.pairs);
  each = c.in_ok-cents.ensures.each;
  given = c.in_ok-cents.ensures.given;
}
