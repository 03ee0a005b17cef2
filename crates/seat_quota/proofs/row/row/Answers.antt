use Rattle.std.proofs.Common.{◌+◌, ◌-◌, ◌++◌, sym, ap, ◌∙◌}
use Rattle.house_base.specs.Grid.{cell}
use Rattle.seat_quota.specs.Totals.{among_places}
use Rattle.seat_quota.proofs.GivenLemmas.{row_twice}
use Rattle.seat_quota.proofs.row.row.Goals as goal

pub returns : goal.returns
returns c =
    let r = c.args.reviewer in
    let t = cell c.args.pairs.now r in
    c.in_ok-push_between-2.ensures
    ∙ (ap (λ l. l ++ among_places t 0 (r + 1 - 0))
    (c.in_ok-push_between.ensures
    ∙ (ap (λ l. l ++ among_places t (r + 1) (c.side-side.result - (r + 1))) c.new-row.ensures.items
    ∙ ap (λ n. among_places t (r + 1) (n - (r + 1))) c.side-side.ensures.value))
    ∙ sym (row_twice c.args.pairs.now.side r (cell c.args.pairs.now) c.requires))
