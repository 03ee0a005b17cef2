use Rattle.std.proofs.Common.{sym, ◌∙◌}
use Rattle.twin_check.specs.Rows.{chances_in}
use Rattle.twin_check.proofs.RowLemmas.{one_taken, other_row, room}
use Rattle.twin_check.proofs.outcome.chances_in.Goals as goal
use Rattle.twin_check.proofs.outcome.chances_in.Goals.{then-eq, else-eq}

pub loop-row-init : goal.loop-row-init
unfolding chances_in
loop-row-init c = c.none-chances.ensures

pub push-requires : goal.push-requires
push-requires c =
    room c.args.name c.args.rows.now c.loop-row.row-index c.row-item.result c.loop-row.chances c.loop-row-test.true c.row-item.is (sym c.eq.ensures.value ∙ c.if-eq.true)
    c.loop-row.invariant c.requires

pub loop-row-preserved : goal.loop-row-preserved
loop-row-preserved c = elim c.if-eq.branch [
  | then-eq w ↦
      w.chances-is
      ∙ one_taken c.args.name c.args.rows.now c.loop-row.row-index c.row-item.result w.push.new.self c.loop-row-test.true c.row-item.is (sym c.eq.ensures.value ∙ w.if-eq.true)
      (w.push.ensures _ c.loop-row.invariant)
  | else-eq w ↦
      w.chances-is ∙ c.loop-row.invariant
      ∙ other_row c.args.name c.args.rows.now c.loop-row.row-index c.row-item.result c.loop-row-test.true c.row-item.is (sym c.eq.ensures.value ∙ w.if-eq.false)
]
