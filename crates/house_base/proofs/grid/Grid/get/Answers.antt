use Rattle.std.proofs.Common.{ap, sym, ◌∙◌, arith}
use Rattle.house_base.specs.Grid.{cell}
use Rattle.house_base.specs.Rows.{has}
use Rattle.house_base.proofs.Cells.{cell-words}
use Rattle.house_base.proofs.grid.Grid.get.Goals as goal

pub returns : goal.returns
returns c =
    let side = ap (λ s. s.side) c.self.view_is in
    c.has_bit.ensures
    ∙ (ap (λ words. has words c.args.row c.args.column) c.deref.ensures.value
    ∙ (sym (cell-words c.self.inside.side c.self.inside.words.items c.args.row c.args.column (omega (arith, side)) (omega (arith, side)))
    ∙ ap (λ s. cell s c.args.row c.args.column) c.self.view_is))
