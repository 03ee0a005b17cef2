use Rattle.std.proofs.Common.{ap, ◌∙◌, arith}
use Rattle.house_base.specs.Grid.{cell}
use Rattle.house_base.proofs.Cells.{square-zeros, cell-replicate}
use Rattle.house_base.proofs.RowLemmas.{has-zeros}
use Rattle.house_base.proofs.grid.Grid.new.Goals as goal

pub invariant_of-result : goal.invariant_of-result
invariant_of-result c =
    let zeros = c.in_ok-vec.ensures.items_if_clones_equal (λ y same. same) in
    (omega arith, omega (arith, c.in_ok-vec.ensures.len), λ row column row_below behind below. has-zeros c.in_ok-vec.field-0.items _ zeros row column)

pub returns-clause-empty : goal.returns-clause-empty
returns-clause-empty c = λ row column.
    ap (λ s. cell s row column) (square-zeros _ _ c.in_ok-vec.field-0.items (c.in_ok-vec.ensures.items_if_clones_equal (λ y same. same)))
    ∙ cell-replicate _ _ row column

pub returns-clause-whole : goal.returns-clause-whole
returns-clause-whole c = square-zeros _ _ c.in_ok-vec.field-0.items (c.in_ok-vec.ensures.items_if_clones_equal (λ y same. same))
