use Rattle.std.proofs.Common.{ap, sym, ◌∙◌, arith, ◌+◌, ◌*◌}
use Rattle.house_base.specs.Grid.{cell}
use Rattle.house_base.specs.Rows.{has}
use Rattle.house_base.specs.declared.rows.TheConstants.{WORD_BITS}
use Rattle.house_base.proofs.Cells.{cell-words}
use Rattle.house_base.proofs.RowLemmas.{bit-zero}
use Rattle.house_base.proofs.grid.Grid.word.Goals as goal

pub returns-clause-bits : goal.returns-clause-bits
returns-clause-bits c = λ i below within.
    let side = ap (λ s. s.side) c.self.view_is in
    let column = c.args.at * WORD_BITS + i in
    c.word.ensures i below
    ∙ (ap (λ words. has words c.args.row column) c.deref.ensures.value
    ∙ (sym (cell-words c.self.inside.side c.self.inside.words.items c.args.row column (omega (arith, side)) (omega (arith, within, side)))
    ∙ ap (λ s. cell s c.args.row column) c.self.view_is))

pub returns-clause-clear : goal.returns-clause-clear
returns-clause-clear c = λ i below behind.
    let side = ap (λ s. s.side) c.self.view_is in
    bit-zero c.word.result i (c.word.ensures i below
    ∙ (ap (λ words. has words c.args.row (c.args.at * WORD_BITS + i)) c.deref.ensures.value
    ∙ c.self.invariant.2 c.args.row (c.args.at * WORD_BITS + i) (omega (arith, side)) (omega (arith, side, behind)) (omega (arith, below))))
