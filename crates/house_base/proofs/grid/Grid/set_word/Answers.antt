use Rattle.std.proofs.Common.{ap, sym, cond, eqb, length, ◌&&◌, ◌/◌, ◌%◌, ◌∙◌, arith}
use Rattle.std.specs.Int.{bit_at}
use Rattle.house_base.specs.Grid.{cell}
use Rattle.house_base.specs.declared.rows.TheConstants.{WORD_BITS}
use Rattle.house_base.proofs.Cells.{cell-words, length-cells}
use Rattle.house_base.proofs.grid.Grid.set_word.Goals as goal

pub returns-clause-as_many : goal.returns-clause-as_many
returns-clause-as_many c =
    length-cells c.self.inside.side c.set_word.new.words.items
    ∙ (sym (length-cells c.self.inside.side c.self.inside.words.items) ∙ ap (λ s. length s.cells) c.self.view_is)

pub returns-clause-cells : goal.returns-clause-cells
returns-clause-cells c = λ r q r_below q_below.
    let side = ap (λ s. s.side) c.self.view_is in
    cell-words c.self.inside.side c.set_word.new.words.items r q (omega (arith, r_below, side)) (omega (arith, q_below, side))
    ∙ (c.set_word.ensures.bits r q (omega (arith, q_below, side, c.self.invariant.0))
    ∙ ap (λ b. cond (eqb r c.args.row && eqb (q / WORD_BITS) c.args.at) (eqb (bit_at c.args.word (q % WORD_BITS)) 1) b)
    (sym (cell-words c.self.inside.side c.self.inside.words.items r q (omega (arith, r_below, side)) (omega (arith, q_below, side)))
    ∙ ap (λ s. cell s r q) c.self.view_is))
