use Rattle.std.proofs.Common.{◌+◌, ◌*◌, ◌/◌, ◌<◌, ◌||◌, ◌&&◌, eqb, ap, ◌∙◌, length, arith}
use Rattle.std.proofs.lemmas.List.{get_or_read}
use Rattle.register_book.specs.Rows.{holds}
use Rattle.register_book.specs.declared.rows.TheConstants.{WORD_BITS, ROW_BITS}
use Rattle.register_book.proofs.BitLemmas.{is_set-set, holds-set}
use Rattle.register_book.proofs.rows.Rows.set.Goals as goal

pub returns-clause-bits : goal.returns-clause-bits
returns-clause-bits c = λ row column.
    let words = c.self.inside.words.items in
    let at = c.args.row * ROW_BITS + c.args.column in
    let below : at / WORD_BITS < length words = omega (arith, c.requires.row_below, ap length c.self.view_is) in
    holds-set c.self.inside.words.items _ c.args.row c.args.column c.requires.column_below
    (is_set-set words at c.index_mut.result.now (get_or_read words (at / WORD_BITS) c.index_mut.result.now below c.index_mut.ensures.value 0) below) row column
    ∙ ap (λ words. holds words row column || (eqb row c.args.row && eqb column c.args.column)) c.self.view_is
