use Rattle.std.proofs.Common.{◌+◌, ◌*◌, ◌/◌, ◌<◌, length, ap, ◌∙◌, arith}
use Rattle.std.specs.Int.{bit_at}
use Rattle.std.proofs.lemmas.List.{get_or_read}
use Rattle.house_base.specs.declared.rows.TheConstants.{WORD_BITS, ROW_WORDS}
use Rattle.house_base.proofs.RowLemmas.{has-changed}
use Rattle.house_base.proofs.rows.set_bit.Goals as goal

pub returns-clause-bits : goal.returns-clause-bits
returns-clause-bits c =
    let words = c.args.words.now.items in
    let at = c.args.row * ROW_WORDS + c.args.column / WORD_BITS in
    let below : at < length words = omega arith in
    let read = get_or_read words at c.index.result.now below c.index.ensures 0 in
    has-changed words c.args.row c.args.column c.with_bit.result c.args.value c.requires.column_below below c.with_bit.ensures.here
    (λ i within other. c.with_bit.ensures.others i within other ∙ ap (λ w. bit_at w i) read)
