use Rattle.std.proofs.Common.{◌+◌, ◌*◌, ◌/◌, ◌%◌, eqb, get_or, ap}
use Rattle.std.proofs.lemmas.Nat.Bits.{shr_and_one}
use Rattle.house_base.specs.Rows.{has}
use Rattle.house_base.specs.declared.rows.TheConstants.{WORD_BITS, ROW_WORDS}
use Rattle.house_base.proofs.rows.has_bit.Goals as goal

pub returns : goal.returns
unfolding has
returns c = ap (λ n. eqb n 1) (shr_and_one (get_or c.args.words.now (c.args.row * ROW_WORDS + c.args.column / WORD_BITS) 0) (c.args.column % WORD_BITS))
