use Rattle.std.proofs.Common.{w64}
use Rattle.std.proofs.lemmas.Nat.Bits.{bit_at_set_same, bit_at_set_other, bit_at_clear_same, bit_at_clear_other}
use Rattle.house_base.proofs.rows.with_bit.Goals as goal

pub returns-then-value : goal.returns-then-value
returns-then-value c = record {
  here = rw c.if-value.true (bit_at_set_same w64 c.args.word c.args.bit c.requires);
  others = λ i below other. bit_at_set_other w64 c.args.word c.args.bit c.requires i other;
}

pub returns-else-value : goal.returns-else-value
returns-else-value c = record {
  here = rw c.if-value.false (bit_at_clear_same w64 c.args.word c.args.bit c.requires);
  others = bit_at_clear_other w64 c.args.word c.args.bit c.requires;
}
