use Rattle.std.proofs.Common.{bit_and, w64, arith}
use Rattle.std.specs.Int.{bit_at, bit_not}
use Rattle.std.proofs.lemmas.Nat.Bits.{bit_at-lt, bit_at_and, bit_at_not}
use Rattle.first_assign.proofs.MemberLemmas.{bit-without}
use Rattle.first_assign.proofs.demand.without.Goals as goal

pub returns : goal.returns
returns c = λ i below.
    let word = c.args.word in
    let first = c.args.first in
    let second = c.args.second in
    let left = bit_and word (bit_not w64 first) in
    bit-without (bit_at word i) (bit_at first i) (bit_at second i) (bit_at (bit_and left (bit_not w64 second)) i) (bit_at-lt word i) (bit_at-lt first i) (bit_at-lt second i)
    (omega (
      arith,
      bit_at_and left (bit_not w64 second) i,
      bit_at_and word (bit_not w64 first) i,
      bit_at_not w64 first i (omega arith) (omega (arith, below)),
      bit_at_not w64 second i (omega arith) (omega (arith, below)),
    ))
