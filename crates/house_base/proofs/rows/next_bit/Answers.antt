use Rattle.std.proofs.Common.{◌+◌, ◌*◌, ◌%◌, inl, inr, refl, arith}
use Rattle.std.proofs.lemmas.Bool.{cases_lt}
use Rattle.house_base.specs.declared.rows.TheConstants.{WORD_BITS}
use Rattle.house_base.proofs.RowLemmas.{has-set_bit, has-clear_bit}
use Rattle.house_base.proofs.rows.next_bit.Goals as goal

pub returns-in-Some-clause-set : goal.returns-in-Some-clause-set
returns-in-Some-clause-set c =
    let at = c.loop-at.at in
    let bit = c.in-Some.bit in
    has-set_bit c.args.words.now c.args.row (at * WORD_BITS + bit) at bit _ (omega (arith, c.in-Some.ensures.below)) (omega (arith, c.in-Some.ensures.below)) refl c.in-Some.ensures.set

pub returns-in-Some-clause-before : goal.returns-in-Some-clause-before
returns-in-Some-clause-before c = λ q from below.
    let at = c.loop-at.at in
    let low = c.loop-at.low in
    elim (cases_lt q (at * WORD_BITS + low)) [
      | inl early ↦ c.loop-at.invariant.before q from early
      | inr late ↦ has-clear_bit c.args.words.now c.args.row q at (q % WORD_BITS) _ (omega (arith, late, below, c.in-Some.ensures.below)) refl refl
          (c.in-Some.ensures.before (q % WORD_BITS) (omega (arith, late, below, c.in-Some.ensures.below)) (omega (arith, late, below, c.in-Some.ensures.below)))
    ]

pub loop-at-preserved : goal.loop-at-preserved
loop-at-preserved c =
    let at = c.loop-at.at in
    let low = c.loop-at.low in
    record {
      low = omega arith;
      from = omega arith;
      before = λ q from below. elim (cases_lt q (at * WORD_BITS + low)) [
        | inl early ↦ c.loop-at.invariant.before q from early
        | inr late ↦ has-clear_bit c.args.words.now c.args.row q at (q % WORD_BITS) _ (omega (arith, late, below)) refl refl
            (c.in_default.ensures.none (q % WORD_BITS) (omega (arith, late, below)) (omega arith))
      ];
    }
