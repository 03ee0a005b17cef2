use Rattle.std.proofs.Common.{◌≡◌, ℕ, ◌+◌, ◌*◌, ◌/◌, ◌%◌, ◌<◌, ◌≤◌, Bool, false, length-set, ap, ◌∙◌, inl, inr, arith}
use Rattle.std.proofs.lemmas.Bool.{cases_lt}
use Rattle.house_base.specs.Grid.{cell}
use Rattle.house_base.specs.declared.rows.TheConstants.{WORD_BITS, ROW_BITS}
use Rattle.assign_flow.proofs.PlaceLemmas.{one-clear, one-is, has-one, has-past, words-more}
use Rattle.assign_flow.proofs.places.PlaceSet.of_row.Goals as goal

pub loop-at-preserved : goal.loop-at-preserved
loop-at-preserved c =
    let s = c.args.square.now in
    let at = c.loop-at.at in
    let P : ℕ → ℕ → Bool → Type 0 = λ k i b. k * WORD_BITS + i < s.side → b ≡ cell s c.args.row (k * WORD_BITS + i) in
    let Q : ℕ → ℕ → Bool → Type 0 = λ k i b. s.side ≤ k * WORD_BITS + i → b ≡ false in
    record {
      len = length-set c.loop-at.words at _ ∙ c.loop-at.invariant.len;
      inside = words-more P c.loop-at.words at c.word.result (omega arith) c.loop-at.invariant.inside (λ i il below. one-is c.word.result i ∙ c.word.ensures.bits i il below);
      outside = words-more Q c.loop-at.words at c.word.result (omega arith) c.loop-at.invariant.outside (λ i il above. one-clear c.word.result i (c.word.ensures.clear i il above));
    }

pub returns-clause-inside : goal.returns-clause-inside
returns-clause-inside c = λ i below.
    let place : i / WORD_BITS * WORD_BITS + i % WORD_BITS ≡ i = omega arith in
    has-one c.loop-at.words i
    ∙ (c.loop-at.invariant.inside (i / WORD_BITS) (i % WORD_BITS) (omega arith) (omega arith) (omega arith)
    ∙ ap (cell c.args.square.now c.args.row) place)

pub returns-clause-outside : goal.returns-clause-outside
returns-clause-outside c = λ i above.
    elim (cases_lt i ROW_BITS) [
      | inl within ↦ has-one c.loop-at.words i
          ∙ c.loop-at.invariant.outside (i / WORD_BITS) (i % WORD_BITS) (omega arith) (omega arith) (omega arith)
      | inr past ↦ has-past c.loop-at.words i c.loop-at.invariant.len past
    ]
