use Rattle.std.proofs.Common.{◌≡◌, ℕ, ◌+◌, ◌*◌, ◌^◌, ◌%◌, eqb, cond, bit_or, sym, ap, ◌∙◌, inl, inr, arith}
use Rattle.std.specs.Int.{bit_at}
use Rattle.std.proofs.lemmas.Bool.{cases_eq}
use Rattle.std.proofs.lemmas.Grind.{common_steps}
use Rattle.house_base.specs.Grid.{cell}
use Rattle.assign_flow.proofs.PlaceLemmas.{bit-tested, bit-untested}
use Rattle.assign_flow.proofs.turned.column_word.Goals as goal

pub loop-i-preserved : goal.loop-i-preserved
loop-i-preserved c =
    let s = c.args.square.now in
    let i = c.loop-i.i in
    let b = c.get.result in
    let word = c.loop-i.word in
    let inv = c.loop-i.invariant in
    let bit : ◌≡◌ {A = ℕ} c.from.result (cond b 1 0) = grind (arith, common_steps) in
    let more : ℕ → ℕ = λ n. bit_or word (n * 2 ^ i % 2 ^ 64) in
    record {
      before = λ j below. elim (cases_eq j i) [
        | inl same ↦
            ap (λ n. eqb (bit_at (more n) j) 1) bit
            ∙ (ap (λ k. eqb (bit_at (more (cond b 1 0)) k) 1) same
            ∙ (bit-tested word i b (inv.later i (omega arith) (omega arith)) (omega arith)
            ∙ (c.get.ensures ∙ ap (λ k. cell s (c.args.first + k) c.args.column) (sym same))))
        | inr other ↦
            ap (λ n. eqb (bit_at (more n) j) 1) bit
            ∙ (ap (λ n. eqb n 1) (bit-untested word i j b other (omega arith)) ∙ inv.before j (omega arith))
      ];
      later = λ j from below.
          ap (λ n. bit_at (more n) j) bit
          ∙ (bit-untested word i j b (λ e. omega arith) (omega arith) ∙ inv.later j (omega arith) below);
    }
