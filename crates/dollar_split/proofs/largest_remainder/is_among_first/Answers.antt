use Rattle.std.proofs.Common.{◌≡◌, ℕ, true, false, ltb, get_or, length, sym, ap, ◌∙◌, arith}
use Rattle.std.proofs.lemmas.Bool.{lt-ltb, le-ltb}
use Rattle.peer_selection.specs.Counting.{count_below}
use Rattle.peer_selection.proofs.CountingLemmas.{count_below-zero}
use Rattle.dollar_split.specs.Weighed.{is_among_first}
use Rattle.dollar_split.proofs.ShareLemmas.{counted}
use Rattle.dollar_split.proofs.largest_remainder.is_among_first.Goals as goal
use Rattle.dollar_split.proofs.largest_remainder.is_among_first.Goals.{then-priorities-j, else-priorities-j}

pub loop-j-init : goal.loop-j-init
loop-j-init c = record { counted = sym (count_below-zero (λ j. ltb (get_or c.args.priorities.now c.args.i 0) (get_or c.args.priorities.now j 0))); few = omega arith }

pub loop-j-preserved : goal.loop-j-preserved
loop-j-preserved c =
    let test = λ (j : ℕ). ltb (get_or c.args.priorities.now c.args.i 0) (get_or c.args.priorities.now j 0) in
    elim c.if-priorities-j.branch [
      | then-priorities-j w ↦ record {
        counted = counted test c.loop-j.j c.loop-j.before c.if-priorities-j.before true (lt-ltb (get_or c.args.priorities.now c.args.i 0) (get_or c.args.priorities.now c.loop-j.j 0) w.if-priorities-j.true) c.loop-j.invariant.counted (omega (arith, w.before-is));
        few = omega (arith, c.loop-j.invariant.few, w.before-is);
      }
      | else-priorities-j w ↦ record {
        counted = counted test c.loop-j.j c.loop-j.before c.if-priorities-j.before false (le-ltb (get_or c.args.priorities.now c.args.i 0) (get_or c.args.priorities.now c.loop-j.j 0) w.if-priorities-j.false) c.loop-j.invariant.counted (omega (arith, w.before-is));
        few = omega (arith, c.loop-j.invariant.few, w.before-is);
      }
    ]

pub returns : goal.returns
unfolding is_among_first
returns c =
    let test = λ (j : ℕ). ltb (get_or c.args.priorities.now c.args.i 0) (get_or c.args.priorities.now j 0) in
    let whole : c.loop-j.j ≡ length c.args.priorities.now = omega arith in
    ap (λ b. ltb b c.args.left) (c.loop-j.invariant.counted ∙ ap (count_below test) whole)
