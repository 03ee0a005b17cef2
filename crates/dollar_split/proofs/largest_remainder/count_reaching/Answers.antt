use Rattle.std.proofs.Common.{◌≡◌, ℕ, true, false, leb, get_or, length, sym, ap, ◌∙◌, arith}
use Rattle.std.proofs.lemmas.Bool.{le-leb, lt-leb}
use Rattle.peer_selection.specs.Counting.{count_below}
use Rattle.peer_selection.proofs.CountingLemmas.{count_below-zero}
use Rattle.dollar_split.proofs.ShareLemmas.{counted}
use Rattle.dollar_split.proofs.largest_remainder.count_reaching.Goals as goal
use Rattle.dollar_split.proofs.largest_remainder.count_reaching.Goals.{then-priorities-j, else-priorities-j}

pub loop-j-init : goal.loop-j-init
loop-j-init c = record { counted = sym (count_below-zero (λ j. leb c.args.bound (get_or c.args.priorities.now j 0))); few = omega arith }

pub loop-j-preserved : goal.loop-j-preserved
loop-j-preserved c =
    let test = λ (j : ℕ). leb c.args.bound (get_or c.args.priorities.now j 0) in
    elim c.if-priorities-j.branch [
      | then-priorities-j w ↦ record {
        counted = counted test c.loop-j.j c.loop-j.count c.if-priorities-j.count true (le-leb c.args.bound (get_or c.args.priorities.now c.loop-j.j 0) w.if-priorities-j.true) c.loop-j.invariant.counted (omega (arith, w.count-is));
        few = omega (arith, c.loop-j.invariant.few, w.count-is);
      }
      | else-priorities-j w ↦ record {
        counted = counted test c.loop-j.j c.loop-j.count c.if-priorities-j.count false (lt-leb c.args.bound (get_or c.args.priorities.now c.loop-j.j 0) w.if-priorities-j.false) c.loop-j.invariant.counted (omega (arith, w.count-is));
        few = omega (arith, c.loop-j.invariant.few, w.count-is);
      }
    ]

pub returns : goal.returns
returns c =
    let test = λ (j : ℕ). leb c.args.bound (get_or c.args.priorities.now j 0) in
    let whole : c.loop-j.j ≡ length c.args.priorities.now = omega arith in
    c.loop-j.invariant.counted ∙ ap (count_below test) whole
