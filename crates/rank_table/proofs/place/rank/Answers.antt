use Rattle.std.proofs.Common.{◌≡◌, ℕ, true, false, get_or, sym, ap, ◌∙◌, arith}
use Rattle.house_base.specs.Setting.{size}
use Rattle.peer_selection.specs.Counting.{count_below}
use Rattle.peer_selection.proofs.CountingLemmas.{count_below-zero}
use Rattle.peer_selection.specs.Profile.{profile_on}
use Rattle.rank_table.specs.Rank.{goes_before}
use Rattle.rank_table.proofs.RankLemmas.{counted}
use Rattle.rank_table.proofs.RankLemmas.{rank-counted}
use Rattle.rank_table.proofs.place.rank.Goals as goal
use Rattle.rank_table.proofs.place.rank.Goals.{then-goes_before, else-goes_before}

pub loop-rival-init : goal.loop-rival-init
loop-rival-init c = record { counted = sym (count_below-zero (λ q. goes_before c.args.plan.now (λ p. get_or c.args.totals.now.scores p 0) q c.args.place)); few = omega arith }

pub loop-rival-preserved : goal.loop-rival-preserved
loop-rival-preserved c =
    let test = λ (q : ℕ). goes_before c.args.plan.now (λ p. get_or c.args.totals.now.scores p 0) q c.args.place in
    elim c.if-goes_before.branch [
      | then-goes_before w ↦ record {
        counted = counted test c.loop-rival.rival c.loop-rival.before c.if-goes_before.before true (sym c.goes_before.ensures ∙ w.if-goes_before.true) c.loop-rival.invariant.counted (omega arith);
        few = omega (arith, c.loop-rival.invariant.few);
      }
      | else-goes_before w ↦ record {
        counted = counted test c.loop-rival.rival c.loop-rival.before c.if-goes_before.before false (sym c.goes_before.ensures ∙ w.if-goes_before.false) c.loop-rival.invariant.counted (omega arith);
        few = omega (arith, c.loop-rival.invariant.few);
      }
    ]

pub returns-clause-value : goal.returns-clause-value
returns-clause-value c =
    let test = λ (q : ℕ). goes_before c.args.plan.now (λ p. get_or c.args.totals.now.scores p 0) q c.args.place in
    let whole : c.loop-rival.rival ≡ size c.args.plan.now = omega (arith, c.count-rival-end.ensures.value) in
    λ pairs points is. rank-counted (profile_on c.args.plan.now pairs points) c.args.totals.now c.args.place c.loop-rival.before is c.requires.place (c.loop-rival.invariant.counted ∙ ap (count_below test) whole)
