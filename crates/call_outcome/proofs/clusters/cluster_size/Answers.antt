use Rattle.std.proofs.Common.{◌≡◌, ℕ, true, false, eqb, sym, ap, ◌∙◌, arith}
use Rattle.std.proofs.lemmas.Bool.{ne_eqb, eq-eqb}
use Rattle.house_base.specs.Setting.{size, cluster_at}
use Rattle.house_base.proofs.Settings.{cluster_at-read}
use Rattle.peer_selection.specs.Counting.{count_below}
use Rattle.peer_selection.specs.Profile.{cluster_size}
use Rattle.peer_selection.proofs.CountingLemmas.{count_below-zero}
use Rattle.call_outcome.proofs.OutcomeStepLemmas.{counted}
use Rattle.call_outcome.proofs.clusters.cluster_size.Goals as goal
use Rattle.call_outcome.proofs.clusters.cluster_size.Goals.{then-person-cluster, else-person-cluster}

pub loop-place-init : goal.loop-place-init
loop-place-init c = record { members = sym (count_below-zero (λ p. eqb (cluster_at c.args.plan.now p) c.args.cluster)); few = omega arith }

pub loop-place-preserved : goal.loop-place-preserved
loop-place-preserved c =
    let test = λ (p : ℕ). eqb (cluster_at c.args.plan.now p) c.args.cluster in
    let at = cluster_at-read c.args.plan.now c.loop-place.place c.person.result c.person.ensures in
    elim c.if-person-cluster.branch [
      | then-person-cluster w ↦ record {
        members = counted test c.loop-place.place c.loop-place.size c.if-person-cluster.size true (eq-eqb (cluster_at c.args.plan.now c.loop-place.place) c.args.cluster (at ∙ w.if-person-cluster.true)) c.loop-place.invariant.members (omega arith);
        few = omega (arith, c.loop-place.invariant.few);
      }
      | else-person-cluster w ↦ record {
        members = counted test c.loop-place.place c.loop-place.size c.if-person-cluster.size false (ne_eqb (cluster_at c.args.plan.now c.loop-place.place) c.args.cluster (λ e. w.if-person-cluster.false (sym at ∙ e))) c.loop-place.invariant.members (omega arith);
        few = omega (arith, c.loop-place.invariant.few);
      }
    ]

pub returns : goal.returns
unfolding cluster_size
returns c =
    let test = λ (p : ℕ). eqb (cluster_at c.args.plan.now p) c.args.cluster in
    let whole : c.loop-place.place ≡ size c.args.plan.now = omega (arith, c.count-place-end.ensures.value) in
    c.loop-place.invariant.members ∙ ap (count_below test) whole
