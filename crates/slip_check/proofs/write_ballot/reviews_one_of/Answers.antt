use Rattle.std.proofs.Common.{◌≡◌, ℕ, eqb, eq-eqb, filter, refl, sym, ap, ◌∙◌, arith}
use Rattle.std.specs.List.{list_any}
use Rattle.std.proofs.lemmas.Bool.{eqb-true}
use Rattle.house_base.specs.Grid.{cell}
use Rattle.house_base.specs.Setting.{cluster_at, size}
use Rattle.house_base.proofs.Settings.{cluster_at-read}
use Rattle.peer_selection.specs.Counting.{numbers_below}
use Rattle.slip_check.specs.Slip.{places_in}
use Rattle.slip_check.proofs.WriteLemmas.{none_more, one_passes}
use Rattle.slip_check.proofs.write_ballot.reviews_one_of.Goals as goal
use Rattle.slip_check.proofs.write_ballot.reviews_one_of.Goals.{else-person-cluster-via-then-person-cluster+else-get, else-person-cluster-via-else-person-cluster}

pub loop-place-init : goal.loop-place-init
unfolding numbers_below
loop-place-init c = refl

pub returns-then-get : goal.returns-then-get
unfolding places_in
returns-then-get c =
    let s = c.args.plan.now in
    let p = c.loop-place.place in
    let at = cluster_at-read s p c.person.result c.person.ensures in
    let held = c.get.ensures ∙ ap (λ g. cell g c.args.reviewer p) c.grid.ensures in
    sym (one_passes (λ q. eqb (cluster_at s q) c.args.cluster) (cell c.args.desk.now.pairs c.args.reviewer) p (size s)
    (omega (arith, c.loop-place-test.true, c.count-place-end.ensures.value))
    (eq-eqb (cluster_at s p) c.args.cluster (at ∙ c.if-person-cluster.true))
    (sym held ∙ c.if-get.true))

pub loop-place-preserved : goal.loop-place-preserved
loop-place-preserved c =
    let s = c.args.plan.now in
    let p = c.loop-place.place in
    let member = λ (q : ℕ). eqb (cluster_at s q) c.args.cluster in
    let test = cell c.args.desk.now.pairs c.args.reviewer in
    let at = cluster_at-read s p c.person.result c.person.ensures in
    elim c.else-person-cluster.branch [
      | else-person-cluster-via-then-person-cluster+else-get w ↦
          none_more member test p c.loop-place.invariant (λ _. sym (w.get.ensures ∙ ap (λ g. cell g c.args.reviewer p) w.grid.ensures) ∙ w.if-get.false)
      | else-person-cluster-via-else-person-cluster w ↦
          none_more member test p c.loop-place.invariant (λ is. absurd (w.if-person-cluster.false (sym at ∙ eqb-true (cluster_at s p) c.args.cluster is)))
    ]

pub returns : goal.returns
unfolding places_in
returns c =
    let s = c.args.plan.now in
    let n : c.loop-place.place ≡ size s = omega (arith, c.count-place-end.ensures.value) in
    sym c.loop-place.invariant ∙ ap (λ k. list_any (cell c.args.desk.now.pairs c.args.reviewer) (filter (λ q. eqb (cluster_at s q) c.args.cluster) (numbers_below k))) n
