use Rattle.std.proofs.Common.{◌∙◌, arith}
use Rattle.house_base.proofs.RowLemmas.{has-zeros}
use Rattle.house_base.proofs.Settings.{cluster_at-read}
use Rattle.first_assign.proofs.MemberLemmas.{cluster-range, members-next}
use Rattle.first_assign.proofs.members.members.Goals as goal

pub loop-place-init : goal.loop-place-init
loop-place-init c = record {
  len = omega (arith, c.in_ok-rows.ensures.len, c.call.ensures.clusters);
  members = record {
    before = λ k p below. absurd (let wrong : ⊥ = omega (arith, below) in wrong);
    behind = λ k p from below. has-zeros c.in_ok-rows.rows.items _ (c.in_ok-rows.ensures.items_if_clones_equal (λ y same. same)) k p;
  };
}

pub set_bit-requires-in-loop-place-clause-row_below : goal.set_bit-requires-in-loop-place-clause-row_below
set_bit-requires-in-loop-place-clause-row_below c =
    let range = cluster-range c.args.plan.now c.loop-place.place c.person-cluster.result c.count-place-end.ensures.setting c.person-cluster.ensures in
    omega (arith, range.1, c.set_bit.ensures.len, c.loop-place.invariant.len)

pub loop-place-preserved : goal.loop-place-preserved
loop-place-preserved c =
    let s = c.args.plan.now in
    record {
      len = c.set_bit-in-loop-place.ensures.len ∙ (c.set_bit.ensures.len ∙ c.loop-place.invariant.len);
      members = members-next s c.loop-place.place c.person-cluster.result.cluster c.loop-place.rows.items c.set_bit.new.words.items c.set_bit-in-loop-place.new.words.items
          (cluster_at-read s c.loop-place.place c.person-cluster.result c.person-cluster.ensures) (omega (arith, c.count-place-end.ensures.setting.few))
          c.set_bit.ensures.bits c.set_bit-in-loop-place.ensures.bits c.loop-place.invariant.members;
    }
