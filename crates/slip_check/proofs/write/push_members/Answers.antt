use Rattle.std.proofs.Common.{◌≡◌, ℕ, ◌+◌, ◌++◌, eqb, refl, sym, ap, ◌∙◌, arith}
use Rattle.std.proofs.lemmas.Bool.{ne_eqb, eq-eqb}
use Rattle.house_base.specs.Setting.{cluster_at, size}
use Rattle.house_base.proofs.Settings.{cluster_at-read}
use Rattle.house_model.specs.Report.{line_of}
use Rattle.peer_selection.specs.Counting.{numbers_below}
use Rattle.peer_selection.proofs.CountingLemmas.{numbers_below-add_one}
use Rattle.slip_check.specs.Slip.{member_row}
use Rattle.slip_check.specs.Written.{member_line}
use Rattle.slip_check.proofs.WriteLemmas.{line_none, line_skipped, line_taken, lines_of, member_lines-all, name_at-read}
use Rattle.slip_check.proofs.write.push_members.Goals as goal
use Rattle.slip_check.proofs.write.push_members.Goals.{then-member-cluster+in_ok-push_member, else-member-cluster}

pub loop-place-init : goal.loop-place-init
unfolding numbers_below
loop-place-init c = line_none c.args.out.now.items c.args.out.now.items refl

pub loop-place-preserved : goal.loop-place-preserved
loop-place-preserved c =
    let s = c.args.plan.now in
    let test = λ (q : ℕ). eqb (cluster_at s q) c.args.cluster in
    let p = c.loop-place.place in
    let old = c.args.out.now.items in
    let at = cluster_at-read s p c.person-member.result c.person-member.ensures in
    elim c.if-member-cluster.branch [
      | then-member-cluster+in_ok-push_member w ↦
          line_taken (member_line s) test (numbers_below p) (numbers_below (p + 1)) p old c.loop-place.out.items c.if-member-cluster.out.items c.loop-place.invariant (numbers_below-add_one p)
          (eq-eqb (cluster_at s p) c.args.cluster (at ∙ w.if-member-cluster.true))
          (ap (λ v. v.items) w.out-is ∙ w.in_ok-push_member.ensures ∙ ap (λ name. c.loop-place.out.items ++ line_of (member_row name)) (sym (name_at-read s p c.person-member.result c.person-member.ensures)))
      | else-member-cluster w ↦
          ap (λ v. v.items) w.out-is
          ∙ line_skipped (member_line s) test (numbers_below p) (numbers_below (p + 1)) p old c.loop-place.out.items c.loop-place.invariant (numbers_below-add_one p)
          (ne_eqb (cluster_at s p) c.args.cluster (λ e. w.if-member-cluster.false (sym at ∙ e)))
    ]

pub returns : goal.returns
returns c =
    let s = c.args.plan.now in
    let n : c.loop-place.place ≡ size s = omega (arith, c.count-place-end.ensures.value) in
    c.loop-place.invariant
    ∙ ap (λ k. c.args.out.now.items ++ lines_of (member_line s) (λ q. eqb (cluster_at s q) c.args.cluster) (numbers_below k)) n
    ∙ ap (λ t. c.args.out.now.items ++ t) (member_lines-all s c.args.cluster)
