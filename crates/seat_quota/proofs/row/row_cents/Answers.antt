use Rattle.std.proofs.Common.{◌≡◌, ◌<◌, ◌≤◌, All, length, map, take, sym, ap, subst, ◌∙◌, arith}
use Rattle.std.proofs.lemmas.List.{length-set, length-take-le, take_all}
use Rattle.std.proofs.Math.ListN.{get_or-append}
use Rattle.house_base.specs.declared.limits.TheConstants.{MOST_POINTS}
use Rattle.peer_selection.specs.Split.{cents_at}
use Rattle.review_desk.specs.Desk.{points_at}
use Rattle.seat_quota.proofs.GivenLemmas.{points_more, points_most}
use Rattle.seat_quota.proofs.row.row_cents.Goals as goal

pub loop-i-preserved : goal.loop-i-preserved
loop-i-preserved c =
    let f = points_at c.args.desk.now c.args.reviewer in
    let inside : c.loop-i.i < length c.loop-i.points = omega (arith, c.loop-i.invariant.len, c.requires.row.few) in
    record {
      len = length-set c.loop-i.points c.loop-i.i c.points.result ∙ c.loop-i.invariant.len;
      value = points_more f c.loop-i.points c.args.row.now c.loop-i.i c.points.result inside c.loop-i-test.true c.loop-i.invariant.value c.points.ensures.value;
      most = points_most c.loop-i.points c.loop-i.i c.points.result inside c.loop-i.invariant.most c.points.ensures.most;
    }

pub split-requires-clause-points : goal.split-requires-clause-points
split-requires-clause-points c =
    let whole : c.loop-i.i ≡ length c.args.row.now = omega arith in
    subst (λ n. All (λ x. x ≤ MOST_POINTS) (take n c.loop-i.points)) whole c.loop-i.invariant.most

pub returns-clause-value : goal.returns-clause-value
returns-clause-value c =
    let points = c.loop-i.points in
    let row = c.args.row.now in
    let whole : c.loop-i.i ≡ length row = omega arith in
    let read : take (length row) points ≡ map (points_at c.args.desk.now c.args.reviewer) row =
    ap (λ n. take n points) (sym whole) ∙ (c.loop-i.invariant.value ∙ ap (map (points_at c.args.desk.now c.args.reviewer)) (take_all c.loop-i.i row (omega arith))) in
    let short : length (take (length row) points) ≡ length row = length-take-le (length row) points (omega (arith, c.loop-i.invariant.len, c.requires.row.few)) in
    λ i l. get_or-append c.split.new.cents _ 0 i (omega (arith, c.split.ensures.each, short)) ∙ (c.split.ensures.shares i (omega (arith, short)) ∙ ap (λ xs. cents_at xs i) read)
