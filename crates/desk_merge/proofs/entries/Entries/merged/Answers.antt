use Rattle.std.proofs.Common.{refl, arith}
use Rattle.desk_merge.specs.Held.{item_at}
use Rattle.desk_merge.specs.Joined.{Item, greater}
use Rattle.desk_merge.proofs.MergeLemmas.{merge_end, merge_start, other_way, take_both, take_one}
use Rattle.desk_merge.proofs.SortedLemmas.{follows_same}
use Rattle.desk_merge.proofs.entries.Entries.merged.Goals as goal

pub loop-i-init : goal.loop-i-init
loop-i-init c = merge_start c.args.one.now c.args.other.now c.new-merged.result c.new-merged.ensures

pub loop-i-preserved-in-One : goal.loop-i-preserved-in-One
loop-i-preserved-in-One c =
    take_one c.args.one.now c.args.other.now c.loop-i.merged c.push_from.new.self c.loop-i.i c.loop-i.j c.loop-i.invariant c.in-One.ensures.0 c.in-One.ensures.1 c.in_ok-push_from-in-One.ensures

pub loop-i-preserved-in-Other : goal.loop-i-preserved-in-Other
loop-i-preserved-in-Other c =
    let turned = other_way c.args.one.now c.args.other.now c.loop-i.merged c.loop-i.i c.loop-i.j c.loop-i.invariant in
    other_way c.args.other.now c.args.one.now c.push_from-in-Other.new.self _ c.loop-i.i
    (take_one c.args.other.now c.args.one.now c.loop-i.merged c.push_from-in-Other.new.self c.loop-i.j c.loop-i.i turned c.in-Other.ensures.0 c.in-Other.ensures.1 c.in_ok-push_from-in-Other.ensures)

pub loop-i-preserved : goal.loop-i-preserved
loop-i-preserved c =
    let x = item_at c.args.one.now c.loop-i.i in
    let y = item_at c.args.other.now c.loop-i.j in
    let e : Item = (x.0, greater x.1 y.1) in
    take_both c.args.one.now c.args.other.now c.loop-i.merged c.push_better.new.self c.loop-i.i c.loop-i.j e c.loop-i.invariant c.in-Both.ensures.0 c.in-Both.ensures.1 c.in-Both.ensures.2 refl refl
    (follows_same c.loop-i.merged x e (c.loop-i.invariant.one_follows c.in-Both.ensures.0) refl) c.in_ok-push_better-in-Both.ensures

pub returns : goal.returns
returns c = merge_end c.args.one.now c.args.other.now c.loop-i.merged c.loop-i.i c.loop-i.j c.loop-i.invariant (omega arith) (omega arith)
