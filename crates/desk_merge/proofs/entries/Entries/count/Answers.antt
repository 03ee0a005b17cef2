use Rattle.std.proofs.Common.{arith, ap, length}
use Rattle.std.specs.FinMap.{entries, len-entries}
use Rattle.desk_merge.proofs.HeldLemmas.{AreOf, length-line_ends, seen}
use Rattle.desk_merge.proofs.entries.Entries.count.Goals as goal

pub returns : goal.returns
returns c =
    let m = c.args.self.now in
    let own = c.self.inside.ends.ok.0 in
    let held : AreOf m c.self.inside.text.items c.self.inside.ends.items = seen m c.self.inside.text.items c.self.inside.ends.items c.self.invariant c.self.view_is in
    omega (arith, own, c.len.ensures, ap length held.ends_are, length-line_ends 0 (entries m), len-entries m)
