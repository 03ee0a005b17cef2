use Rattle.std.proofs.Common.{arith, ap, length}
use Rattle.command_text.proofs.HeldLemmas.{length-parts_from}
use Rattle.command_text.proofs.lines.Lines.count.Goals as goal

pub returns : goal.returns
returns c =
    let own = c.self.inside.ends.ok.0 in
    omega (arith, own, length-parts_from 0 c.self.inside.ends.items c.self.inside.bytes.items, ap length c.self.view_is, c.len.ensures)
