use Rattle.std.proofs.Common.{◌++◌, ap, ◌∙◌}
use Rattle.desk_merge.proofs.HeldLemmas.{AreOf, seen}
use Rattle.desk_merge.proofs.entries.Entries.write.Goals as goal

pub returns-in_err-extend_from_slice-clause-formed : goal.returns-in_err-extend_from_slice-clause-formed
returns-in_err-extend_from_slice-clause-formed c =
    let m = c.args.self.now in
    let held : AreOf m c.self.inside.text.items c.self.inside.ends.items = seen m c.self.inside.text.items c.self.inside.ends.items c.self.invariant c.self.view_is in
    held.items

pub returns-clause-ok : goal.returns-clause-ok
returns-clause-ok c =
    let m = c.args.self.now in
    let held : AreOf m c.self.inside.text.items c.self.inside.ends.items = seen m c.self.inside.text.items c.self.inside.ends.items c.self.invariant c.self.view_is in
    c.in_ok-extend_from_slice.ensures.items ∙ ap (λ t. c.args.out.now.items ++ t) (c.deref.ensures.value ∙ held.text_is)

pub returns-clause-formed : goal.returns-clause-formed
returns-clause-formed c =
    let m = c.args.self.now in
    let held : AreOf m c.self.inside.text.items c.self.inside.ends.items = seen m c.self.inside.text.items c.self.inside.ends.items c.self.invariant c.self.view_is in
    held.items
