use Rattle.std.proofs.Common.{◌≡◌, ◌++◌, ◌∷◌, [], ap, ◌∙◌}
use Rattle.std.specs.FinMap.{entries}
use Rattle.desk_merge.specs.Desk.{desk_text}
use Rattle.desk_merge.specs.Held.{item_on}
use Rattle.desk_merge.proofs.HeldLemmas.{AreOf, ends_pushed, entries_pushed, held_pushed, seen, text_pushed}
use Rattle.desk_merge.proofs.entries.Entries.push.Goals as goal

pub invariant_of-self-2 : goal.invariant_of-self-2
invariant_of-self-2 c =
    let m = c.args.self.now in
    let text = c.self.inside.text.items in
    let ends = c.self.inside.ends.items in
    let e = item_on c.args.line.now in
    let after = c.extend_from_slice.new.self.items in
    let held : AreOf m text ends = seen m text ends c.self.invariant c.self.view_is in
    let text_is : after ≡ desk_text (entries m ++ e ∷ []) = text_pushed m text ends e c.args.line.now after held c.requires.line c.in_ok-extend_from_slice.ensures.items in
    held_pushed m text ends e after c.push_reserved.new.self.items held c.requires.formed c.requires.behind text_is
    (ends_pushed m text ends e after c.push_reserved.new.self.items c.len.result held text_is (c.len.ensures ∙ c.extend_from_slice.new.self.ok.0)
    (c.push_reserved.ensures.items ∙ ap (λ xs. xs ++ c.len.result ∷ []) c.reserve.ensures.items))

pub returns-clause-ok : goal.returns-clause-ok
returns-clause-ok c =
    let m = c.args.self.now in
    let text = c.self.inside.text.items in
    let ends = c.self.inside.ends.items in
    let e = item_on c.args.line.now in
    let after = c.extend_from_slice.new.self.items in
    let held : AreOf m text ends = seen m text ends c.self.invariant c.self.view_is in
    let text_is : after ≡ desk_text (entries m ++ e ∷ []) = text_pushed m text ends e c.args.line.now after held c.requires.line c.in_ok-extend_from_slice.ensures.items in
    entries_pushed m text ends e after held c.requires.formed c.requires.behind text_is
