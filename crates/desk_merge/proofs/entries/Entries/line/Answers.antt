use Rattle.std.proofs.Common.{◌∷◌, [], length, get_or, ap, ◌∙◌, arith}
use Rattle.std.specs.FinMap.{entries, len-entries}
use Rattle.std.proofs.lemmas.List.Elements.{All-get_or}
use Rattle.desk_merge.specs.Desk.{IsItem, entry_line}
use Rattle.desk_merge.specs.Held.{item_at}
use Rattle.desk_merge.proofs.HeldLemmas.{AreOf, StandsAt, length-line_ends, seen, stands_in}
use Rattle.desk_merge.proofs.entries.Entries.line.Goals as goal

pub start_of-start-requires : goal.start_of-start-requires
start_of-start-requires c =
    let m = c.args.self.now in
    let held : AreOf m c.self.inside.text.items c.self.inside.ends.items = seen m c.self.inside.text.items c.self.inside.ends.items c.self.invariant c.self.view_is in
    omega (arith, ap length c.deref.ensures.value, ap length held.ends_are, length-line_ends 0 (entries m), len-entries m, c.requires)

pub index-end-requires : goal.index-end-requires
index-end-requires c =
    let m = c.args.self.now in
    let own = c.self.inside.ends.ok.0 in
    let held : AreOf m c.self.inside.text.items c.self.inside.ends.items = seen m c.self.inside.text.items c.self.inside.ends.items c.self.invariant c.self.view_is in
    omega (arith, own, ap length held.ends_are, length-line_ends 0 (entries m), len-entries m, c.requires)

pub slice_bounds-result-count : goal.slice_bounds-result-count
slice_bounds-result-count c =
    let m = c.args.self.now in
    let text = c.self.inside.text.items in
    let ends = c.self.inside.ends.items in
    let held : AreOf m text ends = seen m text ends c.self.invariant c.self.view_is in
    let stands : StandsAt text c.start_of-start.result c.index-end.result.now (entry_line (item_at m c.args.index)) =
    stands_in m text ends c.args.index c.start_of-start.result c.index-end.result.now held c.requires (c.start_of-start.ensures ∙ ap (λ xs. get_or (0 ∷ xs) c.args.index 0) c.deref.ensures.value) c.index-end.ensures in
    stands.up

pub slice_bounds-result-start : goal.slice_bounds-result-start
slice_bounds-result-start c =
    let m = c.args.self.now in
    let text = c.self.inside.text.items in
    let ends = c.self.inside.ends.items in
    let held : AreOf m text ends = seen m text ends c.self.invariant c.self.view_is in
    let stands : StandsAt text c.start_of-start.result c.index-end.result.now (entry_line (item_at m c.args.index)) =
    stands_in m text ends c.args.index c.start_of-start.result c.index-end.result.now held c.requires (c.start_of-start.ensures ∙ ap (λ xs. get_or (0 ∷ xs) c.args.index 0) c.deref.ensures.value) c.index-end.ensures in
    stands.up

pub slice_bounds-result-end : goal.slice_bounds-result-end
slice_bounds-result-end c =
    let m = c.args.self.now in
    let text = c.self.inside.text.items in
    let ends = c.self.inside.ends.items in
    let held : AreOf m text ends = seen m text ends c.self.invariant c.self.view_is in
    let stands : StandsAt text c.start_of-start.result c.index-end.result.now (entry_line (item_at m c.args.index)) =
    stands_in m text ends c.args.index c.start_of-start.result c.index-end.result.now held c.requires (c.start_of-start.ensures ∙ ap (λ xs. get_or (0 ∷ xs) c.args.index 0) c.deref.ensures.value) c.index-end.ensures in
    rw c.as_slice.ensures.value stands.within

pub returns-clause-value : goal.returns-clause-value
returns-clause-value c =
    let m = c.args.self.now in
    let text = c.self.inside.text.items in
    let ends = c.self.inside.ends.items in
    let held : AreOf m text ends = seen m text ends c.self.invariant c.self.view_is in
    let stands : StandsAt text c.start_of-start.result c.index-end.result.now (entry_line (item_at m c.args.index)) =
    stands_in m text ends c.args.index c.start_of-start.result c.index-end.result.now held c.requires (c.start_of-start.ensures ∙ ap (λ xs. get_or (0 ∷ xs) c.args.index 0) c.deref.ensures.value) c.index-end.ensures in
    rw c.as_slice.ensures.value stands.part_is

pub returns-clause-formed : goal.returns-clause-formed
returns-clause-formed c =
    let m = c.args.self.now in
    let held : AreOf m c.self.inside.text.items c.self.inside.ends.items = seen m c.self.inside.text.items c.self.inside.ends.items c.self.invariant c.self.view_is in
    All-get_or IsItem (entries m) c.args.index (([], []), (0, 0)) (omega (arith, len-entries m, c.requires)) held.items
