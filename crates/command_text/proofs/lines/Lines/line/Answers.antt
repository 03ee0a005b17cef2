use Rattle.std.proofs.Common.{◌≡◌, ◌≤◌, ◌<◌, ◌∷◌, length, get_or, sym, ap, ◌∙◌, arith}
use Rattle.std.specs.Prelude.{slice_get}
use Rattle.std.proofs.lemmas.List.{get_or_read}
use Rattle.command_text.proofs.HeldLemmas.{length-parts_from, part_at, rise_at}
use Rattle.command_text.proofs.lines.Lines.line.Goals as goal

pub start_of-start-requires : goal.start_of-start-requires
start_of-start-requires c =
    omega (arith, ap length c.deref.ensures.value, length-parts_from 0 c.self.inside.ends.items c.self.inside.bytes.items, ap length c.self.view_is, c.requires)

pub index-end-requires : goal.index-end-requires
index-end-requires c =
    let own = c.self.inside.ends.ok.0 in
    omega (arith, own, length-parts_from 0 c.self.inside.ends.items c.self.inside.bytes.items, ap length c.self.view_is, c.requires)

pub slice_bounds-result-count : goal.slice_bounds-result-count
slice_bounds-result-count c =
    let ends = c.self.inside.ends.items in
    let below : c.args.index < length ends = omega (arith, length-parts_from 0 ends c.self.inside.bytes.items, ap length c.self.view_is, c.requires) in
    let end : c.index-end.result.now ≡ get_or ends c.args.index 0 = get_or_read ends c.args.index c.index-end.result.now below c.index-end.ensures 0 in
    let start : c.start_of-start.result ≡ get_or (0 ∷ ends) c.args.index 0 = c.start_of-start.ensures ∙ ap (λ xs. get_or (0 ∷ xs) c.args.index 0) c.deref.ensures.value in
    rw (end, start) (rise_at 0 ends (length c.self.inside.bytes.items) c.args.index c.self.invariant.rise below).0

pub slice_bounds-result-start : goal.slice_bounds-result-start
slice_bounds-result-start c =
    let ends = c.self.inside.ends.items in
    let below : c.args.index < length ends = omega (arith, length-parts_from 0 ends c.self.inside.bytes.items, ap length c.self.view_is, c.requires) in
    let end : c.index-end.result.now ≡ get_or ends c.args.index 0 = get_or_read ends c.args.index c.index-end.result.now below c.index-end.ensures 0 in
    let start : c.start_of-start.result ≡ get_or (0 ∷ ends) c.args.index 0 = c.start_of-start.ensures ∙ ap (λ xs. get_or (0 ∷ xs) c.args.index 0) c.deref.ensures.value in
    let fits : c.start_of-start.result ≤ c.index-end.result.now = rw (end, start) (rise_at 0 ends (length c.self.inside.bytes.items) c.args.index c.self.invariant.rise below).0 in
    fits

pub slice_bounds-result-end : goal.slice_bounds-result-end
slice_bounds-result-end c =
    let ends = c.self.inside.ends.items in
    let below : c.args.index < length ends = omega (arith, length-parts_from 0 ends c.self.inside.bytes.items, ap length c.self.view_is, c.requires) in
    let end : c.index-end.result.now ≡ get_or ends c.args.index 0 = get_or_read ends c.args.index c.index-end.result.now below c.index-end.ensures 0 in
    let fits : c.index-end.result.now ≤ length c.as_slice.result.now = rw (end, c.as_slice.ensures.value) (rise_at 0 ends (length c.self.inside.bytes.items) c.args.index c.self.invariant.rise below).1 in
    fits

pub returns-clause-value : goal.returns-clause-value
returns-clause-value c =
    let ends = c.self.inside.ends.items in
    let below : c.args.index < length ends = omega (arith, length-parts_from 0 ends c.self.inside.bytes.items, ap length c.self.view_is, c.requires) in
    let end : c.index-end.result.now ≡ get_or ends c.args.index 0 = get_or_read ends c.args.index c.index-end.result.now below c.index-end.ensures 0 in
    let start : c.start_of-start.result ≡ get_or (0 ∷ ends) c.args.index 0 = c.start_of-start.ensures ∙ ap (λ xs. get_or (0 ∷ xs) c.args.index 0) c.deref.ensures.value in
    ap (λ all. slice_get all c.args.index) (sym c.self.view_is)
    ∙ rw (end, start, c.as_slice.ensures.value) (part_at 0 ends c.self.inside.bytes.items c.args.index below)
