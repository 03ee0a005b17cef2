use Rattle.std.proofs.Common.{◌-◌, ◌<◌, set, slice_index, length, arith}
use Rattle.std.proofs.lemmas.Bool.{ltb-true}
use Rattle.assign_flow.proofs.DraftLemmas.{read_number, lowered, sum-lowered}
use Rattle.assign_flow.proofs.draft.Draft.exchange.Goals as goal

pub returns-clause-fewer : goal.returns-clause-fewer
returns-clause-fewer c =
    let s = c.args.self.now in
    let r = c.in-AtReviewer.reviewer in
    let u = c.index_mut.result.now in
    let source = c.in-AtReviewer.ensures.walks.source in
    let below : r < length s.unmet.items = omega (arith, s.unmet.ok.0, source.0) in
    let unmet = read_number s.unmet.items r u below c.index_mut.ensures.value in
    let some = ltb-true 0 (slice_index s.unmet.items r) (c.requires.grown.reviewer_sources r source.0 source.1 source.2) in
    sum-lowered (slice_index s.unmet.items) (slice_index (set s.unmet.items r (u - 1))) s.ways.free.side r source.0
    (lowered s.unmet.items r u below unmet (omega (arith, unmet, some)))
