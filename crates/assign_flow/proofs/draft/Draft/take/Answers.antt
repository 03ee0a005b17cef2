use Rattle.std.proofs.Common.{◌-◌, ◌<◌, true, sym, subst, set, slice_index, length, arith}
use Rattle.house_base.specs.Grid.{Square, cell}
use Rattle.assign_flow.specs.Draft.{IsDraft}
use Rattle.assign_flow.proofs.DraftLemmas.{read_number, lowered, draft-takes}
use Rattle.assign_flow.proofs.WalkLemmas.{sets-from}
use Rattle.assign_flow.proofs.draft.Draft.take.Goals as goal

pub returns-clause-fits : goal.returns-clause-fits
returns-clause-fits c =
    let s = c.args.self.now in
    let r = c.args.reviewer in
    let p = c.args.proposal in
    let n = s.ways.free.side in
    let w = c.set_held.new.self in
    let u = c.index_mut.result.now in
    let below : r < length s.unmet.items = omega (arith, s.unmet.ok.0) in
    let unmet = read_number s.unmet.items r u below c.index_mut.ensures.value in
    let sets = sets-from n (cell s.ways.held) (cell w.held) r p true c.requires.below c.requires.can.below c.set_held.ensures.held in
    λ need room h.
    let P : Square → Type 0 = λ x.
    IsDraft (record { side = x.side; need = need; room = room; may = cell x }) (cell w.held) (slice_index (set s.unmet.items r (u - 1))) (slice_index c.take.new.self.spare.items) in
    subst P (sym c.set_held.ensures.free)
    (draft-takes _ (cell s.ways.held) (cell w.held) (slice_index s.unmet.items) (slice_index s.rooms.spare.items) (slice_index (set s.unmet.items r (u - 1))) (slice_index c.take.new.self.spare.items) r p h sets
    c.requires.below c.requires.can.below c.requires.can.new c.requires.can.free
    (lowered s.unmet.items r u below unmet (omega (arith, unmet, c.requires.unmet))) c.take.ensures.taken)
