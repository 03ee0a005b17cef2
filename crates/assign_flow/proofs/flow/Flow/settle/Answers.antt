use Rattle.std.proofs.Common.{◌≡◌, ℕ, ◌<◌, true, false, IsTrue, inl, inr, sym, ap, ◌∙◌, subst, arith}
use Rattle.std.proofs.lemmas.Bool.{cases_Bool, true_from_ne_false}
use Rattle.house_base.specs.Grid.{Square, cell}
use Rattle.peer_selection.specs.Shortage.{is_met}
use Rattle.assign_flow.specs.Flow.{FlowParts, flow_demand}
use Rattle.assign_flow.specs.Places.{places_of}
use Rattle.assign_flow.specs.Reroute.{ChangesFew, IsRerouted}
use Rattle.assign_flow.proofs.ClosedLemmas.{closed-settled}
use Rattle.assign_flow.proofs.DemandLemmas.{is_met-each, is_met-from}
use Rattle.assign_flow.proofs.FlowLemmas.{IsFlow, can-hold, cannot-hold, still_free}
use Rattle.assign_flow.proofs.RerouteLemmas.{changes-none}
use Rattle.assign_flow.proofs.SettleLemmas.{meets-rerouted}
use Rattle.assign_flow.proofs.flow.Flow.settle.Goals as goal

pub invariant_of-self : goal.invariant_of-self
invariant_of-self c =
    let i = c.self.inside in
    let f : FlowParts = record { needs = i.need.items; rooms = i.room.items; may = i.may; held = i.ways.held; free = i.ways.free } in
    let inv = c.self.invariant in
    let d = flow_demand f in
    let held = c.hold-kept.new.ways in
    let last = c.settle.new.self in
    let P : Square → Type 0 = λ s. IsTrue (is_met d (cell s)) in
    let Q : ℕ → Type 0 = λ n. IsRerouted n (cell i.ways.free) (cell i.ways.held) (cell held.held) c.args.reviewer c.args.proposal in
    let same_held : last.held ≡ held.held = c.settle.ensures.held in
    let side : last.free.side ≡ i.ways.free.side = c.settle.ensures.side ∙ ap (λ s. s.side) c.hold-kept.ensures.free in
    let fewer : (r p : ℕ) → r < d.side → p < d.side → cell last.free r p ≡ true → cell i.ways.free r p ≡ true = λ r p l k e.
    ap (λ s. cell s r p) (sym c.hold-kept.ensures.free)
    ∙ still_free _ (cell held.free r p) (cell last.free r p) (c.settle.ensures.free r p (omega (arith, inv.0, ap (λ s. s.side) c.hold-kept.ensures.free)) (omega (arith, inv.0, ap (λ s. s.side) c.hold-kept.ensures.free))) e in
    let others : (r p : ℕ) → r < d.side → p < d.side → cell i.ways.free r p ≡ false → cell last.held r p ≡ cell i.ways.held r p = λ r p l k fixed.
    ap (λ s. cell s r p) same_held
    ∙ elim (cases_Bool c.hold-kept.result) [
      | inl kept ↦ (subst Q inv.0 (c.hold-kept.ensures.rerouted kept)).others r p l k fixed
      | inr out ↦ ap (λ w. cell w.held r p) (c.hold-kept.ensures.unchanged out)
    ] in
    let meets : IsTrue (is_met d (cell last.held)) = subst P (sym same_held) (elim (cases_Bool c.hold-kept.result) [
      | inl kept ↦ is_met-from d (cell held.held) (meets-rerouted d (cell i.ways.free) (cell i.ways.held) (cell held.held) c.args.reviewer c.args.proposal
          (is_met-each d (cell i.ways.held) inv.2) inv.3 (subst Q inv.0 (c.hold-kept.ensures.rerouted kept)))
      | inr out ↦ subst P (sym (ap (λ w. w.held) (c.hold-kept.ensures.unchanged out))) inv.2
    ]) in (
      side ∙ inv.0,
      c.hold-kept.ensures.side ∙ inv.1,
      meets,
      λ r p l k e. inv.3 r p l k (fewer r p l k e),
      closed-settled d i.ways.free i.ways.held last.free last.held (places_of c.hold-kept.new.closed.reviewers) (places_of c.hold-kept.new.closed.proposals)
          inv.0 (side ∙ inv.0) (is_met-each d (cell i.ways.held) inv.2) (is_met-each d (cell last.held) meets) others fewer c.hold-kept.ensures.closed,
    )

pub returns-clause-kept_where_some_hold_it : goal.returns-clause-kept_where_some_hold_it
returns-clause-kept_where_some_hold_it c =
    let i = c.self.inside in
    let f : FlowParts = record { needs = i.need.items; rooms = i.room.items; may = i.may; held = i.ways.held; free = i.ways.free } in
    let inv = c.self.invariant in
    let flow : IsFlow f = record { free_side = inv.0; meets = inv.2; inside = inv.3 } in
    let may_side : i.may.side ≡ c.args.self.now.may.side = ap (λ s. s.may.side) c.self.view_is in
    rw (← c.self.view_is) (
      λ kept. can-hold f (cell c.hold-kept.new.ways.held) c.args.reviewer c.args.proposal flow (c.hold-kept.ensures.rerouted kept),
      λ can. true_from_ne_false c.hold-kept.result (λ out.
          cannot-hold f c.args.reviewer c.args.proposal flow (c.hold-kept.ensures.blocked out) (omega (arith, c.requires.reviewer_below)) (omega (arith, c.requires.proposal_below)) (c.hold-kept.ensures.new out) can),
    )

pub returns-clause-changes_few : goal.returns-clause-changes_few
returns-clause-changes_few c =
    let i = c.self.inside in
    let inv = c.self.invariant in
    let P : Square → Type 0 = λ s. ChangesFew i.may.side (cell i.ways.held) (cell s) in
    let Q : ℕ → Type 0 = λ n. ChangesFew n (cell i.ways.held) (cell c.hold-kept.new.ways.held) in
    rw (← c.self.view_is) (subst P (sym c.settle.ensures.held) (elim (cases_Bool c.hold-kept.result) [
      | inl kept ↦ subst Q inv.0 (c.hold-kept.ensures.rerouted kept).few
      | inr out ↦ subst P (sym (ap (λ w. w.held) (c.hold-kept.ensures.unchanged out))) (changes-none i.may.side (cell i.ways.held))
    ]))
