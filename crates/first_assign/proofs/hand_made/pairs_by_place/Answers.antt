use Rattle.std.proofs.Common.{◌≡◌, sym, ap, ◌∙◌, arith, [], Some, ◌||◌, ◌&&◌, ◌==◌, bytes_eq, slice_get, get_or}
use Rattle.std.proofs.lemmas.Option.{get_or_from_slice_get}
use Rattle.house_base.specs.Grid.{cell}
use Rattle.house_base.specs.Setting.{name_at}
use Rattle.house_model.specs.Register.{names, persons, reviewer_at}
use Rattle.house_model.proofs.AtIndexLemmas.{In-slice_get}
use Rattle.first_assign.proofs.MarkLemmas.{reviewer_found, proposal_found, marked, name_pair-none, name_pair-more}
use Rattle.first_assign.proofs.PlaceLemmas.{person_formed, first_below}
use Rattle.first_assign.proofs.hand_made.pairs_by_place.Goals as goal

pub loop-index-init : goal.loop-index-init
loop-index-init c = record {
  side = c.in_ok-grid.ensures.side ∙ c.count.ensures.value;
  cells = λ r p rl pl. c.in_ok-grid.ensures.empty r p ∙ sym (name_pair-none c.args.plan.now r p);
}

pub set-requires-clause-row_below : goal.set-requires-clause-row_below
set-requires-clause-row_below c =
    let who = c.in_ok-places.ensures.places.first c.pair_at-person.result.0 c.pair_at-person.ensures.person_below in
    let first = get_or_from_slice_get c.in_ok-places.places.items c.pair_at-person.result.0 who.0.first c.index.result.now who.3 in
    omega (arith, c.index.ensures, first, first_below c.args.plan.now who.0 c.count.ensures.setting who.1, c.loop-index.invariant.side)

pub loop-index-preserved : goal.loop-index-preserved
loop-index-preserved c =
    let s = c.args.plan.now in
    let reg = c.args.book.now in
    let person = c.pair_at-person.result.0 in
    let number = c.pair_at-person.result.1 in
    let place = c.at_number.result in
    let who = c.in_ok-places.ensures.places.first person c.pair_at-person.ensures.person_below in
    let owner = who.0 in
    let reviewer = c.index.ensures ∙ get_or_from_slice_get c.in_ok-places.places.items person owner.first c.index.result.now who.3 in
    let person_name : get_or (persons reg) person [] ≡ owner.name = get_or_from_slice_get (persons reg) person owner.name [] who.2 in
    let listed : slice_get (names reg) number ≡ Some (name_at s place) = ap (slice_get (names reg)) (sym c.at_number.ensures.number) ∙ c.requires.names.names place c.at_number.ensures.below in
    let proposal_name : get_or (names reg) number [] ≡ name_at s place = get_or_from_slice_get (names reg) number (name_at s place) [] listed in
    let pair : slice_get reg.pairs c.loop-index.index ≡ Some (owner.name, name_at s place) =
    c.pair_at-person.ensures.names ∙ (ap (λ t. Some (t, get_or (names reg) number [])) person_name ∙ ap (λ t. Some (owner.name, t)) proposal_name) in
    let formed = person_formed reg owner.name c.in_ok-places.ensures.register (In-slice_get (persons reg) person owner.name who.2) in
    record {
      side = c.set.ensures.side ∙ c.loop-index.invariant.side;
      cells = λ r p rl pl.
          c.set.ensures.cells r p (omega (arith, rl, c.loop-index.invariant.side)) (omega (arith, pl, c.loop-index.invariant.side))
          ∙ (marked (cell c.loop-index.grid r p) (r == c.index.result.now) (p == place) (bytes_eq owner.name (reviewer_at s r)) (bytes_eq (name_at s place) (name_at s p))
          (ap (λ n. r == n) reviewer ∙ reviewer_found s owner c.count.ensures.setting who.1 formed r)
          (proposal_found s place c.count.ensures.setting c.at_number.ensures.below p pl)
          ∙ (ap (λ b. b || (bytes_eq owner.name (reviewer_at s r) && bytes_eq (name_at s place) (name_at s p))) (c.loop-index.invariant.cells r p rl pl)
          ∙ sym (name_pair-more reg.pairs c.loop-index.index (owner.name, name_at s place) s r p pair)));
    }
