use Rattle.std.proofs.Common.{get_or, sym, ap, ◌∙◌}
use Rattle.std.proofs.lemmas.Bool.{false≢true, false_from_ne_true}
use Rattle.house_base.specs.Grid.{cell}
use Rattle.peer_selection.specs.FirstAssignment.{first_assignment, has_assignment}
use Rattle.peer_selection.specs.Shortage.{assignment_demand}
use Rattle.peer_selection.proofs.FirstAmongLemmas.{first_assignment-first, has_assignment-exact}
use Rattle.cut_gap.specs.Cut.{demand_of, marked}
use Rattle.first_assign.proofs.DemandLemmas.{asks-assignment, met-same, met-valid, shortage-same}
use Rattle.first_assign.proofs.feasibility.shortage.Goals as goal

pub returns-in-Pairs-clause-some : goal.returns-in-Pairs-clause-some
returns-in-Pairs-clause-some c =
    let s = c.args.plan.now in
    let d = demand_of c.deref.result.now c.deref-2.result.now c.in_ok-allowed.allowed in
    let asks = asks-assignment s c.deref.result.now c.deref-2.result.now c.in_ok-allowed.allowed c.in_ok-allowed.ensures.side
    (λ r l. ap (λ xs. get_or xs r 0) c.deref.ensures.value ∙ c.in_ok-needs.ensures.needs r l)
    (λ p l. ap (λ xs. get_or xs p 0) c.deref-2.ensures.value ∙ c.in_ok-rooms.ensures.rooms p l)
    c.in_ok-allowed.ensures.pairs in
    let pairs = cell c.in-Pairs.field-0 in
    has_assignment-exact s pairs (sym (met-valid s pairs) ∙ (sym (met-same d (assignment_demand s) asks pairs) ∙ (rw c.in-Pairs.is at c.in_ok-solve.ensures.pairs_meet_all)))

pub returns-clause-none : goal.returns-clause-none
returns-clause-none c =
    let s = c.args.plan.now in
    let d = demand_of c.deref.result.now c.deref-2.result.now c.in_ok-allowed.allowed in
    let none = rw c.in-Short.is at c.in_ok-solve.ensures.short_where_none_do in
    let asks = asks-assignment s c.deref.result.now c.deref-2.result.now c.in_ok-allowed.allowed c.in_ok-allowed.ensures.side
    (λ r l. ap (λ xs. get_or xs r 0) c.deref.ensures.value ∙ c.in_ok-needs.ensures.needs r l)
    (λ p l. ap (λ xs. get_or xs p 0) c.deref-2.ensures.value ∙ c.in_ok-rooms.ensures.rooms p l)
    c.in_ok-allowed.ensures.pairs in
    let pairs = first_assignment s in
    false_from_ne_true (has_assignment s) (λ some. false≢true (sym (none pairs) ∙ (met-same d (assignment_demand s) asks pairs ∙ (met-valid s pairs ∙ (first_assignment-first s some).valid))))

pub returns-clause-cut_is_shortage : goal.returns-clause-cut_is_shortage
returns-clause-cut_is_shortage c =
    let s = c.args.plan.now in
    let d = demand_of c.deref.result.now c.deref-2.result.now c.in_ok-allowed.allowed in
    let asks = asks-assignment s c.deref.result.now c.deref-2.result.now c.in_ok-allowed.allowed c.in_ok-allowed.ensures.side
    (λ r l. ap (λ xs. get_or xs r 0) c.deref.ensures.value ∙ c.in_ok-needs.ensures.needs r l)
    (λ p l. ap (λ xs. get_or xs p 0) c.deref-2.ensures.value ∙ c.in_ok-rooms.ensures.rooms p l)
    c.in_ok-allowed.ensures.pairs in
    shortage-same d (assignment_demand s) asks (marked c.in-Short.cut.reviewers) (marked c.in-Short.cut.proposals) (rw c.in-Short.is at c.in_ok-solve.ensures.cut_is_shortage)
