use Rattle.std.proofs.Common.{ℕ, ◌<◌, get_or, sym, ap, ◌∙◌, arith}
use Rattle.house_base.specs.Grid.{cell}
use Rattle.house_base.specs.Setting.{size}
use Rattle.peer_selection.specs.Shortage.{assignment_demand}
use Rattle.peer_selection.proofs.FirstAmongLemmas.{has_assignment-exact, has_assignment-missing, first_assignment-same}
use Rattle.cut_gap.specs.Cut.{demand_of, marked}
use Rattle.assign_flow.specs.Flow.{flow_demand}
use Rattle.first_assign.proofs.DemandLemmas.{asks-assignment, met-same, met-valid, shortage-same}
use Rattle.first_assign.proofs.computed.first.Goals as goal

pub first_pairs-requires : goal.first_pairs-requires
first_pairs-requires c =
    let s = c.args.plan.now in
    let f = c.in-Ready.flow in
    let needs = rw c.in-Ready.is at c.in_ok-flow.ensures.needs in
    let rooms = rw c.in-Ready.is at c.in_ok-flow.ensures.rooms in
    let side = (rw c.in-Ready.is at c.in_ok-flow.ensures.side) ∙ c.in_ok-allowed.ensures.side in
    let cells = rw c.in-Ready.is at c.in_ok-flow.ensures.allowed in
    let none = rw c.in-Ready.is at c.in_ok-flow.ensures.nothing_is_settled in
    let each_need = λ (r : ℕ) (l : r < size s). ap (λ xs. get_or xs r 0) (needs ∙ c.deref.ensures.value) ∙ c.in_ok-needs.ensures.needs r l in
    let each_room = λ (p : ℕ) (l : p < size s). ap (λ xs. get_or xs p 0) (rooms ∙ c.deref-2.ensures.value) ∙ c.in_ok-rooms.ensures.rooms p l in
    let each_pair = λ (r : ℕ) (p : ℕ) (l : r < size s) (k : p < size s). cells r p (omega (arith, l, c.in_ok-allowed.ensures.side)) (omega (arith, k, c.in_ok-allowed.ensures.side)) ∙ c.in_ok-allowed.ensures.pairs r p l k in
    record {
      allowed = record { side = c.in_ok-allowed.ensures.side; pairs = c.in_ok-allowed.ensures.pairs };
      flow = record {
        flow = record {
          side = side;
          allowed = each_pair;
          meets = λ y. met-same (flow_demand f) (assignment_demand s) (asks-assignment s f.needs f.rooms f.may side each_need each_room each_pair) y ∙ met-valid s y;
        };
        unsettled = λ r p l k. none r p (omega (arith, l, c.in_ok-allowed.ensures.side)) (omega (arith, k, c.in_ok-allowed.ensures.side));
      };
    }

pub returns-clause-short_where_none_is_valid : goal.returns-clause-short_where_none_is_valid
returns-clause-short_where_none_is_valid c =
    let s = c.args.plan.now in
    let d = demand_of c.deref.result.now c.deref-2.result.now c.in_ok-allowed.allowed in
    let none = rw c.in-Short.is at c.in_ok-flow.ensures.short_where_none_do in
    let asks = asks-assignment s c.deref.result.now c.deref-2.result.now c.in_ok-allowed.allowed c.in_ok-allowed.ensures.side
    (λ r l. ap (λ xs. get_or xs r 0) c.deref.ensures.value ∙ c.in_ok-needs.ensures.needs r l)
    (λ p l. ap (λ xs. get_or xs p 0) c.deref-2.ensures.value ∙ c.in_ok-rooms.ensures.rooms p l)
    c.in_ok-allowed.ensures.pairs in
    λ pairs. sym (met-valid s pairs) ∙ (sym (met-same d (assignment_demand s) asks pairs) ∙ none pairs)

pub returns-clause-cut_is_shortage : goal.returns-clause-cut_is_shortage
returns-clause-cut_is_shortage c =
    let s = c.args.plan.now in
    let d = demand_of c.deref.result.now c.deref-2.result.now c.in_ok-allowed.allowed in
    let asks = asks-assignment s c.deref.result.now c.deref-2.result.now c.in_ok-allowed.allowed c.in_ok-allowed.ensures.side
    (λ r l. ap (λ xs. get_or xs r 0) c.deref.ensures.value ∙ c.in_ok-needs.ensures.needs r l)
    (λ p l. ap (λ xs. get_or xs p 0) c.deref-2.ensures.value ∙ c.in_ok-rooms.ensures.rooms p l)
    c.in_ok-allowed.ensures.pairs in
    shortage-same d (assignment_demand s) asks (marked c.in-Short.cut.reviewers) (marked c.in-Short.cut.proposals) (rw c.in-Short.is at c.in_ok-flow.ensures.cut_is_shortage)

pub returns-clause-none : goal.returns-clause-none
returns-clause-none c = has_assignment-missing c.args.plan.now (returns-clause-short_where_none_is_valid c)

pub returns-in-Ready-clause-some : goal.returns-in-Ready-clause-some
returns-in-Ready-clause-some c =
    has_assignment-exact c.args.plan.now (cell c.in_ok-first_pairs-in-Ready.field-0) c.in_ok-first_pairs-in-Ready.ensures.first.valid

pub returns-in-Ready-clause-value : goal.returns-in-Ready-clause-value
returns-in-Ready-clause-value c = λ r p rl pl.
    sym (first_assignment-same c.args.plan.now (cell c.in_ok-first_pairs-in-Ready.field-0) c.in_ok-first_pairs-in-Ready.ensures.first r p rl pl)
