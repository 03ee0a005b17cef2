use Rattle.std.proofs.Common.{ap, ◌∙◌, arith, length, position, bytes_eq}
use Rattle.register_book.specs.Roll.{own_in, persons_in}
use Rattle.name_index.proofs.IndexLemmas.{number_from_position}
use Rattle.register_book.proofs.RollLemmas.{own_in-at, IsRoll-known}
use Rattle.register_book.proofs.roll.Roll.add_to_known.Goals as goal

pub overflow_add-index_mut : goal.overflow_add-index_mut
overflow_add-index_mut c =
    let counted = own_in-at c.self.inside.applicants.items c.args.person c.args.number c.index_mut.result.now c.self.inside.own.items c.self.invariant.own_are
    (ap (λ xs. position (bytes_eq c.args.person) (persons_in xs)) c.self.view_is ∙ c.requires.known) c.index_mut.ensures.value in
    omega (arith, counted, ap (λ xs. own_in xs c.args.person) c.self.view_is, c.requires.few_own)

pub invariant_of-self-2 : goal.invariant_of-self-2
invariant_of-self-2 c =
    let found = ap (λ xs. position (bytes_eq c.args.person) (persons_in xs)) c.self.view_is ∙ c.requires.known in
    let number = number_from_position (persons_in c.self.inside.applicants.items) c.args.person c.args.number found in
    rw (c.push_reserved.ensures.items, c.reserve.ensures.items, c.in_ok-add.ensures.added, c.push_reserved-2.ensures.items, c.reserve-2.ensures.items)
    (IsRoll-known c.self.inside.applicants.items c.self.inside.names c.self.inside.persons c.self.inside.owners.items c.self.inside.own.items c.self.invariant
    (c.args.name, c.args.person) (omega (arith, ap length c.self.view_is, c.requires.few)) c.args.number c.index_mut.result.now number.0 number.1
    (own_in-at c.self.inside.applicants.items c.args.person c.args.number c.index_mut.result.now c.self.inside.own.items c.self.invariant.own_are
    found c.index_mut.ensures.value))
