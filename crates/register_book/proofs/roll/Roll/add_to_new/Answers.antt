use Rattle.std.proofs.Common.{ap, ◌∙◌, arith, length}
use Rattle.house_base.specs.Text.{among}
use Rattle.register_book.specs.Roll.{persons_in}
use Rattle.register_book.proofs.RollLemmas.{length-persons_in, IsRoll-new}
use Rattle.register_book.proofs.roll.Roll.add_to_new.Goals as goal

pub add_both-requires-clause-few_persons : goal.add_both-requires-clause-few_persons
add_both-requires-clause-few_persons c =
    omega (arith, ap length c.self.invariant.persons_are, length-persons_in c.self.inside.applicants.items, ap length c.self.view_is, c.requires.few)

pub invariant_of-self-2 : goal.invariant_of-self-2
invariant_of-self-2 c =
    rw (
      c.push_reserved.ensures.items,
      c.reserve.ensures.items,
      c.in_ok-add_both.ensures.added,
      c.in_ok-add_both.ensures.added_person,
      c.push_reserved-2.ensures.items,
      c.reserve-2.ensures.items,
      c.push_reserved-3.ensures.items,
      c.reserve-3.ensures.items,
    )
    (IsRoll-new c.self.inside.applicants.items c.self.inside.names c.self.inside.persons c.self.inside.owners.items c.self.inside.own.items c.self.invariant
    (c.args.name, c.args.person) (omega (arith, ap length c.self.view_is, c.requires.few)) c.len-number.result
    (ap (λ xs. among (persons_in xs) c.args.person) c.self.view_is ∙ c.requires.unknown_person)
    (c.len-number.ensures.value ∙ ap length c.self.invariant.persons_are))
