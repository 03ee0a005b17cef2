use Rattle.std.proofs.Common.{ap, length, arith}
use Rattle.register_book.proofs.SeenLemmas.{applicants_seen, persons_seen, owner_below, owner_person_number, owner_person}
use Rattle.register_book.proofs.book.Book.person_of.Goals as goal

pub person_of-requires : goal.person_of-requires
person_of-requires c = omega (arith, ap length (applicants_seen _ _ _ _ _ c.self.view_is), c.requires)

pub returns-clause-value : goal.returns-clause-value
returns-clause-value c =
    owner_person_number c.self.inside.roll c.args.self.now (applicants_seen _ _ _ _ _ c.self.view_is) (persons_seen _ _ _ _ _ c.self.view_is)
    c.args.number c.person_of.result c.requires c.person_of.ensures

pub returns-clause-person : goal.returns-clause-person
returns-clause-person c =
    owner_person c.self.inside.roll c.args.self.now (applicants_seen _ _ _ _ _ c.self.view_is) (persons_seen _ _ _ _ _ c.self.view_is)
    c.args.number c.person_of.result c.requires c.person_of.ensures

pub returns-clause-below : goal.returns-clause-below
returns-clause-below c =
    owner_below c.self.inside.roll c.args.self.now (applicants_seen _ _ _ _ _ c.self.view_is) (persons_seen _ _ _ _ _ c.self.view_is)
    c.args.number c.person_of.result c.requires c.person_of.ensures
