use Rattle.std.proofs.Common.{refl, sym, ap, ◌∙◌}
use Rattle.std.proofs.lemmas.Bool.{false≢true}
use Rattle.register_book.specs.Held.{register_of}
use Rattle.register_book.proofs.KeptLemmas.{IsBook-conflict, register_of-conflict, with_barred}
use Rattle.register_book.proofs.PairSeenLemmas.{held_already, person_unknown, name_unknown, both_known, column_within, numbers_within, barred_by_bit, barred_more}
use Rattle.register_book.proofs.book.Book.conflict.Goals as goal

pub returns-in_default-clause-unknown : goal.returns-in_default-clause-unknown
returns-in_default-clause-unknown c =
    (λ e. person_unknown _ _ _ _ _ c.self.view_is c.args.person c.args.proposal (sym c.in_default.ensures.known), λ t. refl)

pub returns-in_default-find-clause-unknown : goal.returns-in_default-find-clause-unknown
returns-in_default-find-clause-unknown c =
    (λ e. name_unknown _ _ _ _ _ c.self.view_is c.args.person c.args.proposal (sym c.in_default-find.ensures.known), λ t. refl)

pub has-requires : goal.has-requires
has-requires c =
    column_within _ _ _ _ _ c.self.view_is c.self.invariant c.args.person c.args.proposal c.in-Some.reviewer c.in-Some-find.applicant
    (sym c.in-Some.ensures.number) (sym c.in-Some-find.ensures.number)

pub set-requires-clause-column_below : goal.set-requires-clause-column_below
set-requires-clause-column_below c =
    column_within _ _ _ _ _ c.self.view_is c.self.invariant c.args.person c.args.proposal c.in-Some.reviewer c.in-Some-find.applicant
    (sym c.in-Some.ensures.number) (sym c.in-Some-find.ensures.number)

pub invariant_of-self : goal.invariant_of-self
invariant_of-self c =
    let within = numbers_within _ _ _ _ _ c.self.view_is c.self.invariant c.args.person c.args.proposal c.in-Some.reviewer c.in-Some-find.applicant
    (sym c.in-Some.ensures.number) (sym c.in-Some-find.ensures.number) in
    IsBook-conflict _ _ c.self.inside.conflicts _ c.self.invariant c.set.new.self c.in-Some.reviewer c.in-Some-find.applicant
    c.set.ensures.length c.set.ensures.bits within.0 within.1

pub returns-then-not-has-clause-only_conflicts : goal.returns-then-not-has-clause-only_conflicts
returns-then-not-has-clause-only_conflicts c =
    let more = register_of c.self.inside.roll c.self.inside.places c.set.new.self c.self.inside.pairs in
    register_of-conflict c.self.inside.roll c.self.inside.places c.self.inside.conflicts c.set.new.self c.self.inside.pairs
    ∙ ap (with_barred more.barred) c.self.view_is

pub returns-then-not-has-clause-barred : goal.returns-then-not-has-clause-barred
returns-then-not-has-clause-barred c =
    barred_more _ _ _ _ _ c.self.view_is c.self.invariant c.args.person c.args.proposal c.in-Some.reviewer c.in-Some-find.applicant
    (sym c.in-Some.ensures.number) (sym c.in-Some-find.ensures.number) c.set.new.self c.set.ensures.bits

pub returns-then-not-has-clause-repeated : goal.returns-then-not-has-clause-repeated
returns-then-not-has-clause-repeated c = λ held.
    absurd (false≢true (c.if-not-has.ensures
    ∙ (sym (barred_by_bit _ _ _ _ _ c.self.view_is c.self.invariant c.args.person c.args.proposal c.in-Some.reviewer c.in-Some-find.applicant
    (sym c.in-Some.ensures.number) (sym c.in-Some-find.ensures.number)) ∙ held)))

pub returns-then-not-has-clause-unknown : goal.returns-then-not-has-clause-unknown
returns-then-not-has-clause-unknown c =
    (λ e. cc, λ t. absurd (both_known _ _ _ _ _ c.self.view_is c.args.person c.args.proposal (sym c.in-Some.ensures.known) (sym c.in-Some-find.ensures.known) t))

pub returns-else-not-has-clause-barred : goal.returns-else-not-has-clause-barred
returns-else-not-has-clause-barred c =
    held_already c.args.self.now.barred c.args.person c.args.proposal
    (barred_by_bit _ _ _ _ _ c.self.view_is c.self.invariant c.args.person c.args.proposal c.in-Some.reviewer c.in-Some-find.applicant
    (sym c.in-Some.ensures.number) (sym c.in-Some-find.ensures.number) ∙ sym c.if-not-has.ensures)

pub returns-else-not-has-clause-unknown : goal.returns-else-not-has-clause-unknown
returns-else-not-has-clause-unknown c =
    (λ e. cc, λ t. absurd (both_known _ _ _ _ _ c.self.view_is c.args.person c.args.proposal (sym c.in-Some.ensures.known) (sym c.in-Some-find.ensures.known) t))
