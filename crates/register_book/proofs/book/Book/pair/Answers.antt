use Rattle.std.proofs.Common.{refl, sym, ap, ◌∙◌}
use Rattle.std.proofs.lemmas.Bool.{false≢true}
use Rattle.std.proofs.lemmas.Result.{err_from_is_err_and}
use Rattle.house_model.proofs.RegisterLemmas.{with_pair}
use Rattle.register_book.specs.Held.{text_at}
use Rattle.register_book.specs.Roll.{names_in, persons_in}
use Rattle.register_book.proofs.KeptLemmas.{IsBook-pair, register_of-pair}
use Rattle.register_book.proofs.PairSeenLemmas.{person_unknown, name_unknown, both_known, column_within, numbers_within, pair_by_numbers, pair_is_known}
use Rattle.register_book.proofs.SeenLemmas.{found_at}
use Rattle.register_book.proofs.book.Book.pair.Goals as goal

pub returns-in_default-clause-known : goal.returns-in_default-clause-known
returns-in_default-clause-known c = (
  λ e. cc,
  λ held. absurd (false≢true (c.in_default.ensures.known
      ∙ (pair_is_known _ _ _ _ _ c.self.view_is c.self.invariant c.args.person c.args.proposal held).0)),
)

pub returns-in_default-clause-unknown : goal.returns-in_default-clause-unknown
returns-in_default-clause-unknown c =
    (λ e. person_unknown _ _ _ _ _ c.self.view_is c.args.person c.args.proposal (sym c.in_default.ensures.known), λ t. refl)

pub returns-in_default-find-clause-known : goal.returns-in_default-find-clause-known
returns-in_default-find-clause-known c = (
  λ e. cc,
  λ held. absurd (false≢true (c.in_default-find.ensures.known
      ∙ (pair_is_known _ _ _ _ _ c.self.view_is c.self.invariant c.args.person c.args.proposal held).1)),
)

pub returns-in_default-find-clause-unknown : goal.returns-in_default-find-clause-unknown
returns-in_default-find-clause-unknown c =
    (λ e. name_unknown _ _ _ _ _ c.self.view_is c.args.person c.args.proposal (sym c.in_default-find.ensures.known), λ t. refl)

pub has-requires : goal.has-requires
has-requires c =
    column_within _ _ _ _ _ c.self.view_is c.self.invariant c.args.person c.args.proposal c.in-Some.reviewer c.in-Some-find.applicant
    (sym c.in-Some.ensures.number) (sym c.in-Some-find.ensures.number)

pub returns-then-has-clause-known : goal.returns-then-has-clause-known
returns-then-has-clause-known c = (
  λ e. pair_by_numbers _ _ _ _ _ c.self.view_is c.self.invariant c.args.person c.args.proposal c.in-Some.reviewer c.in-Some-find.applicant
      (sym c.in-Some.ensures.number) (sym c.in-Some-find.ensures.number) ∙ sym c.if-has.ensures,
  λ t. refl,
)

pub returns-then-has-clause-unknown : goal.returns-then-has-clause-unknown
returns-then-has-clause-unknown c =
    (λ e. cc, λ t. absurd (both_known _ _ _ _ _ c.self.view_is c.args.person c.args.proposal (sym c.in-Some.ensures.known) (sym c.in-Some-find.ensures.known) t))

pub add-requires-clause-column : goal.add-requires-clause-column
add-requires-clause-column c =
    column_within _ _ _ _ _ c.self.view_is c.self.invariant c.args.person c.args.proposal c.in-Some.reviewer c.in-Some-find.applicant
    (sym c.in-Some.ensures.number) (sym c.in-Some-find.ensures.number)

pub returns-in_err-add-clause-known : goal.returns-in_err-add-clause-known
returns-in_err-add-clause-known c =
    let new = pair_by_numbers _ _ _ _ _ c.self.view_is c.self.invariant c.args.person c.args.proposal c.in-Some.reviewer c.in-Some-find.applicant
    (sym c.in-Some.ensures.number) (sym c.in-Some-find.ensures.number) ∙ sym c.if-has.ensures in
    let p = err_from_is_err_and c.from_residual.result c.from_residual.ensures.1 in
    rw (p.1, p.2) (λ e. cc, λ held. absurd (false≢true (sym new ∙ held)))

pub returns-in_err-add-clause-unknown : goal.returns-in_err-add-clause-unknown
returns-in_err-add-clause-unknown c =
    let p = err_from_is_err_and c.from_residual.result c.from_residual.ensures.1 in
    rw (p.1, p.2)
    (λ e. cc, λ t. absurd (both_known _ _ _ _ _ c.self.view_is c.args.person c.args.proposal (sym c.in-Some.ensures.known) (sym c.in-Some-find.ensures.known) t))

pub invariant_of-self-2 : goal.invariant_of-self-2
invariant_of-self-2 c =
    let within = numbers_within _ _ _ _ _ c.self.view_is c.self.invariant c.args.person c.args.proposal c.in-Some.reviewer c.in-Some-find.applicant
    (sym c.in-Some.ensures.number) (sym c.in-Some-find.ensures.number) in
    IsBook-pair _ _ _ c.self.inside.pairs c.self.invariant c.add.new.self c.in-Some.reviewer c.in-Some-find.applicant
    c.in_ok-add.ensures.added c.in_ok-add.ensures.rows within.0 within.1

pub returns-clause-added : goal.returns-clause-added
returns-clause-added c =
    let ps = persons_in c.self.inside.roll in
    let ns = names_in c.self.inside.roll in
    let i = c.in-Some.reviewer in
    let j = c.in-Some-find.applicant in
    register_of-pair c.self.inside.roll c.self.inside.places c.self.inside.conflicts c.self.inside.pairs c.self.invariant c.add.new.self i j c.in_ok-add.ensures.added
    ∙ (ap (λ reg. with_pair reg (text_at ps i) (text_at ns j)) c.self.view_is
    ∙ (ap (λ t. with_pair c.args.self.now t (text_at ns j)) (found_at ps c.args.person i (sym c.in-Some.ensures.number)).0
    ∙ ap (with_pair c.args.self.now c.args.person) (found_at ns c.args.proposal j (sym c.in-Some-find.ensures.number)).0))

pub returns-clause-known : goal.returns-clause-known
returns-clause-known c =
    let new = pair_by_numbers _ _ _ _ _ c.self.view_is c.self.invariant c.args.person c.args.proposal c.in-Some.reviewer c.in-Some-find.applicant
    (sym c.in-Some.ensures.number) (sym c.in-Some-find.ensures.number) ∙ sym c.if-has.ensures in
    (λ e. cc, λ held. absurd (false≢true (sym new ∙ held)))

pub returns-clause-unknown : goal.returns-clause-unknown
returns-clause-unknown c =
    (λ e. cc, λ t. absurd (both_known _ _ _ _ _ c.self.view_is c.args.person c.args.proposal (sym c.in-Some.ensures.known) (sym c.in-Some-find.ensures.known) t))
