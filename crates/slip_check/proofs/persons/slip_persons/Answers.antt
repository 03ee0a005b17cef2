use Rattle.std.proofs.Common.{◌≡◌, ◌∙◌, refl, sym, [], Some, None}
use Rattle.command_text.specs.Strict.{row_of}
use Rattle.slip_check.proofs.OpenedLemmas.{den_is, fault_at_first, fault_at_second, fault_of_nothing, fault_without_second, opened, persons_at}
use Rattle.slip_check.proofs.persons.slip_persons.Goals as goal

pub returns-in_err-line-clause-formed : goal.returns-in_err-line-clause-formed
returns-in_err-line-clause-formed c = λ free none. absurd (let wrong : Some 1 ≡ None = sym (fault_of_nothing c.args.bytes.now c.in_err-line.ensures.none) ∙ free in cc)

pub returns-in_err-head-clause-formed : goal.returns-in_err-head-clause-formed
returns-in_err-head-clause-formed c = λ free none.
    absurd (let wrong : Some 1 ≡ None = sym (fault_at_first c.args.bytes.now c.in_ok-line.line.now c.in_ok-line.rest.now c.in_ok-line.ensures.found (c.in_err-head.ensures.none [] refl)) ∙ free in cc)

pub returns-in_err-line-2-clause-formed : goal.returns-in_err-line-2-clause-formed
returns-in_err-line-2-clause-formed c = λ free none.
    absurd (let wrong : Some 2 ≡ None = sym (fault_without_second c.args.bytes.now c.in_ok-line.line.now c.in_ok-line.rest.now c.in_ok-line.ensures.found (c.in_ok-head.ensures.form [] refl) c.in_err-line-2.ensures.none) ∙ free in cc)

pub returns-in_err-sizes-clause-formed : goal.returns-in_err-sizes-clause-formed
returns-in_err-sizes-clause-formed c = λ free none.
    absurd (let wrong : Some 2 ≡ None =
    sym (fault_at_second c.args.bytes.now c.in_ok-line.line.now c.in_ok-line.rest.now c.in_ok-line-2.line.now c.in_ok-line-2.field-0-1.now c.in_ok-line.ensures.found (c.in_ok-head.ensures.form [] refl) c.in_ok-line-2.ensures.found
    (c.in_err-sizes.ensures.none _ refl (den_is (row_of c.in_ok-line.line.now) c.in_ok-head.head.share.den c.in_ok-head.ensures.den))) ∙ free in cc)

pub returns-clause-said : goal.returns-clause-said
returns-clause-said c =
    persons_at c.args.bytes.now c.in_ok-line-2.field-0-1.now (row_of c.in_ok-line.line.now) (row_of c.in_ok-line-2.line.now) c.in_ok-sizes.sizes.persons
    (opened c.args.bytes.now c.in_ok-line.line.now c.in_ok-line.rest.now c.in_ok-line-2.line.now c.in_ok-line-2.field-0-1.now c.in_ok-line.ensures.found c.in_ok-line-2.ensures.found (c.in_ok-head.ensures.form [] refl)
    (c.in_ok-sizes.ensures.form _ refl (den_is (row_of c.in_ok-line.line.now) c.in_ok-head.head.share.den c.in_ok-head.ensures.den)))
    c.in_ok-sizes.ensures.persons
