use Rattle.std.proofs.Common.{◌≡◌, ◌≤◌, sym, ◌∙◌, arith, Some, None}
use Rattle.std.proofs.lemmas.Bool.{le-leb, lt-leb}
use Rattle.house_base.specs.Number.{number_up_to}
use Rattle.command_text.proofs.NumberLemmas.{number_at_most, number_is, within_is, within_none}
use Rattle.slip_check.proofs.word.read_within.Goals as goal

pub returns-in_default-clause-none : goal.returns-in_default-clause-none
returns-in_default-clause-none c =
    let none : number_up_to c.args.high c.args.word.now ≡ None = rw c.from.ensures at (sym c.in_default.ensures) in
    within_none c.args.low c.args.high c.args.word.now none

pub returns-then-number-from-clause-none : goal.returns-then-number-from-clause-none
returns-then-number-from-clause-none c =
    let some : number_up_to c.args.high c.args.word.now ≡ Some c.in-Some.number = rw c.from.ensures at (sym c.in-Some.ensures) in
    within_is c.args.low c.args.high c.in-Some.number c.args.word.now some ∙ lt-leb _ _ (omega arith)

pub overflow_cast-result : goal.overflow_cast-result
overflow_cast-result c =
    let some : number_up_to c.args.high c.args.word.now ≡ Some c.in-Some.number = rw c.from.ensures at (sym c.in-Some.ensures) in
    omega (arith, number_at_most c.args.high c.in-Some.number c.args.word.now some, c.ranges.high.fits)

pub returns-clause-form : goal.returns-clause-form
returns-clause-form c =
    let some : number_up_to c.args.high c.args.word.now ≡ Some c.in-Some.number = rw c.from.ensures at (sym c.in-Some.ensures) in
    let low : c.args.low ≤ c.in-Some.number = omega arith in
    within_is c.args.low c.args.high c.in-Some.number c.args.word.now some ∙ le-leb _ _ low

pub returns-clause-value : goal.returns-clause-value
returns-clause-value c =
    let some : number_up_to c.args.high c.args.word.now ≡ Some c.in-Some.number = rw c.from.ensures at (sym c.in-Some.ensures) in
    sym (number_is c.args.high c.in-Some.number c.args.word.now (omega (arith, c.ranges.high.fits)) some)

pub returns-clause-high : goal.returns-clause-high
returns-clause-high c =
    let some : number_up_to c.args.high c.args.word.now ≡ Some c.in-Some.number = rw c.from.ensures at (sym c.in-Some.ensures) in
    number_at_most c.args.high c.in-Some.number c.args.word.now some
