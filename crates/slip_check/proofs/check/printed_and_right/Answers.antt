use Rattle.std.proofs.Common.{◌∙◌, refl, sym, []}
use Rattle.command_text.specs.Strict.{row_of}
use Rattle.slip_check.proofs.OpenedLemmas.{IsOpened, chance_is, den_is, fault_at_first, fault_at_second, fault_of_nothing, fault_without_second, opened, worth_at}
use Rattle.slip_check.proofs.check.printed_and_right.Goals as goal

pub returns-in_default-clause-bad : goal.returns-in_default-clause-bad
returns-in_default-clause-bad c =
    λ n e. fault_of_nothing c.args.bytes.now c.in_default.ensures.none ∙ cc

pub returns-in_default-read_head-clause-bad : goal.returns-in_default-read_head-clause-bad
returns-in_default-read_head-clause-bad c =
    λ n e. fault_at_first c.args.bytes.now c.in-Some.line.now c.in-Some.rest.now c.in-Some.ensures.found (c.in_default-read_head.ensures.none [] refl) ∙ cc

pub returns-in_default-first_fed_line-clause-bad : goal.returns-in_default-first_fed_line-clause-bad
returns-in_default-first_fed_line-clause-bad c =
    λ n e. fault_without_second c.args.bytes.now c.in-Some.line.now c.in-Some.rest.now c.in-Some.ensures.found (c.in-Some-read_head.ensures.form [] refl) c.in_default-first_fed_line.ensures.none ∙ cc

pub returns-in_default-read_sizes-clause-bad : goal.returns-in_default-read_sizes-clause-bad
returns-in_default-read_sizes-clause-bad c =
    λ n e. fault_at_second c.args.bytes.now c.in-Some.line.now c.in-Some.rest.now c.in-Some-first_fed_line.line.now c.in-Some-first_fed_line.rest.now c.in-Some.ensures.found (c.in-Some-read_head.ensures.form [] refl) c.in-Some-first_fed_line.ensures.found
    (c.in_default-read_sizes.ensures.none _ refl (den_is (row_of c.in-Some.line.now) c.in-Some-read_head.head.share.den c.in-Some-read_head.ensures.den)) ∙ cc

pub returns-in-Err-clause-bad : goal.returns-in-Err-clause-bad
returns-in-Err-clause-bad c =
    let o : IsOpened c.args.bytes.now c.in-Some-first_fed_line.rest.now (row_of c.in-Some.line.now) (row_of c.in-Some-first_fed_line.line.now) =
    opened c.args.bytes.now c.in-Some.line.now c.in-Some.rest.now c.in-Some-first_fed_line.line.now c.in-Some-first_fed_line.rest.now c.in-Some.ensures.found c.in-Some-first_fed_line.ensures.found (c.in-Some-read_head.ensures.form [] refl) (c.in-Some-read_sizes.ensures.form _ refl (den_is (row_of c.in-Some.line.now) c.in-Some-read_head.head.share.den c.in-Some-read_head.ensures.den)) in
    λ n e. o.fault ∙ c.in-Err.ensures.bad _ o.start n (cc)

pub worth-right-requires-clause-counted : goal.worth-right-requires-clause-counted
worth-right-requires-clause-counted c =
    let o : IsOpened c.args.bytes.now c.in-Some-first_fed_line.rest.now (row_of c.in-Some.line.now) (row_of c.in-Some-first_fed_line.line.now) =
    opened c.args.bytes.now c.in-Some.line.now c.in-Some.rest.now c.in-Some-first_fed_line.line.now c.in-Some-first_fed_line.rest.now c.in-Some.ensures.found c.in-Some-first_fed_line.ensures.found (c.in-Some-read_head.ensures.form [] refl) (c.in-Some-read_sizes.ensures.form _ refl (den_is (row_of c.in-Some.line.now) c.in-Some-read_head.head.share.den c.in-Some-read_head.ensures.den)) in
    (_, c.in-Ok.ensures.counted _ o.start)

pub returns-clause-formed : goal.returns-clause-formed
returns-clause-formed c =
    let o : IsOpened c.args.bytes.now c.in-Some-first_fed_line.rest.now (row_of c.in-Some.line.now) (row_of c.in-Some-first_fed_line.line.now) =
    opened c.args.bytes.now c.in-Some.line.now c.in-Some.rest.now c.in-Some-first_fed_line.line.now c.in-Some-first_fed_line.rest.now c.in-Some.ensures.found c.in-Some-first_fed_line.ensures.found (c.in-Some-read_head.ensures.form [] refl) (c.in-Some-read_sizes.ensures.form _ refl (den_is (row_of c.in-Some.line.now) c.in-Some-read_head.head.share.den c.in-Some-read_head.ensures.den)) in
    o.fault ∙ c.in-Ok.ensures.formed _ o.start

pub returns-clause-printed : goal.returns-clause-printed
returns-clause-printed c =
    let o : IsOpened c.args.bytes.now c.in-Some-first_fed_line.rest.now (row_of c.in-Some.line.now) (row_of c.in-Some-first_fed_line.line.now) =
    opened c.args.bytes.now c.in-Some.line.now c.in-Some.rest.now c.in-Some-first_fed_line.line.now c.in-Some-first_fed_line.rest.now c.in-Some.ensures.found c.in-Some-first_fed_line.ensures.found (c.in-Some-read_head.ensures.form [] refl) (c.in-Some-read_sizes.ensures.form _ refl (den_is (row_of c.in-Some.line.now) c.in-Some-read_head.head.share.den c.in-Some-read_head.ensures.den)) in
    sym (chance_is c.args.bytes.now c.in-Some-first_fed_line.rest.now (row_of c.in-Some.line.now) (row_of c.in-Some-first_fed_line.line.now) c.in-Some-read_head.head.share.chance o c.in-Some-read_head.ensures.chance)

pub returns-clause-worth : goal.returns-clause-worth
returns-clause-worth c =
    let o : IsOpened c.args.bytes.now c.in-Some-first_fed_line.rest.now (row_of c.in-Some.line.now) (row_of c.in-Some-first_fed_line.line.now) =
    opened c.args.bytes.now c.in-Some.line.now c.in-Some.rest.now c.in-Some-first_fed_line.line.now c.in-Some-first_fed_line.rest.now c.in-Some.ensures.found c.in-Some-first_fed_line.ensures.found (c.in-Some-read_head.ensures.form [] refl) (c.in-Some-read_sizes.ensures.form _ refl (den_is (row_of c.in-Some.line.now) c.in-Some-read_head.head.share.den c.in-Some-read_head.ensures.den)) in
    worth_at c.args.bytes.now c.in-Some-first_fed_line.rest.now c.in-Some-read_head.head.name (row_of c.in-Some.line.now) (row_of c.in-Some-first_fed_line.line.now)
    c.in-Some-read_sizes.sizes.seats c.in-Some-read_sizes.sizes.persons c.worth-right.result c.in-Ok.count o c.worth-right.ensures (c.in-Ok.ensures.counted _ o.start)
    c.in-Some-read_head.ensures.name c.in-Some-read_sizes.ensures.seats c.in-Some-read_sizes.ensures.persons
