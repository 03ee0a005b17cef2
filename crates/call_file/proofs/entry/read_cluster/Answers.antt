use Rattle.std.proofs.Common.{◌≡◌, None, Some, sym, ◌∙◌, arith}
use Rattle.std.proofs.lemmas.Bool.{le-leb, lt-leb}
use Rattle.house_base.specs.Number.{number_up_to}
use Rattle.house_base.specs.declared.limits.TheConstants.{MOST_CLUSTERS}
use Rattle.command_text.proofs.NumberLemmas.{number_at_most, within_is, within_none}
use Rattle.call_file.proofs.EntryLemmas.{no_bytes, no_number}
use Rattle.call_file.proofs.entry.read_cluster.Goals as goal

pub returns-then-is_empty-clause-value : goal.returns-then-is_empty-clause-value
returns-then-is_empty-clause-value c = no_number MOST_CLUSTERS c.args.text.now (sym c.is_empty.ensures ∙ c.if-is_empty.true)

pub overflow_cast-result : goal.overflow_cast-result
overflow_cast-result c =
    let some : number_up_to MOST_CLUSTERS c.args.text.now ≡ Some c.in-Some.number = rw c.from.ensures at (sym c.in-Some.ensures) in
    omega (arith, number_at_most MOST_CLUSTERS c.in-Some.number c.args.text.now some)

pub returns-in-Some-clause-form : goal.returns-in-Some-clause-form
returns-in-Some-clause-form c =
    let some : number_up_to MOST_CLUSTERS c.args.text.now ≡ Some c.in-Some.number = rw c.from.ensures at (sym c.in-Some.ensures) in
    sym (rw (no_bytes c.args.text.now, sym c.is_empty.ensures ∙ c.if-is_empty.false, c.if-are_drawn.false) (within_is 1 MOST_CLUSTERS c.in-Some.number c.args.text.now some ∙ le-leb _ _ c.if-number-ge1.true))

pub returns-in_default-clause-form : goal.returns-in_default-clause-form
returns-in_default-clause-form c =
    let some : number_up_to MOST_CLUSTERS c.args.text.now ≡ Some c.in-Some.number = rw c.from.ensures at (sym c.in-Some.ensures) in
    sym (rw (no_bytes c.args.text.now, sym c.is_empty.ensures ∙ c.if-is_empty.false, c.if-are_drawn.false) (within_is 1 MOST_CLUSTERS c.in-Some.number c.args.text.now some ∙ lt-leb _ _ (omega arith)))

pub returns-in_default-2-clause-form : goal.returns-in_default-2-clause-form
returns-in_default-2-clause-form c =
    let none : number_up_to MOST_CLUSTERS c.args.text.now ≡ None = rw c.from.ensures at (sym c.in_default.ensures) in
    sym (rw (no_bytes c.args.text.now, sym c.is_empty.ensures ∙ c.if-is_empty.false, c.if-are_drawn.false) (within_none 1 MOST_CLUSTERS c.args.text.now none))
