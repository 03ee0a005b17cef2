use Rattle.std.proofs.Common.{◌∙◌, sym}
use Rattle.std.proofs.lemmas.Bool.{eqb-true}
use Rattle.slip_check.proofs.BallotLemmas.{ballot_of_no_cells, ballot_of_nobody, ballot_read, ballot_without_cells, ballot_without_person}
use Rattle.slip_check.proofs.ballot.read_ballot.Goals as goal

pub returns-in_default-clause-off : goal.returns-in_default-clause-off
returns-in_default-clause-off c = λ e row spells. ballot_without_person c.args.rest.now row c.in_default.ensures.none spells

pub returns-in_default-read_name-clause-off : goal.returns-in_default-read_name-clause-off
returns-in_default-read_name-clause-off c = λ e row spells.
    ballot_of_nobody c.in-Some.person.now c.args.rest.now c.in-Some.rest.now row c.in-Some.ensures.found c.in_default-read_name.ensures.none spells

pub returns-then-is_empty-clause-off : goal.returns-then-is_empty-clause-off
returns-then-is_empty-clause-off c = λ e row spells.
    ballot_without_cells c.in-Some.person.now c.args.rest.now c.in-Some.rest.now row c.in-Some.ensures.found
    (eqb-true _ _ (sym c.is_empty.ensures ∙ c.if-is_empty.true)) spells

pub returns-in-Err-clause-off : goal.returns-in-Err-clause-off
returns-in-Err-clause-off c = λ e row spells.
    ballot_of_no_cells c.in-Some.person.now c.args.rest.now c.in-Some.rest.now row c.in-Some.ensures.found (c.in-Err.ensures.off (cc)) spells

pub returns-in-Ok-clause-found : goal.returns-in-Ok-clause-found
returns-in-Ok-clause-found c =
    ballot_read c.in-Some.person.now c.in-Some-read_name.person c.args.rest.now c.in-Some.rest.now _ _ c.in-Some.ensures.found
    c.in-Some-read_name.ensures.form c.in-Some-read_name.ensures.value (sym c.is_empty.ensures ∙ c.if-is_empty.false) c.in-Ok.ensures.found
