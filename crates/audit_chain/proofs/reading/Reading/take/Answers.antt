use Rattle.std.proofs.Common.{◌≡◌, false, Some, sym, ap, ◌∙◌, subst}
use Rattle.std.specs.Option.{option_map}
use Rattle.serde_json.specs.View.{view}
use Rattle.audit_chain.specs.Form.{value_of}
use Rattle.audit_chain.specs.Reading.{HasRead}
use Rattle.audit_chain.proofs.ReadingLemmas.{row_read}
use Rattle.audit_chain.proofs.reading.Reading.take.Goals as goal

pub returns-in-Some-clause-taken : goal.returns-in-Some-clause-taken
returns-in-Some-clause-taken c =
    λ rows read taken.
    let old = c.args.self.now in
    let is : value_of c.args.row.now ≡ Some (view c.in-Some.value) = sym c.in_ok-value_of.ensures ∙ ap (option_map view) c.in-Some.is in
    let went = c.take_value.ensures in
    let before : HasRead rows old.version old.lines false = subst (λ b. HasRead rows old.version old.lines b) c.if-self.false read in
    let fits = sym (rw taken at went.fits) in
    rw (went.version, went.lines taken, went.ended taken) (row_read rows old.version old.lines c.args.row.now (view c.in-Some.value) before is fits)
