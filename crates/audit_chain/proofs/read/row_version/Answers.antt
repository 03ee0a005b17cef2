use Rattle.std.proofs.Common.{sym, ap, ◌∙◌}
use Rattle.std.specs.Prelude.{ok_or}
use Rattle.audit_chain.specs.declared.fault.RowFault.TheVariants.{BadRow}
use Rattle.audit_chain.proofs.HeldLemmas.{version_first, version_none}
use Rattle.audit_chain.proofs.read.row_version.Goals as goal

pub returns-in-Some-2-clause-ok : goal.returns-in-Some-2-clause-ok
returns-in-Some-2-clause-ok c =
    version_first c.args.bytes.now c.in-Some.row.now c.in-Some.field-0-1.now c.in-Some.ensures.found
    ∙ ap (λ o. ok_or o (BadRow 1)) (sym c.in_ok-version-in-Some.ensures ∙ c.in-Some-2.is)

pub returns-in-None-2-clause-bad : goal.returns-in-None-2-clause-bad
returns-in-None-2-clause-bad c = λ _.
    version_first c.args.bytes.now c.in-Some.row.now c.in-Some.field-0-1.now c.in-Some.ensures.found
    ∙ ap (λ o. ok_or o (BadRow 1)) (sym c.in_ok-version-in-Some.ensures ∙ c.in-None-2.is)

pub returns-in-None-clause-bad : goal.returns-in-None-clause-bad
returns-in-None-clause-bad c = λ _. version_none c.args.bytes.now c.in-None.ensures.none
