use Rattle.std.proofs.Common.{◌∙◌, List, refl, ap, length}
use Rattle.audit_chain.specs.Chain.{audit_bytes}
use Rattle.house_base.specs.declared.answer.Took.{Took}
use Rattle.house_top.specs.declared.status.Status.TheVariants as status
use Rattle.house_top.proofs.AuditLemmas.{as_many_marks, ascii_text, few_kept, keeps_some, made}
use Rattle.house_top.proofs.forms.audit.audit_of.Goals as goal

pub audit_text-requires-clause-marked : goal.audit_text-requires-clause-marked
audit_text-requires-clause-marked c =
    let lines = c.requires.lines in
    ap length c.as_slice.ensures.value ∙ as_many_marks lines.0 c.args.run.now c.in-Some.kept lines.1 c.in-Some.is

pub audit_text-requires-clause-few : goal.audit_text-requires-clause-few
audit_text-requires-clause-few c =
    let lines = c.requires.lines in
    few_kept lines.0 c.args.run.now c.in-Some.kept status.Done c.args.text.now lines.1 c.in-Some.is lines.3 refl lines.2

pub audit_text-requires-clause-ascii : goal.audit_text-requires-clause-ascii
audit_text-requires-clause-ascii c =
    let lines = c.requires.lines in
    ascii_text lines.0 status.Done c.args.text.now lines.3

pub returns-in-None : goal.returns-in-None
returns-in-None c = λ lines has answer. keeps_some c.args.run.now c.requires.keeps c.in-None.is

pub returns-in_ok-audit-in-Some : goal.returns-in_ok-audit-in-Some
returns-in_ok-audit-in-Some c = λ lines has answer.
    made lines c.args.run.now c.in-Some.kept c.args.text.now c.in_ok-audit-in-Some.audit.items has c.in-Some.is answer
    (c.in_ok-audit-in-Some.ensures ∙ ap (λ (ms : List Took). audit_bytes 2 c.in-Some.kept.lines ms c.args.text.now) c.as_slice.ensures.value)
