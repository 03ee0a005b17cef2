use Rattle.std.proofs.Common.{[], subst}
use Rattle.house_model.specs.declared.goal.Goal.TheVariants as goals
use Rattle.house_top.specs.Answer.{ReadsRun}
use Rattle.house_top.proofs.AnswerLemmas.{input_answer}
use Rattle.house_top.proofs.AuditLemmas.{can_be_audited, fault_status, heard_answer, stores_audit}
use Rattle.house_top.proofs.ReadLemmas.{opened-none, reads_answer, reads_fault}
use Rattle.input_run.specs.declared.fault.InputFault.TheVariants as fault
use Rattle.house_top.proofs.forms.audit.audit_input.Goals as goal

pub hear_input-requires : goal.hear_input-requires
hear_input-requires g c = ([], opened-none goals.Run c.keeping.result c.keeping.ensures.taken)

pub audit_heard-requires-clause-lines : goal.audit_heard-requires-clause-lines
audit_heard-requires-clause-lines g c =
    can_be_audited (g.I.Source.left c.args.input.now) (g.I.Source.left c.hear_input.new.input) c.in-Ok.heard (c.in-Ok.ensures.heard [] (opened-none goals.Run c.keeping.result c.keeping.ensures.taken))

pub returns-in-Ok-audit_heard-clause-answer : goal.returns-in-Ok-audit_heard-clause-answer
returns-in-Ok-audit_heard-clause-answer g c =
    let opened = opened-none goals.Run c.keeping.result c.keeping.ensures.taken in
    let audited = c.in-Ok-audit_heard.audited in
    input_answer goals.Run [] (g.I.Source.left c.args.input.now) (g.I.Source.left c.hear_input.new.input) c.in-Ok.heard audited.answer.status audited.answer.text.items (c.in-Ok.ensures.heard [] opened)
    (heard_answer c.in-Ok.heard audited c.in-Ok-audit_heard.ensures)

pub returns-in-Ok-audit_heard-clause-audit : goal.returns-in-Ok-audit_heard-clause-audit
returns-in-Ok-audit_heard-clause-audit g c =
    stores_audit (g.I.Source.left c.args.input.now) (g.I.Source.left c.hear_input.new.input) c.in-Ok.heard c.in-Ok-audit_heard.audited
    (c.in-Ok.ensures.heard [] (opened-none goals.Run c.keeping.result c.keeping.ensures.taken)) c.in-Ok-audit_heard.ensures

pub returns-in-Ok-audit_heard-clause-reads : goal.returns-in-Ok-audit_heard-clause-reads
returns-in-Ok-audit_heard-clause-reads g c =
    let opened = opened-none goals.Run c.keeping.result c.keeping.ensures.taken in
    let before = g.I.Source.left c.args.input.now in
    let after = g.I.Source.left c.hear_input.new.input in
    let audited = c.in-Ok-audit_heard.audited in
    let is = heard_answer c.in-Ok.heard audited c.in-Ok-audit_heard.ensures in
    let answers = input_answer goals.Run [] before after c.in-Ok.heard audited.answer.status audited.answer.text.items (c.in-Ok.ensures.heard [] opened) is in
    reads_answer g.I.Source.left goals.Run [] c.in-Ok.heard audited.answer.status audited.answer.text.items c.args.input.now c.hear_input.new.input answers.answered
    (c.in-Ok.ensures.heard [] opened) is (c.in-Ok.ensures.decided [] opened) (c.in-Ok.ensures.no_further [] opened)

pub returns-in-Ok-clause-reads : goal.returns-in-Ok-clause-reads
returns-in-Ok-clause-reads g c =
    reads_fault g.I.Source.left goals.Run [] fault.Memory c.args.input.now c.hear_input.new.input (λ is. absurd (let wrong : ⊥ = cc in wrong))
    (c.in-Ok.ensures.no_further [] (opened-none goals.Run c.keeping.result c.keeping.ensures.taken))

pub returns-clause-reads : goal.returns-clause-reads
returns-clause-reads g c =
    let opened = opened-none goals.Run c.keeping.result c.keeping.ensures.taken in
    subst (λ s. ReadsRun g.I.Source.left goals.Run [] s c.args.input.now c.hear_input.new.input) (fault_status c.in-Err.fault)
    (reads_fault g.I.Source.left goals.Run [] c.in-Err.fault c.args.input.now c.hear_input.new.input (λ same. c.in-Err.ensures.undecided [] opened (cc)) (c.in-Err.ensures.no_further [] opened))
