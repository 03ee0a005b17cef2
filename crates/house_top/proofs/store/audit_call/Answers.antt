use Rattle.std.proofs.Common.{Some, Ok, [], ◌∷◌, refl, arith}
use Rattle.house_model.specs.declared.goal.Goal.TheVariants as goals
use Rattle.house_top.specs.declared.form.Form.TheVariants as form
use Rattle.house_top.specs.Given.{told}
use Rattle.house_top.proofs.FormLemmas.{input_answers, input_caused, input_reads}
use Rattle.house_top.proofs.StoreLemmas.{audit_answers, audit_caused, audit_files, audit_reads, filed_ends, filed_fails, filed_promise, filed_reads, filed_stores, filed_writes}
use Rattle.house_top.proofs.store.audit_call.Goals as goal

pub returns-in-Ok-clause-ends : goal.returns-in-Ok-clause-ends
returns-in-Ok-clause-ends g c =
    let left = g.I.Source.left c.args.input.now in
    let files = g.F.Files.contents c.args.shelf.now in
    let name = c.args.name.now in
    let given = told (Some form.Audit) (name ∷ []) left files in
    let a = c.in-Ok.audited in
    let count = g.F.Files.faults c.args.shelf.now in
    let answers = audit_answers given a.answer.status a.answer.text.items (input_answers goals.Run (name ∷ []) left files a.answer.status a.answer.text.items c.in-Ok.ensures.answer) in
    let caused = audit_caused given left a.answer.status _ _ (input_caused (Ok a.answer) goals.Run given left _ _ c.in-Ok.ensures.answer (λ is. absurd (let wrong : ⊥ = cc in wrong))) in
    filed_ends g.O.Sink.given g.F.Files.contents form.Audit given a name (g.O.Sink.faults c.args.output.now, g.O.Sink.faults c.give_and_store.new.output) count count (g.F.Files.faults c.give_and_store.new.shelf)
    c.give_and_store.result c.args.output.now c.give_and_store.new.output c.args.shelf.now c.args.shelf.now c.give_and_store.new.shelf refl (omega arith) c.give_and_store.ensures.never_falls answers c.give_and_store.ensures.done left _ caused

pub returns-in-Ok-clause-writes : goal.returns-in-Ok-clause-writes
returns-in-Ok-clause-writes g c =
    let left = g.I.Source.left c.args.input.now in
    let files = g.F.Files.contents c.args.shelf.now in
    let name = c.args.name.now in
    let given = told (Some form.Audit) (name ∷ []) left files in
    let a = c.in-Ok.audited in
    let count = g.F.Files.faults c.args.shelf.now in
    let answers = audit_answers given a.answer.status a.answer.text.items (input_answers goals.Run (name ∷ []) left files a.answer.status a.answer.text.items c.in-Ok.ensures.answer) in
    filed_writes g.O.Sink.given g.F.Files.contents form.Audit given a name (g.O.Sink.faults c.args.output.now, g.O.Sink.faults c.give_and_store.new.output) count count (g.F.Files.faults c.give_and_store.new.shelf)
    c.give_and_store.result c.args.output.now c.give_and_store.new.output c.args.shelf.now c.args.shelf.now c.give_and_store.new.shelf refl (omega arith) c.give_and_store.ensures.never_falls answers c.give_and_store.ensures.done

pub returns-in-Ok-clause-promise : goal.returns-in-Ok-clause-promise
returns-in-Ok-clause-promise g c =
    let left = g.I.Source.left c.args.input.now in
    let files = g.F.Files.contents c.args.shelf.now in
    let name = c.args.name.now in
    let given = told (Some form.Audit) (name ∷ []) left files in
    let a = c.in-Ok.audited in
    let count = g.F.Files.faults c.args.shelf.now in
    let answers = audit_answers given a.answer.status a.answer.text.items (input_answers goals.Run (name ∷ []) left files a.answer.status a.answer.text.items c.in-Ok.ensures.answer) in
    filed_promise g.O.Sink.given g.F.Files.contents form.Audit given a name (g.O.Sink.faults c.args.output.now, g.O.Sink.faults c.give_and_store.new.output) count count (g.F.Files.faults c.give_and_store.new.shelf)
    c.give_and_store.result c.args.output.now c.give_and_store.new.output c.args.shelf.now c.args.shelf.now c.give_and_store.new.shelf refl (omega arith) c.give_and_store.ensures.never_falls answers c.give_and_store.ensures.done

pub returns-in-Ok-clause-reads : goal.returns-in-Ok-clause-reads
returns-in-Ok-clause-reads g c =
    let left = g.I.Source.left c.args.input.now in
    let files = g.F.Files.contents c.args.shelf.now in
    let name = c.args.name.now in
    let given = told (Some form.Audit) (name ∷ []) left files in
    let a = c.in-Ok.audited in
    let count = g.F.Files.faults c.args.shelf.now in
    let answers = audit_answers given a.answer.status a.answer.text.items (input_answers goals.Run (name ∷ []) left files a.answer.status a.answer.text.items c.in-Ok.ensures.answer) in
    let reads = audit_reads g.I.Source.left given (count, count) a.answer.status c.args.input.now c.audit_input.new.input (input_reads g.I.Source.left (Ok a.answer) goals.Run (name ∷ []) files (count, count) c.args.input.now c.audit_input.new.input c.in-Ok.ensures.answer c.in-Ok.ensures.reads) in
    filed_reads g.O.Sink.given g.F.Files.contents form.Audit given a name (g.O.Sink.faults c.args.output.now, g.O.Sink.faults c.give_and_store.new.output) count count (g.F.Files.faults c.give_and_store.new.shelf)
    c.give_and_store.result c.args.output.now c.give_and_store.new.output c.args.shelf.now c.args.shelf.now c.give_and_store.new.shelf refl (omega arith) c.give_and_store.ensures.never_falls answers c.give_and_store.ensures.done
    g.I.Source.left c.args.input.now c.audit_input.new.input reads

pub returns-in-Ok-clause-files : goal.returns-in-Ok-clause-files
returns-in-Ok-clause-files g c =
    let left = g.I.Source.left c.args.input.now in
    let files = g.F.Files.contents c.args.shelf.now in
    let name = c.args.name.now in
    let given = told (Some form.Audit) (name ∷ []) left files in
    let a = c.in-Ok.audited in
    let count = g.F.Files.faults c.args.shelf.now in
    let answers = audit_answers given a.answer.status a.answer.text.items (input_answers goals.Run (name ∷ []) left files a.answer.status a.answer.text.items c.in-Ok.ensures.answer) in
    filed_stores g.O.Sink.given g.F.Files.contents form.Audit given a name (g.O.Sink.faults c.args.output.now, g.O.Sink.faults c.give_and_store.new.output) count count (g.F.Files.faults c.give_and_store.new.shelf)
    c.give_and_store.result c.args.output.now c.give_and_store.new.output c.args.shelf.now c.args.shelf.now c.give_and_store.new.shelf refl (omega arith) c.give_and_store.ensures.never_falls answers c.give_and_store.ensures.done
    (name ∷ []) refl refl (audit_files (name ∷ []) left files a c.in-Ok.ensures.audit)

pub returns-in-Ok-clause-fails : goal.returns-in-Ok-clause-fails
returns-in-Ok-clause-fails g c =
    let left = g.I.Source.left c.args.input.now in
    let files = g.F.Files.contents c.args.shelf.now in
    let name = c.args.name.now in
    let given = told (Some form.Audit) (name ∷ []) left files in
    let a = c.in-Ok.audited in
    let count = g.F.Files.faults c.args.shelf.now in
    let answers = audit_answers given a.answer.status a.answer.text.items (input_answers goals.Run (name ∷ []) left files a.answer.status a.answer.text.items c.in-Ok.ensures.answer) in
    filed_fails g.O.Sink.given g.F.Files.contents form.Audit given a name (g.O.Sink.faults c.args.output.now, g.O.Sink.faults c.give_and_store.new.output) count count (g.F.Files.faults c.give_and_store.new.shelf)
    c.give_and_store.result c.args.output.now c.give_and_store.new.output c.args.shelf.now c.args.shelf.now c.give_and_store.new.shelf refl (omega arith) c.give_and_store.ensures.never_falls answers c.give_and_store.ensures.done _ refl
