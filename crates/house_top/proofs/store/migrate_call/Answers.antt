use Rattle.std.proofs.Common.{Some, Ok, [], ◌∷◌, refl}
use Rattle.house_top.specs.declared.document.Document.TheVariants as document
use Rattle.house_top.specs.declared.form.Form.TheVariants as form
use Rattle.house_top.specs.Given.{told}
use Rattle.house_top.proofs.JudgedLemmas.{judged_answers, judged_caused, judged_file}
use Rattle.house_top.proofs.StoreLemmas.{filed_ends, filed_fails, filed_promise, filed_stores, filed_writes}
use Rattle.house_top.proofs.store.migrate_call.Goals as goal

pub returns-in-Ok-clause-ends : goal.returns-in-Ok-clause-ends
returns-in-Ok-clause-ends g c = λ input reads.
    let files = g.F.Files.contents c.args.shelf.now in
    let first = c.args.first.now in
    let second = c.args.second.now in
    let given = told (Some (form.Judged document.OldAudit)) (first ∷ second ∷ []) input files in
    let a = c.in-Ok.moved in
    let answers = judged_answers (Ok a.answer) document.OldAudit first (second ∷ []) input files c.in-Ok.ensures.said in
    let caused = judged_caused (Ok a.answer) document.OldAudit first (second ∷ []) input files reads _ c.in-Ok.ensures.said c.in-Ok.ensures.too_long (λ is. absurd (let wrong : ⊥ = cc in wrong)) in
    filed_ends g.O.Sink.given g.F.Files.contents (form.Judged document.OldAudit) given a second (g.O.Sink.faults c.args.output.now, g.O.Sink.faults c.give_and_store.new.output)
    (g.F.Files.faults c.args.shelf.now) (g.F.Files.faults c.judge_file.new.files) (g.F.Files.faults c.give_and_store.new.shelf) c.give_and_store.result c.args.output.now c.give_and_store.new.output
    c.args.shelf.now c.judge_file.new.files c.give_and_store.new.shelf refl c.in-Ok.ensures.never_falls c.give_and_store.ensures.never_falls answers c.give_and_store.ensures.done input reads caused

pub returns-in-Ok-clause-writes : goal.returns-in-Ok-clause-writes
returns-in-Ok-clause-writes g c = λ input.
    let files = g.F.Files.contents c.args.shelf.now in
    let first = c.args.first.now in
    let second = c.args.second.now in
    let given = told (Some (form.Judged document.OldAudit)) (first ∷ second ∷ []) input files in
    let a = c.in-Ok.moved in
    let answers = judged_answers (Ok a.answer) document.OldAudit first (second ∷ []) input files c.in-Ok.ensures.said in
    filed_writes g.O.Sink.given g.F.Files.contents (form.Judged document.OldAudit) given a second (g.O.Sink.faults c.args.output.now, g.O.Sink.faults c.give_and_store.new.output)
    (g.F.Files.faults c.args.shelf.now) (g.F.Files.faults c.judge_file.new.files) (g.F.Files.faults c.give_and_store.new.shelf) c.give_and_store.result c.args.output.now c.give_and_store.new.output
    c.args.shelf.now c.judge_file.new.files c.give_and_store.new.shelf refl c.in-Ok.ensures.never_falls c.give_and_store.ensures.never_falls answers c.give_and_store.ensures.done

pub returns-in-Ok-clause-promise : goal.returns-in-Ok-clause-promise
returns-in-Ok-clause-promise g c = λ input.
    let files = g.F.Files.contents c.args.shelf.now in
    let first = c.args.first.now in
    let second = c.args.second.now in
    let given = told (Some (form.Judged document.OldAudit)) (first ∷ second ∷ []) input files in
    let a = c.in-Ok.moved in
    let answers = judged_answers (Ok a.answer) document.OldAudit first (second ∷ []) input files c.in-Ok.ensures.said in
    filed_promise g.O.Sink.given g.F.Files.contents (form.Judged document.OldAudit) given a second (g.O.Sink.faults c.args.output.now, g.O.Sink.faults c.give_and_store.new.output)
    (g.F.Files.faults c.args.shelf.now) (g.F.Files.faults c.judge_file.new.files) (g.F.Files.faults c.give_and_store.new.shelf) c.give_and_store.result c.args.output.now c.give_and_store.new.output
    c.args.shelf.now c.judge_file.new.files c.give_and_store.new.shelf refl c.in-Ok.ensures.never_falls c.give_and_store.ensures.never_falls answers c.give_and_store.ensures.done

pub returns-in-Ok-clause-files : goal.returns-in-Ok-clause-files
returns-in-Ok-clause-files g c = λ input.
    let files = g.F.Files.contents c.args.shelf.now in
    let first = c.args.first.now in
    let second = c.args.second.now in
    let given = told (Some (form.Judged document.OldAudit)) (first ∷ second ∷ []) input files in
    let a = c.in-Ok.moved in
    let answers = judged_answers (Ok a.answer) document.OldAudit first (second ∷ []) input files c.in-Ok.ensures.said in
    filed_stores g.O.Sink.given g.F.Files.contents (form.Judged document.OldAudit) given a second (g.O.Sink.faults c.args.output.now, g.O.Sink.faults c.give_and_store.new.output)
    (g.F.Files.faults c.args.shelf.now) (g.F.Files.faults c.judge_file.new.files) (g.F.Files.faults c.give_and_store.new.shelf) c.give_and_store.result c.args.output.now c.give_and_store.new.output
    c.args.shelf.now c.judge_file.new.files c.give_and_store.new.shelf refl c.in-Ok.ensures.never_falls c.give_and_store.ensures.never_falls answers c.give_and_store.ensures.done
    (first ∷ second ∷ []) refl c.in-Ok.ensures.unchanged (judged_file document.OldAudit first (second ∷ []) input files a refl c.in-Ok.ensures.file)

pub returns-in-Ok-clause-fails : goal.returns-in-Ok-clause-fails
returns-in-Ok-clause-fails g c = λ input reads.
    let files = g.F.Files.contents c.args.shelf.now in
    let first = c.args.first.now in
    let second = c.args.second.now in
    let given = told (Some (form.Judged document.OldAudit)) (first ∷ second ∷ []) input files in
    let a = c.in-Ok.moved in
    let answers = judged_answers (Ok a.answer) document.OldAudit first (second ∷ []) input files c.in-Ok.ensures.said in
    filed_fails g.O.Sink.given g.F.Files.contents (form.Judged document.OldAudit) given a second (g.O.Sink.faults c.args.output.now, g.O.Sink.faults c.give_and_store.new.output)
    (g.F.Files.faults c.args.shelf.now) (g.F.Files.faults c.judge_file.new.files) (g.F.Files.faults c.give_and_store.new.shelf) c.give_and_store.result c.args.output.now c.give_and_store.new.output
    c.args.shelf.now c.judge_file.new.files c.give_and_store.new.shelf refl c.in-Ok.ensures.never_falls c.give_and_store.ensures.never_falls answers c.give_and_store.ensures.done reads c.in-Ok.ensures.unchanged
