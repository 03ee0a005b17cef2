use Rattle.std.proofs.Common.{Option, Some, List, ◌∷◌, [], sym, ap, ◌∙◌, subst, arith}
use Rattle.std.specs.Prelude.{All}
use Rattle.house_base.specs.Text.{Text}
use Rattle.house_top.specs.declared.document.Document.TheVariants as document
use Rattle.house_top.specs.declared.form.Form.{Form}
use Rattle.house_top.specs.declared.form.Form.TheVariants as form
use Rattle.house_top.specs.Given.{told}
use Rattle.house_top.specs.Promise.{EndsAsDue, FailsToWrite, ReadsFarEnough, StoresWhatIsDue, WritesWhatIsDue, counted}
use Rattle.house_top.specs.Words.{form_of, loads, names_in, texts}
use Rattle.house_top.proofs.AskLemmas.{audited_strings, migrated_strings, named, named_one, names_of_three, names_of_two, one_ready}
use Rattle.house_top.proofs.JudgedLemmas.{unread}
use Rattle.house_top.proofs.StoreLemmas.{asked_by}
use Rattle.house_top.proofs.call.house.Goals as goal

pub index-requires : goal.index-requires
index-requires g c =
    let two = audited_strings c.args.words.now.items (sym c.form_of.ensures ∙ c.in-Some-Audit.is ∙ ap Some c.in-Some-Audit.field-0-is) in
    omega (arith, two, c.args.words.now.ok.0)

pub returns-in-Some-Audit-clause-files : goal.returns-in-Some-Audit-clause-files
returns-in-Some-Audit-clause-files g c =
    let said = texts c.args.words.now.items in
    let left = g.I.Source.left c.args.input.now in
    let files = g.F.Files.contents c.args.shelf.now in
    let asked = sym c.form_of.ensures ∙ c.in-Some-Audit.is ∙ ap Some c.in-Some-Audit.field-0-is in
    let two = audited_strings c.args.words.now.items asked in
    let are = names_of_two c.args.words.now.items c.index.result.now two c.index.ensures ∙ named_one c.as_str.ensures.value in
    asked_by (λ (a : Option Form) (names : List Text). StoresWhatIsDue g.F.Files.contents a names (told a names left files) c.audit_call.result c.args.shelf.now c.audit_call.new.shelf)
    (form_of said) form.Audit (names_in said) (c.as_str.result.now ∷ []) asked are c.audit_call.ensures.files

pub index-requires-in-Some-Judged-OldAudit : goal.index-requires-in-Some-Judged-OldAudit
index-requires-in-Some-Judged-OldAudit g c =
    let three = migrated_strings c.args.words.now.items (sym c.form_of.ensures ∙ c.in-Some-Judged-OldAudit.is ∙ ap Some (c.in-Some-Judged-OldAudit.field-0-is ∙ ap form.Judged c.in-Some-Judged-OldAudit.field-0-0-is)) in
    omega (arith, three, c.args.words.now.ok.0)

pub index-requires-in-Some-Judged-OldAudit-2 : goal.index-requires-in-Some-Judged-OldAudit-2
index-requires-in-Some-Judged-OldAudit-2 g c =
    let three = migrated_strings c.args.words.now.items (sym c.form_of.ensures ∙ c.in-Some-Judged-OldAudit.is ∙ ap Some (c.in-Some-Judged-OldAudit.field-0-is ∙ ap form.Judged c.in-Some-Judged-OldAudit.field-0-0-is)) in
    omega (arith, three, c.args.words.now.ok.0)

pub migrate_call-requires : goal.migrate_call-requires
migrate_call-requires g c =
    let said = texts c.args.words.now.items in
    let left = g.I.Source.left c.args.input.now in
    let files = g.F.Files.contents c.args.shelf.now in
    let asked = sym c.form_of.ensures ∙ c.in-Some-Judged-OldAudit.is ∙ ap Some (c.in-Some-Judged-OldAudit.field-0-is ∙ ap form.Judged c.in-Some-Judged-OldAudit.field-0-0-is) in
    let three = migrated_strings c.args.words.now.items asked in
    let are = names_of_three c.args.words.now.items c.index-in-Some-Judged-OldAudit.result.now c.index-in-Some-Judged-OldAudit-2.result.now three c.index-in-Some-Judged-OldAudit.ensures c.index-in-Some-Judged-OldAudit-2.ensures
    ∙ named c.as_str-in-Some-Judged-OldAudit.ensures.value c.as_str-in-Some-Judged-OldAudit-2.ensures.value in
    let these = c.as_str-in-Some-Judged-OldAudit.result.now ∷ c.as_str-in-Some-Judged-OldAudit-2.result.now ∷ [] in
    one_ready (g.F.Files.ready c.args.shelf.now) c.as_str-in-Some-Judged-OldAudit.result.now (names_in said) (c.as_str-in-Some-Judged-OldAudit-2.result.now ∷ []) are
    (subst (λ (a : Option Form). All (g.F.Files.ready c.args.shelf.now) (loads a (names_in said))) asked c.requires.ready)

pub returns-in-Some-Judged-OldAudit-clause-ends : goal.returns-in-Some-Judged-OldAudit-clause-ends
returns-in-Some-Judged-OldAudit-clause-ends g c =
    let said = texts c.args.words.now.items in
    let left = g.I.Source.left c.args.input.now in
    let files = g.F.Files.contents c.args.shelf.now in
    let asked = sym c.form_of.ensures ∙ c.in-Some-Judged-OldAudit.is ∙ ap Some (c.in-Some-Judged-OldAudit.field-0-is ∙ ap form.Judged c.in-Some-Judged-OldAudit.field-0-0-is) in
    let three = migrated_strings c.args.words.now.items asked in
    let are = names_of_three c.args.words.now.items c.index-in-Some-Judged-OldAudit.result.now c.index-in-Some-Judged-OldAudit-2.result.now three c.index-in-Some-Judged-OldAudit.ensures c.index-in-Some-Judged-OldAudit-2.ensures
    ∙ named c.as_str-in-Some-Judged-OldAudit.ensures.value c.as_str-in-Some-Judged-OldAudit-2.ensures.value in
    let these = c.as_str-in-Some-Judged-OldAudit.result.now ∷ c.as_str-in-Some-Judged-OldAudit-2.result.now ∷ [] in
    asked_by (λ (a : Option Form) (names : List Text). EndsAsDue a (told a names left files) left c.migrate_call.result (counted (g.I.Source.faults c.args.input.now, g.I.Source.faults c.args.input.now) (g.F.Files.faults c.args.shelf.now, g.F.Files.faults c.migrate_call.new.shelf)
    (g.O.Sink.faults c.args.output.now, g.O.Sink.faults c.migrate_call.new.output))) (form_of said) (form.Judged document.OldAudit) (names_in said) these asked are
    (c.migrate_call.ensures.ends left (g.I.Source.faults c.args.input.now, g.I.Source.faults c.args.input.now))

pub returns-in-Some-Judged-OldAudit-clause-writes : goal.returns-in-Some-Judged-OldAudit-clause-writes
returns-in-Some-Judged-OldAudit-clause-writes g c =
    let said = texts c.args.words.now.items in
    let left = g.I.Source.left c.args.input.now in
    let files = g.F.Files.contents c.args.shelf.now in
    let asked = sym c.form_of.ensures ∙ c.in-Some-Judged-OldAudit.is ∙ ap Some (c.in-Some-Judged-OldAudit.field-0-is ∙ ap form.Judged c.in-Some-Judged-OldAudit.field-0-0-is) in
    let three = migrated_strings c.args.words.now.items asked in
    let are = names_of_three c.args.words.now.items c.index-in-Some-Judged-OldAudit.result.now c.index-in-Some-Judged-OldAudit-2.result.now three c.index-in-Some-Judged-OldAudit.ensures c.index-in-Some-Judged-OldAudit-2.ensures
    ∙ named c.as_str-in-Some-Judged-OldAudit.ensures.value c.as_str-in-Some-Judged-OldAudit-2.ensures.value in
    let these = c.as_str-in-Some-Judged-OldAudit.result.now ∷ c.as_str-in-Some-Judged-OldAudit-2.result.now ∷ [] in
    asked_by (λ (a : Option Form) (names : List Text). WritesWhatIsDue g.O.Sink.given a (told a names left files) c.migrate_call.result c.args.output.now c.migrate_call.new.output) (form_of said) (form.Judged document.OldAudit) (names_in said) these asked are
    (c.migrate_call.ensures.writes left)

pub returns-in-Some-Judged-OldAudit-clause-reads : goal.returns-in-Some-Judged-OldAudit-clause-reads
returns-in-Some-Judged-OldAudit-clause-reads g c =
    let said = texts c.args.words.now.items in
    let left = g.I.Source.left c.args.input.now in
    let files = g.F.Files.contents c.args.shelf.now in
    let asked = sym c.form_of.ensures ∙ c.in-Some-Judged-OldAudit.is ∙ ap Some (c.in-Some-Judged-OldAudit.field-0-is ∙ ap form.Judged c.in-Some-Judged-OldAudit.field-0-0-is) in
    let three = migrated_strings c.args.words.now.items asked in
    let are = names_of_three c.args.words.now.items c.index-in-Some-Judged-OldAudit.result.now c.index-in-Some-Judged-OldAudit-2.result.now three c.index-in-Some-Judged-OldAudit.ensures c.index-in-Some-Judged-OldAudit-2.ensures
    ∙ named c.as_str-in-Some-Judged-OldAudit.ensures.value c.as_str-in-Some-Judged-OldAudit-2.ensures.value in
    let these = c.as_str-in-Some-Judged-OldAudit.result.now ∷ c.as_str-in-Some-Judged-OldAudit-2.result.now ∷ [] in
    asked_by (λ (a : Option Form) (names : List Text). ReadsFarEnough g.I.Source.left a (told a names left files) (g.F.Files.faults c.args.shelf.now, g.F.Files.faults c.migrate_call.new.shelf) c.migrate_call.result c.args.input.now c.args.input.now) (form_of said) (form.Judged document.OldAudit) (names_in said) these asked are
    (unread g.I.Source.left document.OldAudit _ left c.migrate_call.result _ c.args.input.now (c.migrate_call.ensures.ends left (g.I.Source.faults c.args.input.now, g.I.Source.faults c.args.input.now)))

pub returns-in-Some-Judged-OldAudit-clause-files : goal.returns-in-Some-Judged-OldAudit-clause-files
returns-in-Some-Judged-OldAudit-clause-files g c =
    let said = texts c.args.words.now.items in
    let left = g.I.Source.left c.args.input.now in
    let files = g.F.Files.contents c.args.shelf.now in
    let asked = sym c.form_of.ensures ∙ c.in-Some-Judged-OldAudit.is ∙ ap Some (c.in-Some-Judged-OldAudit.field-0-is ∙ ap form.Judged c.in-Some-Judged-OldAudit.field-0-0-is) in
    let three = migrated_strings c.args.words.now.items asked in
    let are = names_of_three c.args.words.now.items c.index-in-Some-Judged-OldAudit.result.now c.index-in-Some-Judged-OldAudit-2.result.now three c.index-in-Some-Judged-OldAudit.ensures c.index-in-Some-Judged-OldAudit-2.ensures
    ∙ named c.as_str-in-Some-Judged-OldAudit.ensures.value c.as_str-in-Some-Judged-OldAudit-2.ensures.value in
    let these = c.as_str-in-Some-Judged-OldAudit.result.now ∷ c.as_str-in-Some-Judged-OldAudit-2.result.now ∷ [] in
    asked_by (λ (a : Option Form) (names : List Text). StoresWhatIsDue g.F.Files.contents a names (told a names left files) c.migrate_call.result c.args.shelf.now c.migrate_call.new.shelf) (form_of said) (form.Judged document.OldAudit) (names_in said) these asked are
    (c.migrate_call.ensures.files left)

pub returns-in-Some-Judged-OldAudit-clause-fails : goal.returns-in-Some-Judged-OldAudit-clause-fails
returns-in-Some-Judged-OldAudit-clause-fails g c =
    let said = texts c.args.words.now.items in
    let left = g.I.Source.left c.args.input.now in
    let files = g.F.Files.contents c.args.shelf.now in
    let asked = sym c.form_of.ensures ∙ c.in-Some-Judged-OldAudit.is ∙ ap Some (c.in-Some-Judged-OldAudit.field-0-is ∙ ap form.Judged c.in-Some-Judged-OldAudit.field-0-0-is) in
    let three = migrated_strings c.args.words.now.items asked in
    let are = names_of_three c.args.words.now.items c.index-in-Some-Judged-OldAudit.result.now c.index-in-Some-Judged-OldAudit-2.result.now three c.index-in-Some-Judged-OldAudit.ensures c.index-in-Some-Judged-OldAudit-2.ensures
    ∙ named c.as_str-in-Some-Judged-OldAudit.ensures.value c.as_str-in-Some-Judged-OldAudit-2.ensures.value in
    let these = c.as_str-in-Some-Judged-OldAudit.result.now ∷ c.as_str-in-Some-Judged-OldAudit-2.result.now ∷ [] in
    asked_by (λ (a : Option Form) (names : List Text). FailsToWrite g.O.Sink.given g.F.Files.contents a (told a names left files) c.migrate_call.result (counted (g.I.Source.faults c.args.input.now, g.I.Source.faults c.args.input.now) (g.F.Files.faults c.args.shelf.now, g.F.Files.faults c.migrate_call.new.shelf)
    (g.O.Sink.faults c.args.output.now, g.O.Sink.faults c.migrate_call.new.output)) c.args.output.now c.migrate_call.new.output c.args.shelf.now c.migrate_call.new.shelf) (form_of said) (form.Judged document.OldAudit) (names_in said) these asked are
    (c.migrate_call.ensures.fails left (g.I.Source.faults c.args.input.now, g.I.Source.faults c.args.input.now))
