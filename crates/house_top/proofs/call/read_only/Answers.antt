use Rattle.std.proofs.Common.{ℕ, take, Err, refl, sym, ap, ◌∙◌, subst, inl}
use Rattle.house_base.specs.Text.{Text}
use Rattle.house_io.specs.Sink.{AppendsWhereTold}
use Rattle.input_run.specs.declared.fault.InputFault.{InputFault}
use Rattle.house_top.specs.declared.status.Status.TheVariants as status
use Rattle.house_top.specs.Answer.{status_of_answer}
use Rattle.house_top.specs.Given.{given_by}
use Rattle.house_top.specs.Words.{form_of, names_in, texts}
use Rattle.house_top.proofs.CallLemmas.{asked_answers, asked_caused, asked_files, asked_reads, asked_ready, fault_promise, memory_ends, memory_writes, read_fault_ends, read_fault_writes, reads_unwritten, usage_ends, usage_files, usage_promise, usage_reads, usage_writes, whole_ends, whole_promise, whole_writes, write_fault_ends, write_fault_writes}
use Rattle.house_top.proofs.call.read_only.Goals as goal

pub returns-in_default-clause-ends : goal.returns-in_default-clause-ends
returns-in_default-clause-ends g c =
    let said = texts c.args.words.now.items in
    let asked = form_of said in
    let left = g.I.Source.left c.args.input.now in
    let files = g.F.Files.contents c.args.files.now in
    let given = given_by said left files in
    usage_ends asked given left _ (sym c.form_of.ensures ∙ c.in_default.is)

pub returns-in_default-clause-writes : goal.returns-in_default-clause-writes
returns-in_default-clause-writes g c =
    let said = texts c.args.words.now.items in
    let asked = form_of said in
    let left = g.I.Source.left c.args.input.now in
    let files = g.F.Files.contents c.args.files.now in
    let given = given_by said left files in
    usage_writes g.O.Sink.given asked given c.args.output.now (sym c.form_of.ensures ∙ c.in_default.is)

pub returns-in_default-clause-promise : goal.returns-in_default-clause-promise
returns-in_default-clause-promise g c =
    let said = texts c.args.words.now.items in
    let asked = form_of said in
    let left = g.I.Source.left c.args.input.now in
    let files = g.F.Files.contents c.args.files.now in
    let given = given_by said left files in
    usage_promise asked given (g.O.Sink.given c.args.output.now) (g.O.Sink.given c.args.output.now) (sym c.form_of.ensures ∙ c.in_default.is)

pub returns-in_default-clause-reads : goal.returns-in_default-clause-reads
returns-in_default-clause-reads g c =
    let said = texts c.args.words.now.items in
    let asked = form_of said in
    let left = g.I.Source.left c.args.input.now in
    let files = g.F.Files.contents c.args.files.now in
    let given = given_by said left files in
    usage_reads g.I.Source.left asked given _ c.args.input.now (sym c.form_of.ensures ∙ c.in_default.is)

pub returns-in_default-clause-files : goal.returns-in_default-clause-files
returns-in_default-clause-files g c =
    usage_files g.F.Files.contents _ c.args.files.now

pub answer_to-requires-clause-form : goal.answer_to-requires-clause-form
answer_to-requires-clause-form g c = sym c.form_of.ensures ∙ c.in-Some.is

pub answer_to-requires-clause-ready : goal.answer_to-requires-clause-ready
answer_to-requires-clause-ready g c =
    asked_ready (g.F.Files.ready c.args.files.now) (form_of (texts c.args.words.now.items)) c.in-Some.form (names_in (texts c.args.words.now.items)) (sym c.form_of.ensures ∙ c.in-Some.is) c.requires.ready

pub returns-in-Ok-give_all-clause-ends : goal.returns-in-Ok-give_all-clause-ends
returns-in-Ok-give_all-clause-ends g c =
    let said = texts c.args.words.now.items in
    let asked = form_of said in
    let left = g.I.Source.left c.args.input.now in
    let files = g.F.Files.contents c.args.files.now in
    let given = given_by said left files in
    let some = sym c.form_of.ensures ∙ c.in-Some.is in
    let answer = c.in-Ok.answer in
    let answers = asked_answers asked c.in-Some.form (names_in said) left files answer.status answer.text.items some c.in-Ok.ensures.answer in
    let caused = asked_caused asked c.in-Some.form (names_in said) left files answer.status answer.status _ _ some refl c.in-Ok.ensures.caused in
    whole_ends asked c.in-Some.form given left answer.status answer.text.items _ some answers caused

pub returns-in-Ok-give_all-clause-writes : goal.returns-in-Ok-give_all-clause-writes
returns-in-Ok-give_all-clause-writes g c =
    let said = texts c.args.words.now.items in
    let asked = form_of said in
    let left = g.I.Source.left c.args.input.now in
    let files = g.F.Files.contents c.args.files.now in
    let given = given_by said left files in
    let some = sym c.form_of.ensures ∙ c.in-Some.is in
    let answer = c.in-Ok.answer in
    let answers = asked_answers asked c.in-Some.form (names_in said) left files answer.status answer.text.items some c.in-Ok.ensures.answer in
    let given_out = subst (AppendsWhereTold (g.O.Sink.given c.args.output.now) (g.O.Sink.given c.give_all.new.output)) c.deref.ensures.value c.in-Ok-give_all.ensures.whole in
    whole_writes g.O.Sink.given asked given answer.status answer.text.items c.args.output.now c.give_all.new.output answers given_out

pub returns-in-Ok-give_all-clause-promise : goal.returns-in-Ok-give_all-clause-promise
returns-in-Ok-give_all-clause-promise g c =
    let said = texts c.args.words.now.items in
    let asked = form_of said in
    let left = g.I.Source.left c.args.input.now in
    let files = g.F.Files.contents c.args.files.now in
    let given = given_by said left files in
    let some = sym c.form_of.ensures ∙ c.in-Some.is in
    let answer = c.in-Ok.answer in
    let answers = asked_answers asked c.in-Some.form (names_in said) left files answer.status answer.text.items some c.in-Ok.ensures.answer in
    let given_out = subst (AppendsWhereTold (g.O.Sink.given c.args.output.now) (g.O.Sink.given c.give_all.new.output)) c.deref.ensures.value c.in-Ok-give_all.ensures.whole in
    whole_promise asked given answer.status answer.text.items (g.O.Sink.given c.args.output.now) (g.O.Sink.given c.give_all.new.output) answers given_out

pub returns-in-Ok-give_all-clause-reads : goal.returns-in-Ok-give_all-clause-reads
returns-in-Ok-give_all-clause-reads g c =
    let said = texts c.args.words.now.items in
    let asked = form_of said in
    let left = g.I.Source.left c.args.input.now in
    let files = g.F.Files.contents c.args.files.now in
    let given = given_by said left files in
    let some = sym c.form_of.ensures ∙ c.in-Some.is in
    asked_reads g.I.Source.left asked c.in-Some.form (names_in said) left files _ c.in-Ok.answer.status c.in-Ok.answer.status c.args.input.now c.answer_to.new.input some refl c.in-Ok.ensures.reads

pub returns-in-Ok-give_all-clause-files : goal.returns-in-Ok-give_all-clause-files
returns-in-Ok-give_all-clause-files g c =
    let said = texts c.args.words.now.items in
    let asked = form_of said in
    let left = g.I.Source.left c.args.input.now in
    let files = g.F.Files.contents c.args.files.now in
    let given = given_by said left files in
    let some = sym c.form_of.ensures ∙ c.in-Some.is in
    asked_files g.F.Files.contents asked c.in-Some.form (names_in said) c.args.files.now c.answer_to.new.files some c.in-Ok.ensures.files

pub returns-in-Ok-clause-ends : goal.returns-in-Ok-clause-ends
returns-in-Ok-clause-ends g c =
    let said = texts c.args.words.now.items in
    let asked = form_of said in
    let left = g.I.Source.left c.args.input.now in
    let files = g.F.Files.contents c.args.files.now in
    let given = given_by said left files in
    let some = sym c.form_of.ensures ∙ c.in-Some.is in
    write_fault_ends asked c.in-Some.form given left _ some (inl c.in-Err.ensures.failed)

pub returns-in-Ok-clause-writes : goal.returns-in-Ok-clause-writes
returns-in-Ok-clause-writes g c =
    let said = texts c.args.words.now.items in
    let asked = form_of said in
    let left = g.I.Source.left c.args.input.now in
    let files = g.F.Files.contents c.args.files.now in
    let given = given_by said left files in
    let some = sym c.form_of.ensures ∙ c.in-Some.is in
    let answer = c.in-Ok.answer in
    let answers = asked_answers asked c.in-Some.form (names_in said) left files answer.status answer.text.items some c.in-Ok.ensures.answer in
    let front = subst (λ (t : Text). (count : ℕ) × AppendsWhereTold (g.O.Sink.given c.args.output.now) (g.O.Sink.given c.give_all.new.output) (take count t)) c.deref.ensures.value c.in-Err.ensures.front in
    write_fault_writes g.O.Sink.given asked given answer.status answer.text.items c.args.output.now c.give_all.new.output answers front

pub returns-in-Ok-clause-promise : goal.returns-in-Ok-clause-promise
returns-in-Ok-clause-promise g c =
    let said = texts c.args.words.now.items in
    let asked = form_of said in
    let left = g.I.Source.left c.args.input.now in
    let files = g.F.Files.contents c.args.files.now in
    let given = given_by said left files in
    fault_promise asked given status.WriteFault (g.O.Sink.given c.args.output.now) (g.O.Sink.given c.give_all.new.output) (λ is. cc) (λ is. cc) tt

pub returns-in-Ok-clause-reads : goal.returns-in-Ok-clause-reads
returns-in-Ok-clause-reads g c =
    let said = texts c.args.words.now.items in
    let asked = form_of said in
    let left = g.I.Source.left c.args.input.now in
    let files = g.F.Files.contents c.args.files.now in
    let given = given_by said left files in
    let some = sym c.form_of.ensures ∙ c.in-Some.is in
    let answer = c.in-Ok.answer in
    let answers = asked_answers asked c.in-Some.form (names_in said) left files answer.status answer.text.items some c.in-Ok.ensures.answer in
    let reads = asked_reads g.I.Source.left asked c.in-Some.form (names_in said) left files _ c.in-Ok.answer.status c.in-Ok.answer.status c.args.input.now c.answer_to.new.input some refl c.in-Ok.ensures.reads in
    reads_unwritten g.I.Source.left asked given _ answer.status c.args.input.now c.answer_to.new.input answers.answered reads

pub returns-in-Ok-clause-files : goal.returns-in-Ok-clause-files
returns-in-Ok-clause-files g c =
    let said = texts c.args.words.now.items in
    let asked = form_of said in
    let left = g.I.Source.left c.args.input.now in
    let files = g.F.Files.contents c.args.files.now in
    let given = given_by said left files in
    let some = sym c.form_of.ensures ∙ c.in-Some.is in
    asked_files g.F.Files.contents asked c.in-Some.form (names_in said) c.args.files.now c.answer_to.new.files some c.in-Ok.ensures.files

pub returns-in-Err-Failed-clause-ends : goal.returns-in-Err-Failed-clause-ends
returns-in-Err-Failed-clause-ends g c =
    let said = texts c.args.words.now.items in
    let asked = form_of said in
    let left = g.I.Source.left c.args.input.now in
    let files = g.F.Files.contents c.args.files.now in
    let given = given_by said left files in
    let some = sym c.form_of.ensures ∙ c.in-Some.is in
    let caused = asked_caused asked c.in-Some.form (names_in said) left files (status_of_answer (Err c.in-Err-Failed.field-0)) status.ReadFault _ _ some (ap (λ (e : InputFault). status_of_answer (Err e)) c.in-Err-Failed.field-0-is) c.in-Err-Failed.ensures.caused in
    read_fault_ends asked c.in-Some.form given left _ some (caused.read_fault refl)

pub returns-in-Err-Failed-clause-writes : goal.returns-in-Err-Failed-clause-writes
returns-in-Err-Failed-clause-writes g c =
    let said = texts c.args.words.now.items in
    let asked = form_of said in
    let left = g.I.Source.left c.args.input.now in
    let files = g.F.Files.contents c.args.files.now in
    let given = given_by said left files in
    read_fault_writes g.O.Sink.given asked given c.args.output.now

pub returns-in-Err-Failed-clause-promise : goal.returns-in-Err-Failed-clause-promise
returns-in-Err-Failed-clause-promise g c =
    let said = texts c.args.words.now.items in
    let asked = form_of said in
    let left = g.I.Source.left c.args.input.now in
    let files = g.F.Files.contents c.args.files.now in
    let given = given_by said left files in
    fault_promise asked given status.ReadFault (g.O.Sink.given c.args.output.now) (g.O.Sink.given c.args.output.now) (λ is. cc) (λ is. cc) tt

pub returns-in-Err-Failed-clause-reads : goal.returns-in-Err-Failed-clause-reads
returns-in-Err-Failed-clause-reads g c =
    let said = texts c.args.words.now.items in
    let asked = form_of said in
    let left = g.I.Source.left c.args.input.now in
    let files = g.F.Files.contents c.args.files.now in
    let given = given_by said left files in
    let some = sym c.form_of.ensures ∙ c.in-Some.is in
    asked_reads g.I.Source.left asked c.in-Some.form (names_in said) left files _ (status_of_answer (Err c.in-Err-Failed.field-0)) status.ReadFault c.args.input.now c.answer_to.new.input some
    (ap (λ (e : InputFault). status_of_answer (Err e)) c.in-Err-Failed.field-0-is) c.in-Err-Failed.ensures.reads

pub returns-in-Err-Failed-clause-files : goal.returns-in-Err-Failed-clause-files
returns-in-Err-Failed-clause-files g c =
    let said = texts c.args.words.now.items in
    let asked = form_of said in
    let left = g.I.Source.left c.args.input.now in
    let files = g.F.Files.contents c.args.files.now in
    let given = given_by said left files in
    let some = sym c.form_of.ensures ∙ c.in-Some.is in
    asked_files g.F.Files.contents asked c.in-Some.form (names_in said) c.args.files.now c.answer_to.new.files some c.in-Err-Failed.ensures.files

pub returns-clause-ends : goal.returns-clause-ends
returns-clause-ends g c =
    let said = texts c.args.words.now.items in
    let asked = form_of said in
    let left = g.I.Source.left c.args.input.now in
    let files = g.F.Files.contents c.args.files.now in
    let given = given_by said left files in
    let some = sym c.form_of.ensures ∙ c.in-Some.is in
    memory_ends asked c.in-Some.form given left _ some

pub returns-clause-writes : goal.returns-clause-writes
returns-clause-writes g c =
    let said = texts c.args.words.now.items in
    let asked = form_of said in
    let left = g.I.Source.left c.args.input.now in
    let files = g.F.Files.contents c.args.files.now in
    let given = given_by said left files in
    memory_writes g.O.Sink.given asked given c.args.output.now

pub returns-clause-promise : goal.returns-clause-promise
returns-clause-promise g c =
    let said = texts c.args.words.now.items in
    let asked = form_of said in
    let left = g.I.Source.left c.args.input.now in
    let files = g.F.Files.contents c.args.files.now in
    let given = given_by said left files in
    fault_promise asked given status.Memory (g.O.Sink.given c.args.output.now) (g.O.Sink.given c.args.output.now) (λ is. cc) (λ is. cc) tt

pub returns-clause-reads : goal.returns-clause-reads
returns-clause-reads g c =
    let said = texts c.args.words.now.items in
    let asked = form_of said in
    let left = g.I.Source.left c.args.input.now in
    let files = g.F.Files.contents c.args.files.now in
    let given = given_by said left files in
    let some = sym c.form_of.ensures ∙ c.in-Some.is in
    asked_reads g.I.Source.left asked c.in-Some.form (names_in said) left files _ (status_of_answer (Err c.in-Err-Memory.field-0)) status.Memory c.args.input.now c.answer_to.new.input some
    (ap (λ (e : InputFault). status_of_answer (Err e)) c.in-Err-Memory.field-0-is) c.in-Err-Memory.ensures.reads

pub returns-clause-files : goal.returns-clause-files
returns-clause-files g c =
    let said = texts c.args.words.now.items in
    let asked = form_of said in
    let left = g.I.Source.left c.args.input.now in
    let files = g.F.Files.contents c.args.files.now in
    let given = given_by said left files in
    let some = sym c.form_of.ensures ∙ c.in-Some.is in
    asked_files g.F.Files.contents asked c.in-Some.form (names_in said) c.args.files.now c.answer_to.new.files some c.in-Err-Memory.ensures.files
