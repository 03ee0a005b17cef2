use Rattle.std.proofs.Common.{◌∷◌, []}
use Rattle.house_top.specs.declared.status.Status.TheVariants as status
use Rattle.input_run.specs.declared.fault.InputFault.TheVariants as fault
use Rattle.house_top.proofs.FormLemmas.{all_answers, bad_answer_caused, fault_caused, fault_reads, few_lines, kept, lines_caused, lines_reads, long_answer_caused, opens_bad, opens_lines, opens_long, refused_answer_reads, refused_answers}
use Rattle.house_top.proofs.forms.opened.run_opened.Goals as goal

pub open_files-requires-clause-call : goal.open_files-requires-clause-call
open_files-requires-clause-call g c =
    c.requires.call

pub open_files-requires-clause-register : goal.open_files-requires-clause-register
open_files-requires-clause-register g c =
    c.requires.register

pub run_lines-requires : goal.run_lines-requires
run_lines-requires g c =
    few_lines c.in-Ok-Lines.field-0 c.in-Ok-Lines.lines c.in-Ok-Lines.field-0-is c.in-Ok-Lines.ensures.few

pub returns-in-Ok-Lines-clause-answer : goal.returns-in-Ok-Lines-clause-answer
returns-in-Ok-Lines-clause-answer g c =
    let names = c.args.call.now ∷ c.args.register.now ∷ [] in
    let left = g.I.Source.left c.args.input.now in
    let files = g.F.Files.contents c.args.files.now in
    let opens = opens_lines names files c.in-Ok-Lines.field-0 c.in-Ok-Lines.lines c.in-Ok-Lines.field-0-is c.in-Ok-Lines.ensures.opened in
    all_answers c.run_lines.result c.in-Ok-Lines.lines names left files opens c.run_lines.ensures.answer

pub returns-in-Ok-Lines-clause-caused : goal.returns-in-Ok-Lines-clause-caused
returns-in-Ok-Lines-clause-caused g c =
    lines_caused c.run_lines.result c.in-Ok-Lines.lines _ (g.I.Source.left c.args.input.now) _ _ c.run_lines.ensures.answer c.run_lines.ensures.failed

pub returns-in-Ok-Lines-clause-reads : goal.returns-in-Ok-Lines-clause-reads
returns-in-Ok-Lines-clause-reads g c =
    let names = c.args.call.now ∷ c.args.register.now ∷ [] in
    let left = g.I.Source.left c.args.input.now in
    let files = g.F.Files.contents c.args.files.now in
    let opens = opens_lines names files c.in-Ok-Lines.field-0 c.in-Ok-Lines.lines c.in-Ok-Lines.field-0-is c.in-Ok-Lines.ensures.opened in
    lines_reads g.I.Source.left c.run_lines.result c.in-Ok-Lines.lines names files (g.F.Files.faults c.args.files.now, g.F.Files.faults c.open_files.new.files) c.args.input.now c.run_lines.new.input opens c.run_lines.ensures.answer c.run_lines.ensures.reads

pub returns-in-Ok-Lines-clause-files : goal.returns-in-Ok-Lines-clause-files
returns-in-Ok-Lines-clause-files g c =
    kept g.F.Files.contents c.args.call.now (c.args.register.now ∷ []) c.args.files.now c.open_files.new.files c.open_files.ensures.unchanged

pub returns-in-Ok-clause-files : goal.returns-in-Ok-clause-files
returns-in-Ok-clause-files g c =
    kept g.F.Files.contents c.args.call.now (c.args.register.now ∷ []) c.args.files.now c.open_files.new.files c.open_files.ensures.unchanged

pub returns-in-Err-bad_file-clause-files : goal.returns-in-Err-bad_file-clause-files
returns-in-Err-bad_file-clause-files g c =
    kept g.F.Files.contents c.args.call.now (c.args.register.now ∷ []) c.args.files.now c.open_files.new.files c.open_files.ensures.unchanged

pub returns-in-Ok-too_long-clause-files : goal.returns-in-Ok-too_long-clause-files
returns-in-Ok-too_long-clause-files g c =
    kept g.F.Files.contents c.args.call.now (c.args.register.now ∷ []) c.args.files.now c.open_files.new.files c.open_files.ensures.unchanged

pub returns-in-Err-too_long-clause-files : goal.returns-in-Err-too_long-clause-files
returns-in-Err-too_long-clause-files g c =
    kept g.F.Files.contents c.args.call.now (c.args.register.now ∷ []) c.args.files.now c.open_files.new.files c.open_files.ensures.unchanged

pub returns-in-Err-clause-files : goal.returns-in-Err-clause-files
returns-in-Err-clause-files g c =
    kept g.F.Files.contents c.args.call.now (c.args.register.now ∷ []) c.args.files.now c.open_files.new.files c.open_files.ensures.unchanged

pub returns-in-Ok-clause-answer : goal.returns-in-Ok-clause-answer
returns-in-Ok-clause-answer g c =
    let names = c.args.call.now ∷ c.args.register.now ∷ [] in
    let left = g.I.Source.left c.args.input.now in
    let files = g.F.Files.contents c.args.files.now in
    let opens = opens_bad names files c.in-Ok-Bad.field-0 c.in-Ok-Bad.why c.in-Ok-Bad.field-0-is c.in-Ok-Bad.ensures.opened in
    refused_answers (status.BadFile c.in-Ok-Bad.why) names left files c.in-Ok.answer.status c.in-Ok.answer.text.items opens tt c.in-Ok.ensures.status c.in-Ok.ensures.text

pub returns-in-Ok-clause-caused : goal.returns-in-Ok-clause-caused
returns-in-Ok-clause-caused g c =
    bad_answer_caused c.in-Ok.answer.status c.in-Ok-Bad.field-0 c.in-Ok-Bad.why _ _ _ _ c.in-Ok.ensures.status c.in-Ok-Bad.field-0-is c.in-Ok-Bad.ensures.bad

pub returns-in-Ok-clause-reads : goal.returns-in-Ok-clause-reads
returns-in-Ok-clause-reads g c =
    let names = c.args.call.now ∷ c.args.register.now ∷ [] in
    let left = g.I.Source.left c.args.input.now in
    let files = g.F.Files.contents c.args.files.now in
    let opens = opens_bad names files c.in-Ok-Bad.field-0 c.in-Ok-Bad.why c.in-Ok-Bad.field-0-is c.in-Ok-Bad.ensures.opened in
    refused_answer_reads g.I.Source.left c.in-Ok.answer.status (status.BadFile c.in-Ok-Bad.why) names files (g.F.Files.faults c.args.files.now, g.F.Files.faults c.open_files.new.files) c.args.input.now
    c.in-Ok.ensures.status opens tt (λ is. cc)

pub returns-in-Ok-too_long-clause-answer : goal.returns-in-Ok-too_long-clause-answer
returns-in-Ok-too_long-clause-answer g c =
    let names = c.args.call.now ∷ c.args.register.now ∷ [] in
    let left = g.I.Source.left c.args.input.now in
    let files = g.F.Files.contents c.args.files.now in
    let opens = opens_long names files c.in-Ok-TooLong.field-0 c.in-Ok-TooLong.field-0-is c.in-Ok-TooLong.ensures.opened in
    refused_answers status.TooLong names left files c.in-Ok-too_long.answer.status c.in-Ok-too_long.answer.text.items opens tt c.in-Ok-too_long.ensures.status c.in-Ok-too_long.ensures.text

pub returns-in-Ok-too_long-clause-caused : goal.returns-in-Ok-too_long-clause-caused
returns-in-Ok-too_long-clause-caused g c =
    let names = c.args.call.now ∷ c.args.register.now ∷ [] in
    let left = g.I.Source.left c.args.input.now in
    let files = g.F.Files.contents c.args.files.now in
    let opens = opens_long names files c.in-Ok-TooLong.field-0 c.in-Ok-TooLong.field-0-is c.in-Ok-TooLong.ensures.opened in
    long_answer_caused c.in-Ok-too_long.answer.status names left files _ (g.F.Files.faults c.args.files.now, g.F.Files.faults c.open_files.new.files) c.in-Ok-too_long.ensures.status opens
    (c.in-Ok-TooLong.ensures.too_long (cc))

pub returns-in-Ok-too_long-clause-reads : goal.returns-in-Ok-too_long-clause-reads
returns-in-Ok-too_long-clause-reads g c =
    let names = c.args.call.now ∷ c.args.register.now ∷ [] in
    let left = g.I.Source.left c.args.input.now in
    let files = g.F.Files.contents c.args.files.now in
    let opens = opens_long names files c.in-Ok-TooLong.field-0 c.in-Ok-TooLong.field-0-is c.in-Ok-TooLong.ensures.opened in
    refused_answer_reads g.I.Source.left c.in-Ok-too_long.answer.status status.TooLong names files (g.F.Files.faults c.args.files.now, g.F.Files.faults c.open_files.new.files) c.args.input.now
    c.in-Ok-too_long.ensures.status opens tt (λ is. cc)

pub returns-in-Err-bad_file-clause-caused : goal.returns-in-Err-bad_file-clause-caused
returns-in-Err-bad_file-clause-caused g c =
    fault_caused fault.Memory _ _ _ _ (λ is. absurd (let wrong : ⊥ = cc in wrong))

pub returns-in-Err-bad_file-clause-reads : goal.returns-in-Err-bad_file-clause-reads
returns-in-Err-bad_file-clause-reads g c =
    fault_reads g.I.Source.left fault.Memory (c.args.call.now ∷ c.args.register.now ∷ []) (g.F.Files.contents c.args.files.now) (g.F.Files.faults c.args.files.now, g.F.Files.faults c.open_files.new.files) c.args.input.now (λ is. absurd (let wrong : ⊥ = cc in wrong))

pub returns-in-Err-too_long-clause-caused : goal.returns-in-Err-too_long-clause-caused
returns-in-Err-too_long-clause-caused g c =
    fault_caused fault.Memory _ _ _ _ (λ is. absurd (let wrong : ⊥ = cc in wrong))

pub returns-in-Err-too_long-clause-reads : goal.returns-in-Err-too_long-clause-reads
returns-in-Err-too_long-clause-reads g c =
    fault_reads g.I.Source.left fault.Memory (c.args.call.now ∷ c.args.register.now ∷ []) (g.F.Files.contents c.args.files.now) (g.F.Files.faults c.args.files.now, g.F.Files.faults c.open_files.new.files) c.args.input.now (λ is. absurd (let wrong : ⊥ = cc in wrong))

pub returns-in-Err-clause-caused : goal.returns-in-Err-clause-caused
returns-in-Err-clause-caused g c =
    fault_caused c.in-Err.fault _ _ _ _ (λ is. c.in-Err.ensures.failed (cc))

pub returns-in-Err-clause-reads : goal.returns-in-Err-clause-reads
returns-in-Err-clause-reads g c =
    fault_reads g.I.Source.left c.in-Err.fault (c.args.call.now ∷ c.args.register.now ∷ []) (g.F.Files.contents c.args.files.now) (g.F.Files.faults c.args.files.now, g.F.Files.faults c.open_files.new.files) c.args.input.now (λ is. c.in-Err.ensures.failed (cc))
