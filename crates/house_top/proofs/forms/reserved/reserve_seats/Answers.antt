use Rattle.std.proofs.Common.{◌≡◌, arith}
use Rattle.input_run.specs.declared.fault.InputFault.TheVariants as fault
use Rattle.house_top.proofs.ReserveLemmas.{fault_reads, file_loaded, file_long, loaded_answers, loaded_caused, loaded_reads, long_answers, long_caused, long_reads, where_long}
use Rattle.house_top.proofs.forms.reserved.reserve_seats.Goals as goal

pub returns-in-Ok-clause-answer : goal.returns-in-Ok-clause-answer
returns-in-Ok-clause-answer g c =
    let name = c.args.name.now in
    let files = g.F.Files.contents c.args.files.now in
    let bytes = c.in-Ok.bytes.items in
    loaded_answers name c.deref.result.now c.reserve_input.result (g.I.Source.left c.args.input.now) files
    (rw c.deref.ensures.value (file_loaded name bytes files c.in-Ok.ensures.content (omega (arith, c.in-Ok.ensures.short, c.in-Ok.bytes.ok.0)))) c.reserve_input.ensures.answer

pub returns-in-Ok-clause-caused : goal.returns-in-Ok-clause-caused
returns-in-Ok-clause-caused g c =
    loaded_caused c.deref.result.now c.reserve_input.result _ (g.I.Source.left c.args.input.now) _ _ c.reserve_input.ensures.answer c.reserve_input.ensures.failed

pub returns-in-Ok-clause-reads : goal.returns-in-Ok-clause-reads
returns-in-Ok-clause-reads g c =
    let name = c.args.name.now in
    let files = g.F.Files.contents c.args.files.now in
    let bytes = c.in-Ok.bytes.items in
    loaded_reads g.I.Source.left name c.deref.result.now c.reserve_input.result files _ c.args.input.now c.reserve_input.new.input
    (rw c.deref.ensures.value (file_loaded name bytes files c.in-Ok.ensures.content (omega (arith, c.in-Ok.ensures.short, c.in-Ok.bytes.ok.0)))) c.reserve_input.ensures.answer c.reserve_input.ensures.reads

pub returns-in-Ok-too_long-clause-answer : goal.returns-in-Ok-too_long-clause-answer
returns-in-Ok-too_long-clause-answer g c =
    let name = c.args.name.now in
    let files = g.F.Files.contents c.args.files.now in
    let long = file_long name files (g.F.Files.faults c.args.files.now) (g.F.Files.faults c.load.new.self) (c.in-Err-Long.ensures.long (cc)) in
    long_answers name c.in-Ok-too_long.answer.status c.in-Ok-too_long.answer.text.items (g.I.Source.left c.args.input.now) files
    (where_long name files (g.F.Files.faults c.args.files.now) (g.F.Files.faults c.load.new.self) long) c.in-Ok-too_long.ensures.status c.in-Ok-too_long.ensures.text

pub returns-in-Ok-too_long-clause-caused : goal.returns-in-Ok-too_long-clause-caused
returns-in-Ok-too_long-clause-caused g c =
    let name = c.args.name.now in
    let files = g.F.Files.contents c.args.files.now in
    let long = file_long name files (g.F.Files.faults c.args.files.now) (g.F.Files.faults c.load.new.self) (c.in-Err-Long.ensures.long (cc)) in
    long_caused name c.in-Ok-too_long.answer.status (g.I.Source.left c.args.input.now) files _ (g.F.Files.faults c.args.files.now, g.F.Files.faults c.load.new.self) c.in-Ok-too_long.ensures.status long

pub returns-in-Ok-too_long-clause-reads : goal.returns-in-Ok-too_long-clause-reads
returns-in-Ok-too_long-clause-reads g c =
    let name = c.args.name.now in
    let files = g.F.Files.contents c.args.files.now in
    let long = file_long name files (g.F.Files.faults c.args.files.now) (g.F.Files.faults c.load.new.self) (c.in-Err-Long.ensures.long (cc)) in
    long_reads g.I.Source.left name c.in-Ok-too_long.answer.status files _ c.args.input.now c.in-Ok-too_long.ensures.status
    (where_long name files (g.F.Files.faults c.args.files.now) (g.F.Files.faults c.load.new.self) long)

pub returns-in-Err-Failed-clause-reads : goal.returns-in-Err-Failed-clause-reads
returns-in-Err-Failed-clause-reads g c =
    fault_reads g.I.Source.left fault.Failed c.args.name.now (g.F.Files.contents c.args.files.now) _ c.args.input.now (λ is. c.in-Err-Failed.ensures.failed (cc))

pub returns-in-Err-Memory-clause-reads : goal.returns-in-Err-Memory-clause-reads
returns-in-Err-Memory-clause-reads g c =
    fault_reads g.I.Source.left fault.Memory c.args.name.now (g.F.Files.contents c.args.files.now) _ c.args.input.now (λ is. absurd (let wrong : fault.Memory ≡ fault.Failed = is in cc))
