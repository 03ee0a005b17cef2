use Rattle.std.proofs.Common.{[]}
use Rattle.house_model.specs.declared.goal.Goal.TheVariants as goals
use Rattle.house_top.proofs.AnswerLemmas.{some_lines}
use Rattle.house_top.proofs.ReadLemmas.{opened-none, reads_fault}
use Rattle.house_top.proofs.ReserveLemmas.{reserve_heard, reserve_heard_reads}
use Rattle.input_run.specs.declared.fault.InputFault.TheVariants as fault
use Rattle.house_top.proofs.forms.reserved.reserve_input.Goals as goal

pub hear_input-requires : goal.hear_input-requires
hear_input-requires g c = ([], opened-none goals.Run c.new.result c.new.ensures.taken)

pub reserve_heard-requires : goal.reserve_heard-requires
reserve_heard-requires g c =
    some_lines goals.Run [] (g.I.Source.left c.args.input.now) (g.I.Source.left c.hear_input.new.input) c.in-Ok.heard
    (c.in-Ok.ensures.heard [] (opened-none goals.Run c.new.result c.new.ensures.taken))

pub returns-in-Ok-reserve_heard-clause-answer : goal.returns-in-Ok-reserve_heard-clause-answer
returns-in-Ok-reserve_heard-clause-answer g c =
    reserve_heard c.args.bytes.now (g.I.Source.left c.args.input.now) (g.I.Source.left c.hear_input.new.input) c.in-Ok.heard c.in-Ok-reserve_heard.answer
    (c.in-Ok.ensures.heard [] (opened-none goals.Run c.new.result c.new.ensures.taken)) c.in-Ok-reserve_heard.ensures

pub returns-in-Ok-reserve_heard-clause-reads : goal.returns-in-Ok-reserve_heard-clause-reads
returns-in-Ok-reserve_heard-clause-reads g c =
    let opened = opened-none goals.Run c.new.result c.new.ensures.taken in
    reserve_heard_reads g.I.Source.left c.args.bytes.now c.in-Ok.heard c.in-Ok-reserve_heard.answer c.args.input.now c.hear_input.new.input
    (c.in-Ok.ensures.heard [] opened) c.in-Ok-reserve_heard.ensures (c.in-Ok.ensures.decided [] opened) (c.in-Ok.ensures.no_further [] opened)

pub returns-in-Ok-clause-reads : goal.returns-in-Ok-clause-reads
returns-in-Ok-clause-reads g c =
    reads_fault g.I.Source.left goals.Run [] fault.Memory c.args.input.now c.hear_input.new.input (λ is. absurd (let wrong : ⊥ = cc in wrong))
    (c.in-Ok.ensures.no_further [] (opened-none goals.Run c.new.result c.new.ensures.taken))

pub returns-clause-reads : goal.returns-clause-reads
returns-clause-reads g c =
    let opened = opened-none goals.Run c.new.result c.new.ensures.taken in
    reads_fault g.I.Source.left goals.Run [] c.in-Err.fault c.args.input.now c.hear_input.new.input (λ same. c.in-Err.ensures.undecided [] opened (cc)) (c.in-Err.ensures.no_further [] opened)
