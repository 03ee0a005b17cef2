use Rattle.std.proofs.Common.{◌≡◌}
use Rattle.input_run.specs.declared.fault.InputFault.TheVariants as fault
use Rattle.house_top.proofs.AnswerLemmas.{input_answer, some_lines}
use Rattle.house_top.proofs.ReadLemmas.{reads_answer, reads_fault}
use Rattle.house_top.proofs.run.run_behind.Goals as goal

pub hear_input-requires : goal.hear_input-requires
hear_input-requires g c = c.requires

pub answer_heard-requires : goal.answer_heard-requires
answer_heard-requires g c =
    let opening = c.requires.0 in
    some_lines c.args.goal opening (g.I.Source.left c.args.input.now) (g.I.Source.left c.hear_input.new.input) c.in-Ok.heard (c.in-Ok.ensures.heard opening c.requires.1)

pub returns-in-Ok-answer_heard-clause-answer : goal.returns-in-Ok-answer_heard-clause-answer
returns-in-Ok-answer_heard-clause-answer g c = λ opening opened.
    let answer = c.in-Ok-answer_heard.answer in
    input_answer c.args.goal opening (g.I.Source.left c.args.input.now) (g.I.Source.left c.hear_input.new.input) c.in-Ok.heard answer.status answer.text.items (c.in-Ok.ensures.heard opening opened) c.in-Ok-answer_heard.ensures

pub returns-in-Ok-answer_heard-clause-failed : goal.returns-in-Ok-answer_heard-clause-failed
returns-in-Ok-answer_heard-clause-failed g c = λ is. cc

pub returns-in-Ok-answer_heard-clause-reads : goal.returns-in-Ok-answer_heard-clause-reads
returns-in-Ok-answer_heard-clause-reads g c = λ opening opened.
    let before = g.I.Source.left c.args.input.now in
    let after = g.I.Source.left c.hear_input.new.input in
    let answer = c.in-Ok-answer_heard.answer in
    let answers = input_answer c.args.goal opening before after c.in-Ok.heard answer.status answer.text.items (c.in-Ok.ensures.heard opening opened) c.in-Ok-answer_heard.ensures in
    reads_answer g.I.Source.left c.args.goal opening c.in-Ok.heard answer.status answer.text.items c.args.input.now c.hear_input.new.input answers.answered
    (c.in-Ok.ensures.heard opening opened) c.in-Ok-answer_heard.ensures (c.in-Ok.ensures.decided opening opened) (c.in-Ok.ensures.no_further opening opened)

pub returns-in-Ok-clause-failed : goal.returns-in-Ok-clause-failed
returns-in-Ok-clause-failed g c = λ is. cc

pub returns-in-Ok-clause-reads : goal.returns-in-Ok-clause-reads
returns-in-Ok-clause-reads g c = λ opening opened.
    reads_fault g.I.Source.left c.args.goal opening fault.Memory c.args.input.now c.hear_input.new.input (λ is. absurd (let wrong : ⊥ = cc in wrong)) (c.in-Ok.ensures.no_further opening opened)

pub returns-clause-failed : goal.returns-clause-failed
returns-clause-failed g c = λ is.
    let same : c.in-Err.fault ≡ fault.Failed = cc in
    c.in-Err.ensures.failed (cc)

pub returns-clause-reads : goal.returns-clause-reads
returns-clause-reads g c = λ opening opened.
    reads_fault g.I.Source.left c.args.goal opening c.in-Err.fault c.args.input.now c.hear_input.new.input (λ same. c.in-Err.ensures.undecided opening opened (cc)) (c.in-Err.ensures.no_further opening opened)
