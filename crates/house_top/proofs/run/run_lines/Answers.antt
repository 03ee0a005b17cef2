use Rattle.house_model.specs.declared.goal.Goal.TheVariants as goals
use Rattle.input_run.proofs.EndLemmas.{goes_on}
use Rattle.house_top.specs.Answer.{status_of_answer}
use Rattle.house_top.proofs.ReadLemmas.{ended_answers, ended_reads, going_reads, going_result, memory_reads, opened_ended, opened_going}
use Rattle.house_top.proofs.run.run_lines.Goals as goal

pub run_behind-requires : goal.run_behind-requires
run_behind-requires g c =
    (c.args.lines.now, opened_going c.args.lines.now c.in-Ok-Going.field-0 c.take_opening.new.run c.in-Ok-Going.field-0-is (c.in-Ok-Going.ensures.takes c.new-run.ensures.taken c.requires))

pub returns-in-Ok-Going-clause-answer : goal.returns-in-Ok-Going-clause-answer
returns-in-Ok-Going-clause-answer g c =
    let lines = c.args.lines.now in
    let opened = opened_going lines c.in-Ok-Going.field-0 c.take_opening.new.run c.in-Ok-Going.field-0-is (c.in-Ok-Going.ensures.takes c.new-run.ensures.taken c.requires) in
    going_result c.run_behind.result lines (g.I.Source.left c.args.input.now) (goes_on goals.Run lines opened.go_on) (c.run_behind.ensures.answer lines opened)

pub returns-in-Ok-Going-clause-failed : goal.returns-in-Ok-Going-clause-failed
returns-in-Ok-Going-clause-failed g c = c.run_behind.ensures.failed

pub returns-in-Ok-Going-clause-reads : goal.returns-in-Ok-Going-clause-reads
returns-in-Ok-Going-clause-reads g c =
    let lines = c.args.lines.now in
    let opened = opened_going lines c.in-Ok-Going.field-0 c.take_opening.new.run c.in-Ok-Going.field-0-is (c.in-Ok-Going.ensures.takes c.new-run.ensures.taken c.requires) in
    going_reads g.I.Source.left lines (status_of_answer c.run_behind.result) c.args.input.now c.run_behind.new.input (goes_on goals.Run lines opened.go_on) (c.run_behind.ensures.reads lines opened)

pub answer_of-requires : goal.answer_of-requires
answer_of-requires g c =
    let taken = opened_ended c.args.lines.now c.in-Ok-Ended.field-0 c.take_opening.new.run c.in-Ok-Ended.field-0-is (c.in-Ok-Ended.ensures.takes c.new-run.ensures.taken c.requires) in
    (taken.0, taken.3)

pub returns-in-Ok-clause-answer : goal.returns-in-Ok-clause-answer
returns-in-Ok-clause-answer g c =
    let lines = c.args.lines.now in
    let taken = opened_ended lines c.in-Ok-Ended.field-0 c.take_opening.new.run c.in-Ok-Ended.field-0-is (c.in-Ok-Ended.ensures.takes c.new-run.ensures.taken c.requires) in
    let answer = c.in-Ok.answer in
    ended_answers lines taken.0 taken.1 (g.I.Source.left c.args.input.now) answer.status answer.text.items taken.2 taken.3.looked taken.4 (c.in-Ok.ensures taken.0 taken.3)

pub returns-in-Ok-clause-failed : goal.returns-in-Ok-clause-failed
returns-in-Ok-clause-failed g c = λ is. cc

pub returns-in-Ok-clause-reads : goal.returns-in-Ok-clause-reads
returns-in-Ok-clause-reads g c =
    let lines = c.args.lines.now in
    let taken = opened_ended lines c.in-Ok-Ended.field-0 c.take_opening.new.run c.in-Ok-Ended.field-0-is (c.in-Ok-Ended.ensures.takes c.new-run.ensures.taken c.requires) in
    let answer = c.in-Ok.answer in
    ended_reads g.I.Source.left lines taken.0 taken.1 answer.status answer.text.items c.args.input.now taken.2 taken.3.looked taken.4 (c.in-Ok.ensures taken.0 taken.3)

pub returns-in-Ok-Ended-clause-failed : goal.returns-in-Ok-Ended-clause-failed
returns-in-Ok-Ended-clause-failed g c = λ is. cc

pub returns-in-Ok-Ended-clause-reads : goal.returns-in-Ok-Ended-clause-reads
returns-in-Ok-Ended-clause-reads g c = memory_reads g.I.Source.left c.args.lines.now c.args.input.now

pub returns-clause-failed : goal.returns-clause-failed
returns-clause-failed g c = λ is. cc

pub returns-clause-reads : goal.returns-clause-reads
returns-clause-reads g c = memory_reads g.I.Source.left c.args.lines.now c.args.input.now
