use Rattle.std.proofs.Common.{◌∙◌}
use Rattle.house_model.specs.declared.goal.Goal.TheVariants as run
use Rattle.twin_check.proofs.RunLemmas.{done_call, done_told, few_told, refused_call, refused_told, short_call, short_told}
use Rattle.twin_check.proofs.run.told.Goals as goal

pub half_in-requires : goal.half_in-requires
half_in-requires c =
    let ran = c.requires.1 in
    few_told c.args.name c.requires.0 c.args.house.now c.in-Ok.outcome ran (c.in-Ok.ensures.ends run.Run ran.front ran.stands ran.few)

pub returns-in-Ok-clause-half : goal.returns-in-Ok-clause-half
returns-in-Ok-clause-half c = λ all ran.
    c.half_in.ensures ∙ done_told c.args.name all c.args.house.now c.in-Ok.outcome ran (c.in-Ok.ensures.ends run.Run ran.front ran.stands ran.few)

pub returns-in-Ok-clause-of_call : goal.returns-in-Ok-clause-of_call
returns-in-Ok-clause-of_call c = λ all ran.
    done_call all c.args.house.now c.in-Ok.outcome ran (c.in-Ok.ensures.ends run.Run ran.front ran.stands ran.few)

pub returns-in-Err-Refused-clause-half : goal.returns-in-Err-Refused-clause-half
returns-in-Err-Refused-clause-half c = λ all ran.
    rw (c.in-Err-Refused.line-is, c.in-Err-Refused.reason-is)
    (refused_told c.args.name all c.args.house.now c.in-Err-Refused.line c.in-Err-Refused.reason ran
    (rw c.in-Err-Refused.field-0-is at (c.in-Err-Refused.ensures.ends run.Run ran.front ran.stands ran.few)))

pub returns-in-Err-Refused-clause-of_call : goal.returns-in-Err-Refused-clause-of_call
returns-in-Err-Refused-clause-of_call c = λ all ran.
    refused_call all c.args.house.now c.in-Err-Refused.line c.in-Err-Refused.reason ran
    (rw c.in-Err-Refused.field-0-is at (c.in-Err-Refused.ensures.ends run.Run ran.front ran.stands ran.few))

pub returns-in-Err-Short-clause-half : goal.returns-in-Err-Short-clause-half
returns-in-Err-Short-clause-half c = λ all ran.
    short_told c.args.name all c.args.house.now ran (rw c.in-Err-Short.field-0-is at (c.in-Err-Short.ensures.ends run.Run ran.front ran.stands ran.few))

pub returns-in-Err-Short-clause-of_call : goal.returns-in-Err-Short-clause-of_call
returns-in-Err-Short-clause-of_call c = λ all ran.
    short_call all c.args.house.now ran (rw c.in-Err-Short.field-0-is at (c.in-Err-Short.ensures.ends run.Run ran.front ran.stands ran.few))
