use Rattle.std.proofs.Common.{Some, refl, sym, subst}
use Rattle.house_base.specs.Setting.{Setting}
use Rattle.house_model.specs.Ending.{Ended, in_force}
use Rattle.house_model.specs.Runs.{end_of, halt}
use Rattle.house_model.specs.Said.{run_pairs}
use Rattle.house_core.specs.declared.step.Ending.TheVariants as ending
use Rattle.house_core.specs.Ends.{IsEnding}
use Rattle.house_core.specs.Standing.{HoldsPairs}
use Rattle.end_text.proofs.EndLemmas.{assigned_end, both, reported_end, short_end, told_end}
use Rattle.end_text.proofs.text.end_text.Goals as goal

pub returns-in-Done : goal.returns-in-Done
returns-in-Done c = λ lines stands few.
    let g = c.args.goal in
    let said = in_force (halt g) lines in
    let answer = ending.Done c.in-Done.outcome in
    let ends = c.in-Done.ensures.ends g lines stands few in
    let done = told_end (end_of g lines) Ended.Done g said answer ends refl in
    let outcome = subst (λ (e : Ended). IsEnding e g said answer) done ends in
    both c.reported.result c.reported.ensures.end c.reported.ensures.text
    (λ told end text. reported_end g lines told.end told.text.items c.in-Done.outcome done outcome end text)

pub returns-in-Short : goal.returns-in-Short
returns-in-Short c = λ lines stands few.
    let g = c.args.goal in
    let said = in_force (halt g) lines in
    let answer = ending.Short c.in-Short.plan c.in-Short.cut in
    let ends = c.in-Short.ensures.ends g lines stands few in
    let short = told_end (end_of g lines) Ended.Short g said answer ends refl in
    let shown = subst (λ (e : Ended). IsEnding e g said answer) short ends in
    both c.short.result c.short.ensures.end c.short.ensures.text
    (λ told end text. short_end g lines told.end told.text.items c.in-Short.plan.now c.in-Short.cut.now short shown.0 shown.1 end text)

pub returns-in-Settled-default-Some : goal.returns-in-Settled-default-Some
returns-in-Settled-default-Some c = λ lines stands few.
    let g = c.args.goal in
    let said = in_force (halt g) lines in
    let plan = c.in-Settled-default-Some.plan in
    let desk = c.in-Settled-default-Some.desk in
    let answer = ending.Settled plan (Some desk) in
    let ends = rw c.in-Settled-default-Some.field-1-is at (c.in-Settled-default-Some.ensures.ends g lines stands few) in
    let settled = told_end (end_of g lines) Ended.Settled g said answer ends refl in
    let shown = subst (λ (e : Ended). IsEnding e g said answer) settled ends in
    let holds = subst (λ (s : Setting). HoldsPairs s (run_pairs said) desk.now.pairs) (sym shown.0) shown.1.1.pairs in
    both c.assigned.result c.assigned.ensures.end (c.assigned.ensures.text (run_pairs said) holds)
    (λ told end text. assigned_end g lines told.end told.text.items plan.now settled shown.0 shown.1.0 end text)
