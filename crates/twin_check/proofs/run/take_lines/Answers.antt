use Rattle.std.proofs.Common.{sym, subst}
use Rattle.house_model.specs.declared.goal.Goal.TheVariants as run
use Rattle.house_model.specs.Ending.{stop_of}
use Rattle.house_model.specs.Reviews.{took_of}
use Rattle.house_model.specs.Runs.{halt}
use Rattle.house_model.specs.Text.{lines}
use Rattle.twin_check.proofs.RunLemmas.{IsHalt, all_taken, few_taken, halted_by, line_ended, line_taken, none_taken}
use Rattle.twin_check.proofs.run.take_lines.Goals as goal

pub loop-line-init : goal.loop-line-init
loop-line-init c = none_taken (lines c.args.text.now) c.args.house.now c.requires.new

pub loop-line-preserved : goal.loop-line-preserved
loop-line-preserved c =
    let all = lines c.args.text.now in
    let so_far = c.loop-line.invariant in
    let few = few_taken all (lines c.loop-line.rest.now) c.loop-line.house so_far c.requires.few in
    line_taken all (lines c.loop-line.rest.now) (lines c.in-Some.behind.now) c.in-Some.line.now c.loop-line.house c.line.new.self c.in-Going.field-0 so_far c.in-Some.ensures.found
    (c.in-Going.ensures.step run.Run so_far.front so_far.stands few) (c.in-Going.ensures.stands run.Run so_far.front so_far.stands few (λ wrong. cc))

pub returns-in-Refused : goal.returns-in-Refused
returns-in-Refused c =
    let all = lines c.args.text.now in
    let x = c.in-Some.line.now in
    let so_far = c.loop-line.invariant in
    let few = few_taken all (lines c.loop-line.rest.now) c.loop-line.house so_far c.requires.few in
    let halts = subst IsHalt (sym c.in-Refused.is) tt in
    let at = halted_by (stop_of (halt run.Run) _) (took_of run.Run so_far.front x) c.line.result (c.line.ensures.step run.Run so_far.front so_far.stands few) halts in
    line_ended all (lines c.loop-line.rest.now) (lines c.in-Some.behind.now) x c.loop-line.house c.line.new.self so_far at.0 c.in-Some.ensures.found c.requires.few at.1
    (c.line.ensures.stands run.Run so_far.front so_far.stands few (λ none. absurd (subst IsHalt none halts)))

pub returns-in-Short : goal.returns-in-Short
returns-in-Short c =
    let all = lines c.args.text.now in
    let x = c.in-Some.line.now in
    let so_far = c.loop-line.invariant in
    let few = few_taken all (lines c.loop-line.rest.now) c.loop-line.house so_far c.requires.few in
    let halts = subst IsHalt (sym c.in-Short.is) tt in
    let at = halted_by (stop_of (halt run.Run) _) (took_of run.Run so_far.front x) c.line.result (c.line.ensures.step run.Run so_far.front so_far.stands few) halts in
    line_ended all (lines c.loop-line.rest.now) (lines c.in-Some.behind.now) x c.loop-line.house c.line.new.self so_far at.0 c.in-Some.ensures.found c.requires.few at.1
    (c.line.ensures.stands run.Run so_far.front so_far.stands few (λ none. absurd (subst IsHalt none halts)))

pub returns : goal.returns
returns c =
    all_taken (lines c.args.text.now) (lines c.loop-line.rest.now) c.loop-line.house c.loop-line.invariant c.in_default.ensures.none c.requires.few
