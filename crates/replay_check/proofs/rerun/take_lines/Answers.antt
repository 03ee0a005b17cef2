use Rattle.std.proofs.Common.{◌+◌, ◌<◌, sym, subst, take, arith}
use Rattle.house_model.specs.declared.goal.Goal.TheVariants as run
use Rattle.house_model.specs.Ending.{stop_of}
use Rattle.house_model.specs.Reviews.{took_of}
use Rattle.house_model.specs.Runs.{halt}
use Rattle.replay_check.proofs.RerunLemmas.{HasTaken, IsHalt, all_taken, few, halted_by, line_ended, line_taken, none_taken}
use Rattle.replay_check.proofs.rerun.take_lines.Goals as goal

pub loop-index-init : goal.loop-index-init
loop-index-init c = none_taken c.args.lines.now c.args.house.now c.args.marks.now.items c.requires.new c.requires.unmarked

pub line-requires : goal.line-requires
line-requires c = subst (λ n. c.loop-index.index < n) c.count-index-end.ensures c.loop-index-test.true

pub returns-in-Refused : goal.returns-in-Refused
returns-in-Refused c =
    let i = c.loop-index.index in
    let lines = c.args.lines.now in
    let within = subst (λ n. c.loop-index.index < n) c.count-index-end.ensures c.loop-index-test.true in
    let fits = few lines i c.requires.few (omega (arith, within)) in
    let answer = c.line-in-loop-index.result in
    let at = halted_by (stop_of (halt run.Run) _) (took_of run.Run (take i lines) c.line.result.now) answer
    (c.line-in-loop-index.ensures.step run.Run (take i lines) c.loop-index.invariant.stands fits) (subst IsHalt (sym c.in-Refused.is) tt) in
    line_ended lines i c.line.result.now at.0 c.loop-index.house c.line-in-loop-index.new.self c.loop-index.marks.items c.loop-index.invariant c.line.ensures.value within c.requires.few at.1
    (c.line-in-loop-index.ensures.stands run.Run (take i lines) c.loop-index.invariant.stands fits (λ none. absurd (subst IsHalt none (subst IsHalt (sym c.in-Refused.is) tt))))

pub returns-in-Short : goal.returns-in-Short
returns-in-Short c =
    let i = c.loop-index.index in
    let lines = c.args.lines.now in
    let within = subst (λ n. c.loop-index.index < n) c.count-index-end.ensures c.loop-index-test.true in
    let fits = few lines i c.requires.few (omega (arith, within)) in
    let answer = c.line-in-loop-index.result in
    let at = halted_by (stop_of (halt run.Run) _) (took_of run.Run (take i lines) c.line.result.now) answer
    (c.line-in-loop-index.ensures.step run.Run (take i lines) c.loop-index.invariant.stands fits) (subst IsHalt (sym c.in-Short.is) tt) in
    line_ended lines i c.line.result.now at.0 c.loop-index.house c.line-in-loop-index.new.self c.loop-index.marks.items c.loop-index.invariant c.line.ensures.value within c.requires.few at.1
    (c.line-in-loop-index.ensures.stands run.Run (take i lines) c.loop-index.invariant.stands fits (λ none. absurd (subst IsHalt none (subst IsHalt (sym c.in-Short.is) tt))))

pub loop-index-preserved : goal.loop-index-preserved
loop-index-preserved c =
    let i = c.loop-index.index in
    let lines = c.args.lines.now in
    let within = subst (λ n. c.loop-index.index < n) c.count-index-end.ensures c.loop-index-test.true in
    let fits = few lines i c.requires.few (omega (arith, within)) in
    let stands = c.loop-index.invariant.stands in
    subst (HasTaken lines (i + 1) c.line-in-loop-index.new.self) (sym c.in_ok-push-in-Going.ensures.items)
    (line_taken lines i c.line.result.now c.loop-index.house c.line-in-loop-index.new.self c.loop-index.marks.items c.in-Going.took c.loop-index.invariant c.line.ensures.value within
    (c.in-Going.ensures.step run.Run (take i lines) stands fits) (c.in-Going.ensures.stands run.Run (take i lines) stands fits (λ wrong. cc)))

pub returns : goal.returns
returns c =
    all_taken c.args.lines.now c.loop-index.index c.loop-index.house c.loop-index.marks.items (omega (arith, c.loop-index-test.false, c.count-index-end.ensures)) c.requires.few c.loop-index.invariant
