use Rattle.std.proofs.Common.{◌∙◌, [], ◌∷◌, arith}
use Rattle.slip_check.specs.Counted.{IsStart}
use Rattle.slip_check.specs.Form.{Rows}
use Rattle.slip_check.proofs.CheckLemmas.{blank_start, end_count, end_with_member, reached_more, reached_start}
use Rattle.slip_check.proofs.check.count_lines.Goals as goal

pub loop-line-init : goal.loop-line-init
loop-line-init c =
    let reached = λ (start : Rows) (s : IsStart start). reached_start start c.args.text.now s in
    let first = reached ([] ∷ [] ∷ []) blank_start in
    rw c.new-count.ensures ((first.before, first.count), reached, omega arith)

pub loop-line-preserved : goal.loop-line-preserved
loop-line-preserved c =
    let reached = λ (start : Rows) (s : IsStart start).
    let r = c.loop-line.invariant.1 start s in
    reached_more start c.args.text.now c.loop-line.rest.now c.in-Some.line.now c.in-Some.after.now c.loop-line.number c.loop-line.count c.take.new.self r
    c.in-Some.ensures.found (c.in-Ok.ensures.on_form r.before r.behind r.count) (c.in-Ok.ensures.counted r.before r.behind r.count) in
    let first = reached ([] ∷ [] ∷ []) blank_start in
    ((first.before, first.count), reached, omega (arith, c.loop-line.invariant.2, c.in-Some.ensures.shorter))

pub returns-clause-counted : goal.returns-clause-counted
returns-clause-counted c = λ start s.
    end_count start c.args.text.now c.loop-line.rest.now c.loop-line.number c.loop-line.count (c.loop-line.invariant.1 start s) c.in_default.ensures.none

pub returns-clause-formed : goal.returns-clause-formed
returns-clause-formed c = λ start s.
    end_with_member start c.args.text.now c.loop-line.rest.now c.loop-line.number c.loop-line.count (c.loop-line.invariant.1 start s) c.in_default.ensures.none
    (λ none. c.if-members-eq0.false (c.members.ensures ∙ none))
