use Rattle.std.proofs.Common.{◌≡◌, ◌+◌, [], ◌++◌, sym, ap, ◌∙◌, drop, arith}
use Rattle.std.proofs.lemmas.List.{append-nil, drop_all}
use Rattle.desk_merge.specs.Put.{due}
use Rattle.desk_merge.proofs.PutLemmas.{drop_at, due_of_none}
use Rattle.desk_merge.proofs.into_lines.put.Goals as goal

pub loop-index-preserved : goal.loop-index-preserved
loop-index-preserved c =
    let left = drop (c.loop-index.index + 1) c.args.lines.now in
    c.in_ok-waits.ensures left
    ∙ ap (λ ls. c.loop-index.all ++ due c.loop-index.waits c.args.entries.now ls) (sym (drop_at c.args.lines.now c.loop-index.index c.line.result.now c.line.ensures.value))
    ∙ c.loop-index.invariant

pub returns : goal.returns
returns c =
    let m = c.args.entries.now in
    let none : drop c.loop-index.index c.args.lines.now ≡ [] = drop_all c.loop-index.index c.args.lines.now (omega arith) in
    sym (append-nil c.loop-index.all)
    ∙ ap (λ ls. c.loop-index.all ++ ls) (sym (ap (due c.loop-index.waits m) none ∙ due_of_none c.loop-index.waits m))
    ∙ c.loop-index.invariant
