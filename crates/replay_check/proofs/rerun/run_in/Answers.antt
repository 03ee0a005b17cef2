use Rattle.std.proofs.Common.{◌≡◌, ◌++◌, ◌-◌, ap, ◌∙◌, arith, length, take}
use Rattle.std.specs.Prelude.{replicate}
use Rattle.house_base.specs.declared.answer.Took.TheVariants as took
use Rattle.replay_check.proofs.FilledLemmas.{rerun_of}
use Rattle.replay_check.proofs.rerun.run_in.Goals as goal

pub returns : goal.returns
returns c =
    let run = c.in_ok-take_lines.ensures in
    let made = c.take_lines.new.marks in
    let count = c.count-count.result in
    let long : made.len ≡ length made.items = omega (arith, made.ok.0) in
    rerun_of c.args.lines.now c.take_lines.new.house made.items c.resize.new.self.items count c.in_ok-told.told.end c.in_ok-told.told.text.items run
    (c.in_ok-told.ensures run.front run.stands run.few) c.count-count.ensures
    (c.in_ok-resize.ensures.items ∙ ap (λ n. take count made.items ++ replicate (count - n) took.Kept) long)
