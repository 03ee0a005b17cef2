use Rattle.std.proofs.Common.{ap, ◌∙◌, take}
use Rattle.twin_check.proofs.TextLemmas.{chances_written, shown}
use Rattle.twin_check.proofs.text.push_half.Goals as goal

pub returns-in-Chances : goal.returns-in-Chances
returns-in-Chances c =
    let own = c.in-Chances.chances in
    let list = c.as_slice-list.result.now in
    chances_written c.push_chances.result c.args.out.now.items c.push_chances.new.out.items c.args.side.now own c.in-Chances.den c.args.half.now (take c.min-shown.result list)
    c.in-Chances.is
    (ap (λ n. take n list) c.min-shown.ensures ∙ shown own.count list ∙ ap (take own.count) c.as_slice-list.ensures)
    c.push_chances.ensures
