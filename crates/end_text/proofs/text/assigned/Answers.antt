use Rattle.std.proofs.Common.{◌++◌, ap, ◌∙◌}
use Rattle.house_base.specs.Grid.{Square, cell}
use Rattle.house_model.specs.Texts.{pairs_text}
use Rattle.end_text.proofs.PairLemmas.{pairs_text-same}
use Rattle.end_text.proofs.text.assigned.Goals as goal

pub returns-clause-text : goal.returns-clause-text
returns-clause-text c = λ pairs holds.
    let plan = c.args.plan.now in
    c.in_ok-write_pairs.ensures.ok
    ∙ ap (λ t. t ++ pairs_text plan (cell c.grid.result.now)) c.in_ok-text.ensures.items
    ∙ ap (λ (square : Square). pairs_text plan (cell square)) c.grid.ensures
    ∙ pairs_text-same plan (cell c.args.desk.now.pairs) pairs c.count.ensures.setting holds.cells
