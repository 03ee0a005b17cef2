use Rattle.std.proofs.Common.{◌+◌, ◌%◌, [], ◌∷◌, ◌++◌, codes, ap, ◌∙◌}
use Rattle.std.specs.Prelude.{decimal}
use Rattle.house_model.specs.Report.{line_of}
use Rattle.trial_file.specs.Trial.{place_row, trial_name}
use Rattle.trial_file.proofs.RowLemmas.{none_yet, one_more}
use Rattle.trial_file.proofs.rows.push_places.Goals as goal

pub loop-index-init : goal.loop-index-init
loop-index-init c = none_yet (place_row c.args.clusters) c.args.out.now.items

pub loop-index-preserved : goal.loop-index-preserved
loop-index-preserved c =
    let out = c.loop-index.out.items in
    let i = c.loop-index.index in
    c.in_ok-push_line.ensures.ok
    ∙ ap (λ w. out ++ line_of (codes "place" ∷ w ∷ decimal (i % c.from.result + 1) ∷ [])) (c.bytes.ensures.value ∙ c.name_at-name.ensures)
    ∙ ap (λ l. out ++ line_of (codes "place" ∷ trial_name (i + 1) ∷ decimal (i % l + 1) ∷ [])) c.from.ensures
    ∙ one_more (place_row c.args.clusters) c.args.out.now.items out i c.loop-index.invariant
