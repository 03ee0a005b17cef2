use Rattle.std.proofs.Common.{[], ◌∷◌, ◌++◌, codes, ap, ◌∙◌}
use Rattle.house_model.specs.Report.{line_of}
use Rattle.trial_file.specs.Trial.{applicant_row}
use Rattle.trial_file.proofs.RowLemmas.{none_yet, one_more}
use Rattle.trial_file.proofs.rows.push_applicants.Goals as goal

pub loop-index-init : goal.loop-index-init
loop-index-init c = none_yet applicant_row c.args.out.now.items

pub loop-index-preserved : goal.loop-index-preserved
loop-index-preserved c =
    let out = c.loop-index.out.items in
    c.in_ok-push_line.ensures.ok
    ∙ ap (λ w. out ++ line_of (codes "applicant" ∷ w ∷ [])) (c.bytes.ensures.value ∙ c.name_at-name.ensures)
    ∙ one_more applicant_row c.args.out.now.items out c.loop-index.index c.loop-index.invariant
