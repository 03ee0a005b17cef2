use Rattle.std.proofs.Common.{ap, sym, ◌∙◌}
use Rattle.house_base.specs.Name.{is_name}
use Rattle.house_base.specs.declared.limits.TheConstants.{MOST_POINTS}
use Rattle.house_model.specs.Faults.{is_within}
use Rattle.slip_check.proofs.WordPartLemmas.{cell_formed, cell_without_name, cell_without_points}
use Rattle.slip_check.proofs.word.read_cell.Goals as goal

pub returns-in_default-clause-none : goal.returns-in_default-clause-none
returns-in_default-clause-none c = cell_without_name c.args.word.now (ap is_name (sym c.cut_at.ensures.before) ∙ c.in_default.ensures.none)

pub returns-in-Some-read_within-clause-form : goal.returns-in-Some-read_within-clause-form
returns-in-Some-read_within-clause-form c =
    cell_formed c.args.word.now (ap is_name (sym c.cut_at.ensures.before) ∙ c.in-Some.ensures.form)
    (ap (is_within 0 MOST_POINTS) (sym c.cut_at.ensures.behind) ∙ c.in-Some-read_within.ensures.form)

pub returns-in-None-clause-none : goal.returns-in-None-clause-none
returns-in-None-clause-none c = cell_without_points c.args.word.now (ap (is_within 0 MOST_POINTS) (sym c.cut_at.ensures.behind) ∙ c.in-None.ensures.none)
