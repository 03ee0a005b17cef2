use Rattle.std.proofs.Common.{not, ◌&&◌, sym, ap, ◌∙◌}
use Rattle.house_model.specs.Ending.{in_force}
use Rattle.house_model.specs.Reviews.{is_before_assignment}
use Rattle.house_model.specs.Runs.{halt}
use Rattle.input_run.proofs.HearLemmas.{settled_by_phase}
use Rattle.input_run.proofs.line_run.is_settled.Goals as goal

pub returns-then-settles : goal.returns-then-settles
returns-then-settles c = λ lines stands.
    ap not c.is_opening.ensures
    ∙ sym (ap (λ b. b && not (is_before_assignment c.phase.result)) (sym c.settles.ensures ∙ c.if-settles.true))
    ∙ settled_by_phase c.args.goal (in_force (halt c.args.goal) lines) c.phase.result (c.phase.ensures.says c.args.goal lines stands)
