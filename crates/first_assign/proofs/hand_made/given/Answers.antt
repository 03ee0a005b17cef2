use Rattle.std.proofs.Common.{sym, ◌∙◌}
use Rattle.house_base.specs.Grid.{cell}
use Rattle.house_model.specs.Register.{name_pair}
use Rattle.first_assign.proofs.StepLemmas.{is_valid-agree}
use Rattle.first_assign.proofs.hand_made.given.Goals as goal

pub returns-then-not-is_valid-clause-invalid : goal.returns-then-not-is_valid-clause-invalid
returns-then-not-is_valid-clause-invalid c =
    λ e. sym (is_valid-agree c.args.plan.now (cell c.in_ok-pairs.pairs) (name_pair c.args.book.now.pairs c.args.plan.now) c.in_ok-pairs.ensures.pairs)
    ∙ (sym c.is_valid.ensures ∙ c.if-not-is_valid.true)

pub returns-clause-valid : goal.returns-clause-valid
returns-clause-valid c =
    sym (is_valid-agree c.args.plan.now (cell c.in_ok-pairs.pairs) (name_pair c.args.book.now.pairs c.args.plan.now) c.in_ok-pairs.ensures.pairs)
    ∙ (sym c.is_valid.ensures ∙ c.if-not-is_valid.false)
