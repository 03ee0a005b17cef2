use Rattle.std.proofs.Common.{ap, get_or, arith}
use Rattle.house_base.specs.Grid.{cell}
use Rattle.assign_flow.proofs.DraftLemmas.{draft-none}
use Rattle.assign_flow.proofs.draft.Draft.new.Goals as goal

pub returns-clause-fits : goal.returns-clause-fits
returns-clause-fits c =
    draft-none _ (cell c.in_ok-new.field-0.held) _ _ c.in_ok-new.ensures.none_held
    (λ r l. ap (λ xs. get_or xs r 0) (c.in_ok-to_vec.ensures.items_if_clones_equal (λ y z same. same)))
    (λ p l. c.in_ok-new-2.ensures.spare p (omega (arith, ap (λ s. s.side) c.in_ok-new.ensures.free)))
