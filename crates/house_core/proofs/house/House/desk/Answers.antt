use Rattle.std.proofs.Common.{sym, ap, ◌∙◌}
use Rattle.house_core.specs.House.{Standing}
use Rattle.house_core.proofs.ReachLemmas.{desk_set_up, state_here}
use Rattle.house_core.proofs.house.House.desk.Goals as goal

pub returns-in-Some-clause-set_up : goal.returns-in-Some-clause-set_up
returns-in-Some-clause-set_up c = λ g lines is.
    desk_set_up c.desk.result (λ desk. desk.now) g lines c.args.self.now c.in-Some.round is (state_here _ _ c.self.view_is c.self.invariant.0)
    (sym (ap (λ (h : Standing). h.state.round) c.self.view_is) ∙ c.in-Some.is) c.desk.ensures
