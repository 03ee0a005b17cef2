use Rattle.std.proofs.Common.{sym, ap, ◌∙◌}
use Rattle.house_core.specs.House.{Standing}
use Rattle.house_core.proofs.ShortLemmas.{plan_short, shown_here}
use Rattle.house_core.proofs.house.House.plan.Goals as goal

pub returns-in-Some : goal.returns-in-Some
returns-in-Some c = λ g lines is.
    let shown = shown_here _ _ c.self.view_is c.self.invariant.1 in
    let short = plan_short g lines c.args.self.now _ is shown (sym (ap (λ (h : Standing). h.stop) c.self.view_is) ∙ c.in-Some.ensures) in
    (short.0, c.deref.ensures ∙ short.1)
