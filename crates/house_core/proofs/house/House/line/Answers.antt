use Rattle.std.proofs.Common.{sym, ap, ◌∙◌, refl}
use Rattle.house_core.specs.House.{Standing}
use Rattle.house_core.proofs.HouseLemmas.{own_goal, going_says, stands_more, step_going, stands_stopped, step_stopped}
use Rattle.house_core.proofs.RefusalLemmas.{blank_goes_on}
use Rattle.house_core.proofs.SaysLemmas.{blank_kept, blank_says}
use Rattle.house_core.proofs.house.House.line.Goals as goal

pub returns-in-Some-clause-step : goal.returns-in-Some-clause-step
returns-in-Some-clause-step c = λ g lines is few.
    let here = rw (← c.self.view_is) at is in
    rw c.step_of.ensures (step_stopped g lines c.args.line.now _ _ _ here c.in-Some.is few)

pub returns-in-Some-clause-stands : goal.returns-in-Some-clause-stands
returns-in-Some-clause-stands c = λ g lines is few never.
    stands_stopped g lines c.args.line.now c.args.self.now _ is (ap (λ (h : Standing). h.stop) (sym c.self.view_is) ∙ c.in-Some.is)

pub returns-then-is_blank_at_once-clause-step : goal.returns-then-is_blank_at_once-clause-step
returns-then-is_blank_at_once-clause-step c = λ g lines is few.
    let here = rw (← c.self.view_is) at is in
    let blank = c.is_blank_at_once.ensures.blank c.if-is_blank_at_once.true in
    rw (← here.goal) (step_going _ lines c.args.line.now _ (own_goal g lines _ here) c.in_default.is _ _ (blank_goes_on _ lines _ blank) (blank_kept _ lines _ blank))

pub returns-then-is_blank_at_once-clause-stands : goal.returns-then-is_blank_at_once-clause-stands
returns-then-is_blank_at_once-clause-stands c = λ g lines is few never.
    let here = rw (← c.self.view_is) at is in
    let says = going_says g lines _ here c.in_default.is in
    let blank = c.is_blank_at_once.ensures.blank c.if-is_blank_at_once.true in
    rw (← here.goal, c.saturating_add-self-inside.ensures, c.in_default.is)
    (stands_more _ lines c.args.line.now _ (own_goal g lines _ here) c.in_default.is _ refl few (blank_goes_on _ lines _ blank) (blank_says lines _ _ says blank))
