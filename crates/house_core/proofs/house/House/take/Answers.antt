use Rattle.std.proofs.Common.{sym, ap, ◌∙◌, Err}
use Rattle.house_core.specs.House.{Standing}
use Rattle.house_core.proofs.HouseLemmas.{own_goal, going_says, halts_by, stands_more, step_going, step_stop, stands_stop, not_memory, memory_step}
use Rattle.house_core.proofs.house.House.take.Goals as goal

pub returns-in-Ok-clause-step : goal.returns-in-Ok-clause-step
returns-in-Ok-clause-step c = λ g lines is few.
    let here = rw (← c.self.view_is) at is in
    let says = going_says g lines _ here (ap (λ (h : Standing). h.stop) c.self.view_is ∙ c.requires.going) in
    rw (← here.goal) (step_going _ lines c.args.line.now _ (own_goal g lines _ here) (ap (λ (h : Standing). h.stop) c.self.view_is ∙ c.requires.going) _ _ (c.in-Ok.ensures.ok lines says) (c.in-Ok.ensures.took lines says))

pub returns-in-Ok-clause-stands : goal.returns-in-Ok-clause-stands
returns-in-Ok-clause-stands c = λ g lines is few never.
    let here = rw (← c.self.view_is) at is in
    let says = going_says g lines _ here (ap (λ (h : Standing). h.stop) c.self.view_is ∙ c.requires.going) in
    rw (← here.goal, c.saturating_add-self-inside.ensures, ap (λ (h : Standing). h.stop) c.self.view_is ∙ c.requires.going)
    (stands_more _ lines c.args.line.now _ (own_goal g lines _ here) (ap (λ (h : Standing). h.stop) c.self.view_is ∙ c.requires.going) _ c.in-Ok.ensures.goal few (c.in-Ok.ensures.ok lines says) (c.in-Ok.ensures.says lines says))

pub returns-in-Err-clause-step : goal.returns-in-Err-clause-step
returns-in-Err-clause-step c = λ g lines is few.
    let here = rw (← c.self.view_is) at is in
    let says = going_says g lines _ here (ap (λ (h : Standing). h.stop) c.self.view_is ∙ c.requires.going) in
    let why = halts_by c.in-Err.stop _ (λ r e. c.in-Err.ensures.refused lines says r (ap Err e)) (λ x e. c.in-Err.ensures.short lines says x (ap Err e)) in
    rw (← here.goal, c.step_of-step.ensures) (step_stop _ lines c.args.line.now _ (own_goal g lines _ here) (ap (λ (h : Standing). h.stop) c.self.view_is ∙ c.requires.going) c.in-Err.stop _ few why)

pub returns-in-Err-clause-stands : goal.returns-in-Err-clause-stands
returns-in-Err-clause-stands c = λ g lines is few never.
    let here = rw (← c.self.view_is) at is in
    let says = going_says g lines _ here (ap (λ (h : Standing). h.stop) c.self.view_is ∙ c.requires.going) in
    let why = halts_by c.in-Err.stop _ (λ r e. c.in-Err.ensures.refused lines says r (ap Err e)) (λ x e. c.in-Err.ensures.short lines says x (ap Err e)) in
    rw (← here.goal, c.in-Err.ensures.err) (stands_stop _ lines c.args.line.now _ (own_goal g lines _ here) (ap (λ (h : Standing). h.stop) c.self.view_is ∙ c.requires.going) c.in-Err.stop
    (not_memory c.in-Err.stop c.self.inside.lines (rw c.step_of-step.ensures at never)) why)

pub returns-in-Err-clause-memory : goal.returns-in-Err-clause-memory
returns-in-Err-clause-memory c = λ g lines is e.
    let here = rw (← c.self.view_is) at is in
    let says = going_says g lines _ here (ap (λ (h : Standing). h.stop) c.self.view_is ∙ c.requires.going) in
    let lacking = memory_step c.self.inside.lines c.in-Err.stop (sym c.step_of-step.ensures ∙ e) in
    rw (← here.goal) (c.in-Err.ensures.memory lines says (ap Err lacking))
