use Rattle.std.proofs.Common.{ℕ, Result, Ok, sym, ap, ◌∙◌, subst}
use Rattle.house_base.specs.Answer.{raised}
use Rattle.house_base.specs.declared.answer.Reason.{Reason}
use Rattle.house_model.specs.Ending.{ended, in_force}
use Rattle.house_model.specs.Report.{OutcomeParts}
use Rattle.house_model.specs.Runs.{halt}
use Rattle.house_core.specs.Ends.{IsEnding, IsEndingAt, last_ending}
use Rattle.house_core.specs.House.{Standing}
use Rattle.house_core.specs.declared.step.Ending.TheVariants as ending
use Rattle.house_core.proofs.ReachLemmas.{desk_says, ends_last, ends_reached, ends_stopped, state_here}
use Rattle.house_core.proofs.ShortLemmas.{shown_here}
use Rattle.house_core.proofs.house.House.ending.Goals as goal

pub returns-in-Some-clause-ends : goal.returns-in-Some-clause-ends
returns-in-Some-clause-ends c = λ g lines is few.
    let said = in_force (halt g) lines in
    let reached = ends_reached g lines c.args.self.now is c.in-Some.round.now c.in-Some.ensures.0 c.in-Some.ensures.1 in
    subst (λ e. IsEnding e g said (ending.Settled c.deref.result c.desk.result)) (sym reached.0)
    (c.deref.ensures ∙ reached.1.plan, desk_says c.desk.result (λ desk. desk.now) c.in-Some.round.now.tally g said c.desk.ensures reached.1.tally)

pub returns-in-Some-stop-clause-ends : goal.returns-in-Some-stop-clause-ends
returns-in-Some-stop-clause-ends c = λ g lines is few.
    let state = state_here _ _ c.self.view_is c.self.invariant.0 in
    let shown = shown_here _ _ c.self.view_is c.self.invariant.1 in
    ends_stopped g lines c.args.self.now is state c.in_default.ensures c.in-Some-stop.stop c.ending_at.result shown (ap (λ (h : Standing). h.stop) (sym c.self.view_is) ∙ c.in-Some-stop.is) few
    (subst (λ (h : Standing). IsEndingAt c.in-Some-stop.stop h.lines c.ending_at.result) c.self.view_is c.ending_at.ensures)

pub returns-in-Ok-Ok-clause-ends : goal.returns-in-Ok-Ok-clause-ends
returns-in-Ok-Ok-clause-ends c = λ g lines is few.
    let state = state_here _ _ c.self.view_is c.self.invariant.0 in
    ends_last g lines c.args.self.now is state c.in_default.ensures _ (ap (λ (h : Standing). h.stop) (sym c.self.view_is) ∙ c.in_default-stop.is)
    (subst (λ (r : Result OutcomeParts Reason). IsEnding (ended (halt g) lines) g lines (last_ending c.args.self.now.lines (Ok r))) c.in-Ok-Ok.field-0-is (c.in-Ok-Ok.ensures.ends g lines is few))

pub returns-in-Ok-Err-clause-ends : goal.returns-in-Ok-Err-clause-ends
returns-in-Ok-Err-clause-ends c = λ g lines is few.
    let state = state_here _ _ c.self.view_is c.self.invariant.0 in
    ends_last g lines c.args.self.now is state c.in_default.ensures _ (ap (λ (h : Standing). h.stop) (sym c.self.view_is) ∙ c.in_default-stop.is)
    (subst (λ (n : ℕ). IsEnding (ended (halt g) lines) g lines (ending.Refused n c.in-Ok-Err.reason)) (sym (c.saturating_add.ensures ∙ ap (λ (h : Standing). raised h.lines) c.self.view_is))
    (subst (λ (r : Result OutcomeParts Reason). IsEnding (ended (halt g) lines) g lines (last_ending c.args.self.now.lines (Ok r))) c.in-Ok-Err.field-0-is (c.in-Ok-Err.ensures.ends g lines is few)))

pub returns-in-Err-clause-ends : goal.returns-in-Err-clause-ends
returns-in-Err-clause-ends c = λ g lines is few.
    let state = state_here _ _ c.self.view_is c.self.invariant.0 in
    ends_last g lines c.args.self.now is state c.in_default.ensures _ (ap (λ (h : Standing). h.stop) (sym c.self.view_is) ∙ c.in_default-stop.is) (c.in-Err.ensures.ends g lines is few)
