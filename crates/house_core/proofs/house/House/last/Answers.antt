use Rattle.std.proofs.Common.{◌≡◌, is_some, sym, ap, ◌∙◌, subst}
use Rattle.house_base.specs.Grid.{cell}
use Rattle.house_base.specs.declared.answer.Reason.TheVariants as reason
use Rattle.house_model.specs.Ending.{ended}
use Rattle.house_model.specs.Runs.{halt}
use Rattle.house_model.specs.Report.{outcome_of}
use Rattle.review_desk.specs.Desk.{desk_profile, points_at}
use Rattle.house_core.specs.Ends.{IsEnding}
use Rattle.house_core.specs.House.{Standing}
use Rattle.house_core.specs.declared.step.Ending.TheVariants as ending
use Rattle.house_core.proofs.EndLemmas.{end_without_call, end_undrawn, end_drawn, end_done, tally_of}
use Rattle.house_core.proofs.ReachLemmas.{done_ends, refused_ends, state_here}
use Rattle.house_core.proofs.house.House.last.Goals as goal

pub returns-then-is_none-clause-ends : goal.returns-then-is_none-clause-ends
returns-then-is_none-clause-ends c = λ g lines is few.
    let called = ap (λ (h : Standing). is_some h.state.call) (sym c.self.view_is) ∙ c.if-is_none.ensures in
    refused_ends (ended (halt g) lines) g lines lines _ reason.NoCall (end_without_call g lines _ is c.requires.going few called)

pub returns-in_default-clause-ends : goal.returns-in_default-clause-ends
returns-in_default-clause-ends c = λ g lines is few.
    let called = ap (λ (h : Standing). is_some h.state.call) (sym c.self.view_is) ∙ c.if-is_none.ensures in
    refused_ends (ended (halt g) lines) g lines lines _ reason.Unfinished (end_undrawn g lines _ is c.requires.going few called c.in_default.ensures)

pub returns-in-Ok-clause-ends : goal.returns-in-Ok-clause-ends
returns-in-Ok-clause-ends c = λ g lines is few.
    let called = ap (λ (h : Standing). is_some h.state.call) (sym c.self.view_is) ∙ c.if-is_none.ensures in
    let state = state_here _ _ c.self.view_is c.self.invariant.0 in
    let round = c.in-Some.round.now in
    let tally = c.in-Some.tally.now in
    let held = tally_of c.args.self.now.state round tally state c.in-Some.ensures.1 c.in-Some.ensures.2 in
    let made = rw c.deref.ensures at (c.in-Ok.ensures (cell tally.desk.pairs) (points_at tally.desk) (record { setting = rw c.deref.ensures held.desk.setting; valid = rw c.deref.ensures held.desk.valid }) (rw (c.totals.ensures, c.deref.ensures) held.agree)) in
    let here = subst (λ (h : Standing). c.in-Ok.outcome ≡ outcome_of (desk_profile round.plan.value tally.desk) h.state.asides h.state.draw) c.self.view_is made in
    done_ends (ended (halt g) lines) g lines c.in-Ok.outcome
    (end_done g lines c.args.self.now is c.requires.going few round tally c.in-Ok.outcome state c.requires.asked called c.in-Some.ensures.0 c.in-Some.ensures.1 c.in-Some.ensures.2 here)

pub returns-in-Err-clause-ends : goal.returns-in-Err-clause-ends
returns-in-Err-clause-ends c = λ g lines is few.
    let called = ap (λ (h : Standing). is_some h.state.call) (sym c.self.view_is) ∙ c.if-is_none.ensures in
    subst (λ e. IsEnding e g lines ending.Memory) (sym (end_drawn g lines _ is c.requires.going few called c.in-Some.ensures.0)) tt
