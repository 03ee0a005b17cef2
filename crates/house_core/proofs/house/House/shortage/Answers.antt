use Rattle.std.proofs.Common.{sym, ap, ◌∙◌}
use Rattle.house_core.proofs.ShortLemmas.{shown_here, shown_shortage}
use Rattle.house_core.proofs.house.House.shortage.Goals as goal

pub returns-in-Some-clause-reviewers : goal.returns-in-Some-clause-reviewers
returns-in-Some-clause-reviewers c = λ g lines is.
    let shown = shown_here _ _ c.self.view_is c.self.invariant.1 in
    (shown_shortage g lines c.args.self.now _ is shown (sym (ap (λ h. h.stop) c.self.view_is) ∙ c.in-Some.ensures)).reviewers

pub returns-in-Some-clause-proposals : goal.returns-in-Some-clause-proposals
returns-in-Some-clause-proposals c = λ g lines is.
    let shown = shown_here _ _ c.self.view_is c.self.invariant.1 in
    (shown_shortage g lines c.args.self.now _ is shown (sym (ap (λ h. h.stop) c.self.view_is) ∙ c.in-Some.ensures)).proposals

pub returns-in-Some-clause-printed : goal.returns-in-Some-clause-printed
returns-in-Some-clause-printed c = λ g lines is.
    let shown = shown_here _ _ c.self.view_is c.self.invariant.1 in
    (shown_shortage g lines c.args.self.now _ is shown (sym (ap (λ h. h.stop) c.self.view_is) ∙ c.in-Some.ensures)).printed
