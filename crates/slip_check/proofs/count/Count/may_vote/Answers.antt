use Rattle.std.proofs.Common.{◌∙◌, ap, arith, length}
use Rattle.std.specs.Prelude.{not}
use Rattle.house_base.specs.Text.{among}
use Rattle.slip_check.proofs.CountLemmas.{vote_if_new, no_vote_before, no_vote_beyond}
use Rattle.slip_check.proofs.count.Count.may_vote.Goals as goal

pub returns-then-len-eq0 : goal.returns-then-len-eq0
returns-then-len-eq0 c = λ before r. no_vote_before before c.args.self.now c.args.person.now r (omega (arith, c.len.ensures.value, c.if-len-eq0.true, ap (λ v. length v.members) c.self.view_is))

pub returns-then-len-ge-MOST_APPLICANTS : goal.returns-then-len-ge-MOST_APPLICANTS
returns-then-len-ge-MOST_APPLICANTS c = λ before r. no_vote_beyond before c.args.self.now c.args.person.now r (omega (arith, c.len-2.ensures.value, c.if-len-ge-MOST_APPLICANTS.true, ap (λ v. length v.voters) c.self.view_is))

pub returns : goal.returns
returns c = λ before r.
    ap not (c.is_some.ensures ∙ c.find.ensures.known ∙ ap (λ v. among v.voters c.args.person.now) c.self.view_is)
    ∙ vote_if_new before c.args.self.now c.args.person.now r (λ none. c.if-len-eq0.false (omega (arith, none, c.len.ensures.value, ap (λ v. length v.members) c.self.view_is))) (omega (arith, c.len-2.ensures.value, c.if-len-ge-MOST_APPLICANTS.false, ap (λ v. length v.voters) c.self.view_is))
