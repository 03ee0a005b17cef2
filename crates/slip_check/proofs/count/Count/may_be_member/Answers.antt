use Rattle.std.proofs.Common.{◌∙◌, ap, arith, length}
use Rattle.std.specs.Prelude.{not}
use Rattle.house_base.specs.Text.{among}
use Rattle.slip_check.proofs.CountLemmas.{member_if_new, no_member_after, no_member_beyond}
use Rattle.slip_check.proofs.count.Count.may_be_member.Goals as goal

pub returns-then-len-gt0 : goal.returns-then-len-gt0
returns-then-len-gt0 c = λ before r. no_member_after before c.args.self.now c.args.name.now r (omega (arith, c.len.ensures.value, c.if-len-gt0.true, ap (λ v. length v.voters) c.self.view_is))

pub returns-then-len-ge-MOST_APPLICANTS : goal.returns-then-len-ge-MOST_APPLICANTS
returns-then-len-ge-MOST_APPLICANTS c = λ before r. no_member_beyond before c.args.self.now c.args.name.now r (omega (arith, c.len-2.ensures.value, c.if-len-ge-MOST_APPLICANTS.true, ap (λ v. length v.members) c.self.view_is))

pub returns : goal.returns
returns c = λ before r.
    ap not (c.is_some.ensures ∙ c.find.ensures.known ∙ ap (λ v. among v.members c.args.name.now) c.self.view_is)
    ∙ member_if_new before c.args.self.now c.args.name.now r (omega (arith, c.len.ensures.value, c.if-len-gt0.false, ap (λ v. length v.voters) c.self.view_is)) (omega (arith, c.len-2.ensures.value, c.if-len-ge-MOST_APPLICANTS.false, ap (λ v. length v.members) c.self.view_is))
