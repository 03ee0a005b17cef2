use Rattle.std.proofs.Common.{◌∙◌, ◌++◌, ◌∷◌, [], ap, arith, length, sym}
use Rattle.house_base.specs.Text.{among}
use Rattle.slip_check.specs.Form.{may_be_member}
use Rattle.slip_check.proofs.CountLemmas.{member_may, member_off_may, member_off_name, member_off_words, member_taken}
use Rattle.slip_check.proofs.count.Count.take_member.Goals as goal

pub returns-in_default-clause-off : goal.returns-in_default-clause-off
returns-in_default-clause-off c = λ before r e ws spells. member_off_words before ws (c.in_default.ensures.none ws spells)

pub returns-in_default-read_name-clause-off : goal.returns-in_default-read_name-clause-off
returns-in_default-read_name-clause-off c = λ before r e ws spells.
    member_off_name before c.in-Some.word.now c.args.rest.now ws c.in-Some.ensures.found spells c.in_default-read_name.ensures.none

pub returns-then-not-may_be_member-clause-off : goal.returns-then-not-may_be_member-clause-off
returns-then-not-may_be_member-clause-off c = λ before r e ws spells.
    member_off_may before c.in-Some.word.now c.args.rest.now ws c.in-Some.ensures.found spells
    (ap (may_be_member before) (sym c.in-Some-read_name.ensures.value) ∙ sym (c.may_be_member.ensures before r) ∙ c.if-not-may_be_member.true)

pub add-requires-clause-few : goal.add-requires-clause-few
add-requires-clause-few c =
    let may = member_may c.requires.0 c.args.self.now c.in-Some-read_name.name c.requires.1 (sym (c.may_be_member.ensures c.requires.0 c.requires.1) ∙ c.if-not-may_be_member.false) in
    omega (arith, may.1, ap (λ v. length v.members) c.self.view_is)

pub add-requires-clause-unknown : goal.add-requires-clause-unknown
add-requires-clause-unknown c =
    let may = member_may c.requires.0 c.args.self.now c.in-Some-read_name.name c.requires.1 (sym (c.may_be_member.ensures c.requires.0 c.requires.1) ∙ c.if-not-may_be_member.false) in
    ap (λ v. among v.members c.in-Some-read_name.name) c.self.view_is ∙ may.2

pub returns-clause-taken : goal.returns-clause-taken
returns-clause-taken c = λ before r.
    member_taken before c.args.self.now _ c.in-Some.word.now c.in-Some-read_name.name c.args.rest.now r c.in-Some.ensures.found c.in-Some-read_name.ensures.form
    c.in-Some-read_name.ensures.value (sym (c.may_be_member.ensures before r) ∙ c.if-not-may_be_member.false)
    (c.in_ok-add.ensures.added ∙ ap (λ v. v.members ++ c.in-Some-read_name.name ∷ []) c.self.view_is)
    (ap (λ v. v.voters) c.self.view_is)
    (c.in_ok-push.ensures.items ∙ ap (λ v. v.scores ++ 0 ∷ []) c.self.view_is)
