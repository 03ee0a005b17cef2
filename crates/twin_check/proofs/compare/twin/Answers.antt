use Rattle.std.proofs.Common.{sym, subst}
use Rattle.house_model.specs.Text.{lines}
use Rattle.twin_check.specs.Agree.{AreAlike}
use Rattle.twin_check.specs.Half.{half_of}
use Rattle.twin_check.specs.declared.half.Half.{Half}
use Rattle.twin_check.proofs.AlikeLemmas.{halves_of_call}
use Rattle.twin_check.proofs.compare.twin.Goals as goal

pub returns-clause-own_reviews_change_nothing : goal.returns-clause-own_reviews_change_nothing
returns-clause-own_reviews_change_nothing c = λ yes.
    let name = c.args.name in
    let one = lines c.args.a.now in
    let other = lines c.args.b.now in
    subst (λ (h : Half). AreAlike h c.in_ok-second.second) (sym c.in_ok-first.ensures.half)
    (subst (AreAlike (half_of name one)) (sym c.in_ok-second.ensures.half) (halves_of_call name one other c.in_ok-first.ensures.of_call (c.agree.ensures.0 yes)))
