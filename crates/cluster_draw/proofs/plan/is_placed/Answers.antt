use Rattle.std.proofs.Common.{◌≡◌, sym, ap, ◌∙◌, arith, [], false, is_some}
use Rattle.std.proofs.lemmas.Grind.{common_steps}
use Rattle.std.specs.List.{list_all}
use Rattle.std.proofs.lemmas.List.{take_all}
use Rattle.std.proofs.lemmas.List.Folds.{list_all_at}
use Rattle.house_base.specs.Text.{among}
use Rattle.house_model.specs.Register.{persons, placed_names, all_placed}
use Rattle.cluster_draw.proofs.plan.is_placed.Goals as goal

pub returns-then-is_none : goal.returns-then-is_none
unfolding all_placed
returns-then-is_none c =
    sym (list_all_at (among (placed_names c.args.book.now)) (persons c.args.book.now) c.loop-person.person [] (omega (arith, c.loop-person-test.true, c.persons-person-end.ensures.value))
    (sym c.cluster.ensures.placed ∙ (let none : is_some c.cluster.result ≡ false = grind (arith, common_steps) in none)))

pub returns : goal.returns
unfolding all_placed
returns c =
    sym (ap (list_all (among (placed_names c.args.book.now))) (sym (take_all c.loop-person.person (persons c.args.book.now) (omega (arith, c.loop-person-test.false, c.persons-person-end.ensures.value))))
    ∙ c.loop-person.invariant)
