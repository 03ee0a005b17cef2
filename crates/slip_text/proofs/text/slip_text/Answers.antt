use Rattle.std.proofs.Common.{false, true, ap, sym, ◌∙◌, ◌≡◌, ◌||◌}
use Rattle.house_model.specs.declared.goal.Goal.TheVariants as goals
use Rattle.house_core.specs.House.{fell_short}
use Rattle.slip_text.proofs.ToldLemmas.{has_assignment, set_up_at, told_by_house}
use Rattle.slip_text.proofs.text.slip_text.Goals as goal

pub unreachable-requires : goal.unreachable-requires
unreachable-requires c =
    let lines = c.requires.0 in
    let wrong : false ≡ true = sym (c.in-None-desk.ensures.says goals.Run lines c.requires.1) ∙ has_assignment lines c.requires.2 in
    cc

pub unreachable-requires-in-None : goal.unreachable-requires-in-None
unreachable-requires-in-None c =
    let lines = c.requires.0 in
    let wrong : false ≡ true = sym (c.in-None.ensures goals.Run lines c.requires.1) ∙ ap (λ b. b || fell_short c.args.house.now) (has_assignment lines c.requires.2) in
    cc

pub told-requires : goal.told-requires
told-requires c =
    let lines = c.requires.0 in
    set_up_at lines c.in-Some.plan.now c.in-Some-desk.desk.now (c.in-Some.ensures goals.Run lines c.requires.1).1 (c.in-Some-desk.ensures.set_up goals.Run lines c.requires.1)

pub returns : goal.returns
returns c = λ lines stands call.
    told_by_house c.told.result c.args.name lines c.in-Some.plan.now c.in-Some-desk.desk.now call (c.in-Some.ensures goals.Run lines stands).1
    (c.in-Some-desk.ensures.set_up goals.Run lines stands) (c.in-Some-desk.ensures.says goals.Run lines stands).1 c.told.ensures
