use Rattle.house_core.specs.declared.step.Ending.TheVariants as ending
use Rattle.house_model.specs.declared.goal.Goal.TheVariants as goals
use Rattle.reserve_text.proofs.ReserveLemmas.{ends_done, ranked_here, told_here}
use Rattle.reserve_text.proofs.text.reserve_text.Goals as goal

pub told-requires : goal.told-requires
told-requires c =
    let lines = c.requires.0 in
    ranked_here lines c.in-Done.outcome c.requires.3 (c.in-Done.ensures.ends goals.Run lines c.requires.1 c.requires.2)

pub returns-in-Done : goal.returns-in-Done
returns-in-Done c = λ lines stands few call.
    told_here c.told.result lines c.in-Done.outcome c.args.bytes.now call (c.in-Done.ensures.ends goals.Run lines stands few) c.told.ensures
