use Rattle.std.proofs.Common.{◌≡◌, sym, ◌∙◌, arith, Some}
use Rattle.house_base.specs.Number.{number_up_to}
use Rattle.house_base.specs.declared.limits.TheConstants.{MOST_POINTS}
use Rattle.command_text.proofs.NumberLemmas.{number_at_most}
use Rattle.command_text.proofs.review.read_points.Goals as goal

pub overflow_cast-result : goal.overflow_cast-result
overflow_cast-result c =
    let some : number_up_to MOST_POINTS c.args.word.now ≡ Some c.in_ok-points.points = rw c.from.ensures at (sym c.read_number.ensures ∙ c.in_ok-points.was) in
    omega (arith, number_at_most MOST_POINTS c.in_ok-points.points c.args.word.now some)
