use Rattle.std.proofs.Common.{◌∙◌, arith}
use Rattle.house_base.specs.Grid.{cell}
use Rattle.review_desk.specs.Desk.{points_at}
use Rattle.review_desk.proofs.LineLemmas.{points-kept, points-aside}
use Rattle.review_desk.proofs.desk.Desk.review.Goals as goal

pub returns-in-Ok-clause-points : goal.returns-in-Ok-clause-points
returns-in-Ok-clause-points c =
    let now = c.args.self.now in
    let review = c.in-Ok.review in
    λ r p rl pl. c.keep.ensures.points r p (omega (arith, c.requires.set_up.side)) (omega (arith, c.requires.set_up.side))
    ∙ points-kept c.args.plan.now (cell now.pairs) (points_at now) c.args.line.now r p review.reviewer review.proposal review.points c.in-Ok.ensures.kept c.in-Ok.ensures.reviewer c.in-Ok.ensures.proposal c.in-Ok.ensures.points

pub returns-in-Err-clause-points : goal.returns-in-Err-clause-points
returns-in-Err-clause-points c =
    λ r p rl pl. points-aside c.args.plan.now (cell c.args.self.now.pairs) (points_at c.args.self.now) c.args.line.now r p c.in-Err.kind c.in-Err.ensures.aside
