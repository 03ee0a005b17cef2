use Rattle.std.proofs.Common.{sym, ap, ◌∙◌}
use Rattle.house_base.specs.Grid.{cell}
use Rattle.review_desk.specs.Desk.{points_at}
use Rattle.review_desk.specs.Line.{kind_among}
use Rattle.review_desk.proofs.LineLemmas.{points-kept, points-aside}
use Rattle.seat_quota.specs.Tally.{DeskTotals}
use Rattle.seat_quota.proofs.tally.Tally.review.Goals as goal

pub returns-in-Ok-clause-points : goal.returns-in-Ok-clause-points
returns-in-Ok-clause-points c =
    let s = c.args.plan.now in
    let desk = c.args.self.now.desk in
    let line = c.args.line.now in
    let review = c.in-Ok.review in
    let kept = ap (λ (x : DeskTotals). kind_among s (cell x.desk.pairs) line) (sym c.self.view_is) ∙ c.in-Ok.ensures.kept in
    λ r p rl pl. c.keep.ensures.points r p rl pl
    ∙ points-kept s (cell desk.pairs) (points_at desk) line r p review.reviewer review.proposal review.points kept c.in-Ok.ensures.reviewer c.in-Ok.ensures.proposal c.in-Ok.ensures.points

pub returns-in-Err-clause-points : goal.returns-in-Err-clause-points
returns-in-Err-clause-points c =
    let s = c.args.plan.now in
    let desk = c.args.self.now.desk in
    let line = c.args.line.now in
    let aside = ap (λ (x : DeskTotals). kind_among s (cell x.desk.pairs) line) (sym c.self.view_is) ∙ c.in-Err.ensures.aside in
    λ r p rl pl. points-aside s (cell desk.pairs) (points_at desk) line r p c.in-Err.kind aside
