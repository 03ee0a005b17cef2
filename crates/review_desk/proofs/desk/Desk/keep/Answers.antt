use Rattle.std.proofs.Common.{ℕ, ◌+◌, ◌*◌, ◌&&◌, nat_eq, cond, get_or, set, sym, ap, ◌∙◌, arith, subst}
use Rattle.house_base.specs.Grid.{cell}
use Rattle.review_desk.specs.Desk.{Marks, HoldsPoints, points_at}
use Rattle.review_desk.proofs.DeskLemmas.{points-set, HoldsPoints-set}
use Rattle.review_desk.proofs.desk.Desk.keep.Goals as goal

pub invariant_of-self : goal.invariant_of-self
invariant_of-self c =
    let pairs = c.self.inside.pairs in
    let points = c.self.inside.points.items in
    let review = c.args.review in
    let side = ap (λ (m : Marks). m.pairs.side) c.self.view_is in
    let assigned = ap (λ (m : Marks). cell m.pairs review.reviewer review.proposal) c.self.view_is ∙ c.requires.assigned in
    let P : ℕ → Type 0 = λ n. HoldsPoints pairs (set points (review.reviewer * n + review.proposal) review.points) in
    subst P (sym c.side.ensures.value)
    (HoldsPoints-set pairs points review.reviewer review.proposal review.points c.self.invariant (omega (arith, side, c.requires.reviewer)) (omega (arith, side, c.requires.proposal)) assigned c.requires.most)

pub returns-clause-points : goal.returns-clause-points
returns-clause-points c =
    let pairs = c.self.inside.pairs in
    let points = c.self.inside.points.items in
    let review = c.args.review in
    let side = ap (λ (m : Marks). m.pairs.side) c.self.view_is in
    λ r p rl pl.
    ap (λ n. get_or (set points (review.reviewer * n + review.proposal) review.points) (r * pairs.side + p) 0) c.side.ensures.value
    ∙ (points-set points pairs.side review.reviewer review.proposal r p review.points c.self.invariant.squared (omega (arith, side, c.requires.reviewer)) (omega (arith, side, c.requires.proposal)) (omega (arith, side)) (omega (arith, side))
    ∙ ap (λ (m : Marks). cond (nat_eq r review.reviewer && nat_eq p review.proposal) review.points (points_at m r p)) c.self.view_is)
