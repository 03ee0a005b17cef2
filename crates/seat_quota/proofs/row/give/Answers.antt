use Rattle.std.proofs.Common.{◌≡◌, ℕ, ◌+◌, eqb, take, get_or, ap, ◌∙◌, arith, position}
use Rattle.std.specs.Option.{option_map_or}
use Rattle.std.proofs.lemmas.List.{take_all}
use Rattle.seat_quota.proofs.GivenLemmas.{give_more}
use Rattle.seat_quota.proofs.row.give.Goals as goal

pub loop-i-preserved : goal.loop-i-preserved
loop-i-preserved c =
    let i = c.loop-i.i in
    let row = c.args.row.now in
    let k = λ (i : ℕ). get_or c.args.cents.now i 0 in
    give_more row c.loop-i.scores c.args.scores.now k i (get_or c.loop-i.scores (get_or row i 0) 0 + c.from.result) c.requires.row.differ c.loop-i-test.true
    (omega (arith, c.requires.row.below i 0 c.loop-i-test.true)) (ap (λ x. get_or c.loop-i.scores (get_or row i 0) 0 + x) c.from.ensures) c.loop-i.invariant

pub returns : goal.returns
returns c =
    let all : take c.loop-i.i c.args.row.now ≡ c.args.row.now = take_all c.loop-i.i c.args.row.now c.loop-i-test.false in
    λ p l. c.loop-i.invariant p (omega arith) ∙ ap (λ xs. get_or c.args.scores.now p 0 + option_map_or (λ i. get_or c.args.cents.now i 0) (position (λ q. eqb q p) xs) 0) all
