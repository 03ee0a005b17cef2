use Rattle.std.proofs.Common.{◌≡◌, ℕ, ◌<◌, length, get_or, ◌∙◌, arith}
use Rattle.peer_selection.specs.Split.{cents_at}
use Rattle.dollar_split.proofs.ShareLemmas.{base-less, cents-from, cents-whole}
use Rattle.dollar_split.proofs.largest_remainder.split.Goals as goal

pub give_left_over-requires-clause-room : goal.give_left_over-requires-clause-room
give_left_over-requires-clause-room c =
    λ i l. let inside : i < length c.args.points.now = omega (arith, c.give_bases-left.ensures.each) in
    omega (arith, c.give_bases-left.ensures.bases i inside, base-less c.args.points.now i inside)

pub returns-clause-shares : goal.returns-clause-shares
returns-clause-shares c =
    let points = c.args.points.now in
    λ i l. c.give_left_over.ensures i (omega (arith, c.give_bases-left.ensures.each))
    ∙ cents-from points c.give_bases-left.new.priorities i (get_or c.give_bases-left.new.cents i 0) c.give_bases-left.result (omega (arith, c.give_bases-left.ensures.each)) c.requires.few l c.give_bases-left.ensures.priorities (c.give_bases-left.ensures.bases i l) c.give_bases-left.ensures.left

pub returns-clause-whole : goal.returns-clause-whole
returns-clause-whole c =
    let points = c.args.points.now in
    let each : (i : ℕ) → i < length points → get_or c.give_left_over.new.cents i 0 ≡ cents_at points i =
    λ i l. c.give_left_over.ensures i (omega (arith, c.give_bases-left.ensures.each))
    ∙ cents-from points c.give_bases-left.new.priorities i (get_or c.give_bases-left.new.cents i 0) c.give_bases-left.result (omega (arith, c.give_bases-left.ensures.each)) c.requires.few l c.give_bases-left.ensures.priorities (c.give_bases-left.ensures.bases i l) c.give_bases-left.ensures.left in
    cents-whole points c.give_left_over.new.cents (omega arith) c.requires.some each
