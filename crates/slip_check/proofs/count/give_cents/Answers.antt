use Rattle.std.proofs.Common.{◌≡◌, ◌+◌, ◌∙◌, [], ap, sym, get_or}
use Rattle.std.proofs.Math.ListN.{set}
use Rattle.std.proofs.lemmas.List.{get_or_default}
use Rattle.slip_check.proofs.GiveLemmas.{given_to, given_to_none}
use Rattle.slip_check.proofs.count.give_cents.Goals as goal
use Rattle.slip_check.proofs.count.give_cents.Goals.{in-Some, in_default}

pub loop-i-preserved : goal.loop-i-preserved
loop-i-preserved c =
    let ps = c.args.proposals.now in
    let members = c.args.members.now in
    let i = c.loop-i.i in
    let y = c.index-proposals-i.result in
    let is : y ≡ get_or ps i [] = c.index-proposals-i.is ∙ get_or_default ps i y [] c.loop-i-test.true in
    elim c.match-find.branch [
      | in-Some w ↦ (
        c.match-find.auto.scores ∙ c.loop-i.invariant.0,
        λ k kl.
            ap (λ s. get_or s k 0) w.scores-is
            ∙ ap (λ n. get_or (set c.loop-i.scores w.in-Some.member (get_or c.loop-i.scores w.in-Some.member 0 + n)) k 0) w.from.ensures
            ∙ given_to c.args.scores.now c.loop-i.scores c.args.cents.now members ps i w.in-Some.member k y c.requires.apart c.requires.differ c.loop-i-test.true kl
            (c.loop-i.invariant.0 ∙ c.requires.each) is (sym c.find.ensures.number ∙ w.in-Some.is) (c.loop-i.invariant.1 k kl),
      )
      | in_default w ↦ (
        c.match-find.auto.scores ∙ c.loop-i.invariant.0,
        λ k kl.
            ap (λ s. get_or s k 0) w.scores-is
            ∙ given_to_none c.args.scores.now c.loop-i.scores c.args.cents.now members ps i k y c.requires.apart c.requires.differ c.loop-i-test.true kl is
            (sym c.find.ensures.number ∙ w.in_default.is) (c.loop-i.invariant.1 k kl),
      )
    ]
