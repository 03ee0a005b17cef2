use Rattle.std.proofs.Common.{◌≤◌, length, drop, sym, ◌∙◌, ap, subst, arith}
use Rattle.intake_desk.proofs.WaitingLemmas.{part-skip}
use Rattle.intake_desk.proofs.waiting.Waiting.skip.Goals as goal

pub returns : goal.returns
returns c =
    let w = c.self.inside in
    part-skip w.bytes w.from w.to c.args.count (omega (arith, c.self.invariant)) (omega (arith, c.self.invariant, c.self.told)) (subst (λ l. c.args.count ≤ length l) (sym c.self.view_is) c.requires)
    ∙ ap (drop c.args.count) c.self.view_is
