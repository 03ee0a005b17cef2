use Rattle.std.proofs.Common.{◌≡◌, ◌-◌, ◌++◌, take, ◌∙◌, ap, arith}
use Rattle.intake_desk.specs.declared.waiting.TheConstants.{MOST_WAITING}
use Rattle.intake_desk.proofs.WaitingLemmas.{part, part-more, uncut-more}
use Rattle.intake_desk.proofs.waiting.Waiting.take_more.Goals as goal

pub returns-in-Ok-clause-uncut : goal.returns-in-Ok-clause-uncut
returns-in-Ok-clause-uncut g c =
    let w = c.self.inside in
    let to = w.to - w.from in
    let bytes = c.move_to_front.new.bytes in
    let count = c.in-Ok.count in
    let same : part bytes 0 to ≡ part w.bytes w.from w.to = ap (λ n. take n bytes) (omega arith) ∙ c.move_to_front.ensures in
    let more = part-more bytes c.take.new.buf 0 to count (omega arith) (omega (arith, c.self.invariant, c.move_to_front.auto.bytes)) (omega (arith, c.in-Ok.ensures.count, c.take.auto.buf)) (MOST_WAITING - to)
    ∙ ap (λ l. l ++ take count c.take.new.buf) (same ∙ c.self.view_is) in
    uncut-more c.args.self.now c.take.new.buf _ count (g.I.Source.left c.args.input.now) (g.I.Source.left c.take.new.self) c.in-Ok.ensures.told c.in-Ok.ensures.taken more
