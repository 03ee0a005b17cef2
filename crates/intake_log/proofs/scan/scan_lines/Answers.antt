use Rattle.std.proofs.Common.{◌≡◌, ◌+◌, ◌∷◌, [], ◌++◌, false, true, length, refl, sym, ◌∙◌, ap, subst, arith}
use Rattle.std.proofs.lemmas.List.{take_rest}
use Rattle.intake_log.specs.Limits.{AreWithin, IsFull}
use Rattle.intake_log.specs.Journal.{records_size}
use Rattle.intake_log.specs.Scan.{line_at_front, scan}
use Rattle.intake_log.proofs.LogLemmas.{records_size-push, room-for}
use Rattle.intake_log.proofs.LoopLemmas.{not-closed, scan_at, loop-end, loop-closed, loop-bad, loop-over, loop-next}
use Rattle.intake_log.proofs.scan.scan_lines.Goals as goal

pub returns-then-is_closed-clause-ended : goal.returns-then-is_closed-clause-ended
returns-then-is_closed-clause-ended c =
    let i = c.loop-gate.invariant in
    loop-closed c.args.bytes.now c.loop-gate.lines c.loop-gate.gate i.gate i.so_far (omega arith) (c.is_closed.ensures.0 c.if-is_closed.true)

pub returns-in_default-clause-explained : goal.returns-in_default-clause-explained
returns-in_default-clause-explained c =
    let i = c.loop-gate.invariant in
    loop-bad c.args.bytes.now c.loop-gate.lines c.loop-gate.gate i.gate i.so_far (omega arith) (not-closed c.is_closed.result _ c.is_closed.ensures c.if-is_closed.false)
    (sym (ap line_at_front (take_rest c.args.bytes.now (c.loop-gate.gate + 1))) ∙ c.in_default.ensures.line)

pub returns-then-is_full-clause-explained : goal.returns-then-is_full-clause-explained
returns-then-is_full-clause-explained c =
    let i = c.loop-gate.invariant in
    let line = c.in-Some.line.now in
    let full : IsFull c.loop-gate.lines line = c.is_full.ensures.0 c.if-is_full.true in
    loop-over c.args.bytes.now c.loop-gate.lines c.loop-gate.gate i.gate i.so_far line (omega arith) (not-closed c.is_closed.result _ c.is_closed.ensures c.if-is_closed.false)
    (sym (ap line_at_front (take_rest c.args.bytes.now (c.loop-gate.gate + 1))) ∙ c.in-Some.ensures.line)
    full

pub loop-gate-preserved : goal.loop-gate-preserved
loop-gate-preserved c =
    let i = c.loop-gate.invariant in
    let bytes = c.args.bytes.now in
    let lines = c.loop-gate.lines in
    let line = c.in-Some.line.now in
    let next = c.loop-gate.gate + (length line + 5) in
    let not-full = λ (full : IsFull lines line). let e : false ≡ true = sym c.if-is_full.false ∙ c.is_full.ensures.1 full in absurd (cc) in
    let some = sym (ap line_at_front (take_rest bytes (c.loop-gate.gate + 1))) ∙ c.in-Some.ensures.line in
    let pushed : c.push.new.self ≡ lines ++ line ∷ [] = c.in_ok-push.ensures.ok in
    record {
      inside = omega (arith, c.in-Some.ensures.within, ap length (take_rest bytes (c.loop-gate.gate + 1)));
      gate = omega (arith, i.gate, records_size-push lines line, ap records_size pushed);
      within = subst AreWithin (sym pushed) (room-for lines line not-full);
      so_far = subst (λ ls. scan bytes ≡ scan_at next ls bytes) (sym pushed)
          (loop-next bytes lines c.loop-gate.gate i.gate i.so_far line next (omega arith) (not-closed c.is_closed.result _ c.is_closed.ensures c.if-is_closed.false) some not-full refl);
    }

pub returns-clause-explained : goal.returns-clause-explained
returns-clause-explained c =
    let i = c.loop-gate.invariant in
    loop-end c.args.bytes.now c.loop-gate.lines c.loop-gate.gate i.gate i.so_far (omega arith)
