use Rattle.std.proofs.Common.{arith}
use Rattle.audit_chain.proofs.FormLemmas.{line_pushed}
use Rattle.audit_chain.proofs.line.push_without_feed.Goals as goal

pub returns-clause-each : goal.returns-clause-each
returns-clause-each c =
    line_pushed c.args.lines.now c.push.new.self c.args.line.now c.in_ok-push.ensures.ok (c.has_feed.ensures.none c.if-has_feed.false) (λ i. omega (arith, c.type_inv.line i))
