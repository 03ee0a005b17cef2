use Rattle.std.proofs.Common.{arith}
use Rattle.intake_log.proofs.LogLemmas.{few, full-by-test, text-is}
use Rattle.intake_log.proofs.limits.is_full.Goals as goal

pub overflow_sub-text : goal.overflow_sub-text
overflow_sub-text c = omega (arith, text-is c.args.lines.now c.args.gate c.count-count.result c.requires.gate c.count-count.ensures)

pub overflow_add-result : goal.overflow_add-result
overflow_add-result c = omega (arith, few c.args.lines.now c.requires.within, c.requires.gate)

pub returns : goal.returns
returns c = full-by-test c.args.lines.now c.args.line.now c.args.gate c.count-count.result c.requires.gate c.count-count.ensures (omega arith)
