use Rattle.std.proofs.Common.{refl}
use Rattle.input_run.proofs.KeptLemmas.{none_kept}
use Rattle.input_run.proofs.line_run.LineRun.keeping.Goals as goal

pub returns-clause-taken : goal.returns-clause-taken
returns-clause-taken c = none_kept c.args.goal _ c.new-2.result c.new.ensures refl c.new-2.ensures.lines c.new-2.ensures.marks
