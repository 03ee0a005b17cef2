use Rattle.std.proofs.Common.{sym, ◌∙◌}
use Rattle.dollar_split.proofs.ShareLemmas.{weight-silent, weight-given}
use Rattle.dollar_split.proofs.largest_remainder.weight_at.Goals as goal

pub returns-then-silent-clause-value : goal.returns-then-silent-clause-value
returns-then-silent-clause-value c = weight-silent c.args.points.now c.args.i (sym c.requires.silent ∙ c.if-silent.true) c.requires.index

pub returns-else-silent-clause-value : goal.returns-else-silent-clause-value
returns-else-silent-clause-value c = weight-given c.args.points.now c.args.i (sym c.requires.silent ∙ c.if-silent.false)
