use Rattle.twin_check.proofs.RowLemmas.{none_told, some_told}
use Rattle.twin_check.proofs.outcome.half_in.Goals as goal

pub returns-then-chances-eq0 : goal.returns-then-chances-eq0
returns-then-chances-eq0 c =
    none_told c.args.name c.args.outcome.now c.applicants.result.now c.chances_in-chances.result c.applicants.ensures c.chances_in-chances.ensures c.if-chances-eq0.true

pub returns-else-chances-eq0 : goal.returns-else-chances-eq0
returns-else-chances-eq0 c =
    some_told c.args.name c.args.outcome.now c.applicants.result.now c.chances_in-chances.result c.den.result c.applicants.ensures c.chances_in-chances.ensures c.if-chances-eq0.false c.den.ensures
