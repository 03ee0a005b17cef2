use Rattle.std.proofs.Common.{refl, arith}
use Rattle.house_base.proofs.RowLemmas.{none-left, first-left}
use Rattle.house_base.proofs.rows.first_bit.Goals as goal

pub returns-then-rest-eq0-clause-none : goal.returns-then-rest-eq0-clause-none
returns-then-rest-eq0-clause-none c = none-left c.args.word c.args.from _ refl (omega arith) c.if-rest-eq0.true

pub returns-else-rest-eq0-clause-from : goal.returns-else-rest-eq0-clause-from
returns-else-rest-eq0-clause-from c = (first-left c.args.word c.args.from _ refl (omega arith) (omega arith) (omega arith)).above

pub returns-else-rest-eq0-clause-set : goal.returns-else-rest-eq0-clause-set
returns-else-rest-eq0-clause-set c = (first-left c.args.word c.args.from _ refl (omega arith) (omega arith) (omega arith)).set

pub returns-else-rest-eq0-clause-before : goal.returns-else-rest-eq0-clause-before
returns-else-rest-eq0-clause-before c = (first-left c.args.word c.args.from _ refl (omega arith) (omega arith) (omega arith)).before
