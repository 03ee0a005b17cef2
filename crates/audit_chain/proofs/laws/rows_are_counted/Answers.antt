use Rattle.audit_chain.proofs.CountLemmas.{rows_counted}
use Rattle.audit_chain.proofs.laws.rows_are_counted.Goals as goal

pub returns : goal.returns
returns c = rows_counted
