use Rattle.slip_check.proofs.CallLemmas.{gives-slips}
use Rattle.slip_check.proofs.LawLemmas.{one_worth, right-own, says-own, worth-told}
use Rattle.slip_check.proofs.LimitLemmas.{slip-within}
use Rattle.slip_check.proofs.ReadBackLemmas.{read-back}
use Rattle.slip_check.proofs.laws.slips_read_back.Goals as goal

pub returns-clause-text : goal.returns-clause-text
returns-clause-text c = read-back

pub returns-clause-within : goal.returns-clause-within
returns-clause-within c = λ f p h l. slip-within f h p l

pub returns-clause-own : goal.returns-clause-own
returns-clause-own c = says-own

pub returns-clause-right : goal.returns-clause-right
returns-clause-right c = right-own

pub returns-clause-behind_the_first : goal.returns-clause-behind_the_first
returns-clause-behind_the_first c = one_worth

pub returns-clause-worth : goal.returns-clause-worth
returns-clause-worth c = worth-told

pub returns-clause-call : goal.returns-clause-call
returns-clause-call c = gives-slips
