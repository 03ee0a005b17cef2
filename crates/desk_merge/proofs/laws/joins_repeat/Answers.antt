use Rattle.desk_merge.proofs.JoinLemmas.{join-empty, join-self, join_of-one}
use Rattle.desk_merge.proofs.laws.joins_repeat.Goals as goal

pub returns-clause-twice : goal.returns-clause-twice
returns-clause-twice c = join-self

pub returns-clause-nothing : goal.returns-clause-nothing
returns-clause-nothing c = join-empty

pub returns-clause-alone : goal.returns-clause-alone
returns-clause-alone c = join_of-one
