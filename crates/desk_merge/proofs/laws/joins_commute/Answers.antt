use Rattle.desk_merge.proofs.JoinLemmas.{join-comm, join_of-same_members}
use Rattle.desk_merge.proofs.laws.joins_commute.Goals as goal

pub returns-clause-two : goal.returns-clause-two
returns-clause-two c = join-comm

pub returns-clause-lists : goal.returns-clause-lists
returns-clause-lists c = λ ms ns same. join_of-same_members ms ns (λ m. (same m).0) (λ m. (same m).1)
