use Rattle.desk_merge.specs.Joined.{join_of}
use Rattle.desk_merge.proofs.JoinLemmas.{join-assoc, join_of-append}
use Rattle.desk_merge.proofs.laws.joins_associate.Goals as goal

pub returns-clause-three : goal.returns-clause-three
returns-clause-three c = join-assoc

pub returns-clause-lists : goal.returns-clause-lists
returns-clause-lists c = join_of-append

pub returns-clause-joined_before : goal.returns-clause-joined_before
unfolding join_of
returns-clause-joined_before c = λ a b ms. join-assoc a b (join_of ms)
