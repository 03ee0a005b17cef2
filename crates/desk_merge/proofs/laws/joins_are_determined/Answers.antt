use Rattle.desk_merge.proofs.JoinLemmas.{is_join, join_of_better}
use Rattle.desk_merge.proofs.laws.joins_are_determined.Goals as goal

pub returns-clause-one : goal.returns-clause-one
returns-clause-one c = is_join

pub returns-clause-only : goal.returns-clause-only
returns-clause-only c = join_of_better
