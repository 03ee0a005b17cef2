use Rattle.desk_merge.proofs.JoinLemmas.{better-assoc, better-comm, better-none, better-self}
use Rattle.desk_merge.proofs.laws.reviews_have_an_order.Goals as goal

pub returns-clause-commutes : goal.returns-clause-commutes
returns-clause-commutes c = better-comm

pub returns-clause-associates : goal.returns-clause-associates
returns-clause-associates c = better-assoc

pub returns-clause-repeats : goal.returns-clause-repeats
returns-clause-repeats c = better-self

pub returns-clause-none : goal.returns-clause-none
returns-clause-none c = better-none
