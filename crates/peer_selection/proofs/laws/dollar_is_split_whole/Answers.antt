use Rattle.peer_selection.proofs.SplitLemmas.{cents-sum, left_over-less}
use Rattle.peer_selection.proofs.laws.dollar_is_split_whole.Goals as goal

pub returns-clause-whole : goal.returns-clause-whole
returns-clause-whole c = cents-sum

pub returns-clause-few : goal.returns-clause-few
returns-clause-few c = λ points h. (left_over-less points h).1
