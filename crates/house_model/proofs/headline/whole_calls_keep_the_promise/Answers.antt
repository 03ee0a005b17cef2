use Rattle.house_model.proofs.HeadlineLemmas.{counted, isolated, rounded, means, in_any_order, assigned_validly, sealed}
use Rattle.house_model.proofs.headline.whole_calls_keep_the_promise.Goals as goal

pub returns-clause-counted : goal.returns-clause-counted
returns-clause-counted c = counted

pub returns-clause-isolated : goal.returns-clause-isolated
returns-clause-isolated c = isolated

pub returns-clause-rounded : goal.returns-clause-rounded
returns-clause-rounded c = rounded

pub returns-clause-means : goal.returns-clause-means
returns-clause-means c = means

pub returns-clause-order : goal.returns-clause-order
returns-clause-order c = in_any_order

pub returns-clause-assigned : goal.returns-clause-assigned
returns-clause-assigned c = assigned_validly

pub returns-clause-sealed : goal.returns-clause-sealed
returns-clause-sealed c = sealed
