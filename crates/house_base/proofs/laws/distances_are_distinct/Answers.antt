use Rattle.std.proofs.Common.{◌∙◌, arith}
use Rattle.house_base.proofs.Distances.{distance-lt, distance-injective, distance-round}
use Rattle.house_base.proofs.laws.distances_are_distinct.Goals as goal

pub returns-clause-below : goal.returns-clause-below
returns-clause-below c = distance-lt

pub returns-clause-distinct : goal.returns-clause-distinct
returns-clause-distinct c = distance-injective

pub returns-clause-own_place_last : goal.returns-clause-own_place_last
returns-clause-own_place_last c = λ n reviewer below. distance-round n reviewer reviewer (omega arith) below ∙ omega arith
