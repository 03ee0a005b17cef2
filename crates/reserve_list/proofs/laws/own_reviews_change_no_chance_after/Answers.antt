use Rattle.reserve_list.proofs.ChanceLemmas.{chance-other_points}
use Rattle.reserve_list.proofs.OwnLemmas.{chance-own_lines}
use Rattle.reserve_list.proofs.laws.own_reviews_change_no_chance_after.Goals as goal

pub returns-clause-points : goal.returns-clause-points
returns-clause-points c = chance-other_points

pub returns-clause-lines : goal.returns-clause-lines
returns-clause-lines c = chance-own_lines
