use Rattle.reserve_list.proofs.ChanceLemmas.{chance-agree, chance-more, chance-untouched, holds-more}
use Rattle.reserve_list.proofs.laws.nobody_who_stays_falls.Goals as goal

pub returns-clause-seats : goal.returns-clause-seats
returns-clause-seats c = holds-more

pub returns-clause-chances : goal.returns-clause-chances
returns-clause-chances c = chance-more

pub returns-clause-apart : goal.returns-clause-apart
returns-clause-apart c = chance-agree

pub returns-clause-untouched : goal.returns-clause-untouched
returns-clause-untouched c = chance-untouched
