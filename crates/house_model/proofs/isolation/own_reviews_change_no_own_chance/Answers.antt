use Rattle.house_model.proofs.OwnReviewLemmas.{score-without, rank-without, quota-without, chance-without, chance-one}
use Rattle.house_model.proofs.isolation.own_reviews_change_no_own_chance.Goals as goal

pub returns-clause-score : goal.returns-clause-score
returns-clause-score c = score-without

pub returns-clause-rank : goal.returns-clause-rank
returns-clause-rank c = rank-without

pub returns-clause-quota : goal.returns-clause-quota
returns-clause-quota c = quota-without

pub returns-clause-chance : goal.returns-clause-chance
returns-clause-chance c = chance-without

pub returns-clause-two_lists : goal.returns-clause-two_lists
returns-clause-two_lists c = λ name lines others p gives own same. chance-one name lines others same p gives own
