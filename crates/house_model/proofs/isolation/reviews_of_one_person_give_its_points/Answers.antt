use Rattle.house_model.proofs.IsolationLemmas.{points_of-own, points_of-without}
use Rattle.house_model.proofs.isolation.reviews_of_one_person_give_its_points.Goals as goal

pub returns-clause-own : goal.returns-clause-own
returns-clause-own c = points_of-own

pub returns-clause-others : goal.returns-clause-others
returns-clause-others c = points_of-without
