use Rattle.house_model.proofs.DoneLemmas.{ended-without, halt-ignores, end_of-without, done-without, taken-without}
use Rattle.house_model.proofs.isolation.reviews_end_no_run.Goals as goal

pub returns-clause-any_rule : goal.returns-clause-any_rule
returns-clause-any_rule c = ended-without

pub returns-clause-halt : goal.returns-clause-halt
returns-clause-halt c = halt-ignores

pub returns-clause-run : goal.returns-clause-run
returns-clause-run c = end_of-without

pub returns-clause-done : goal.returns-clause-done
returns-clause-done c = done-without

pub returns-clause-taken : goal.returns-clause-taken
returns-clause-taken c = taken-without
