use Rattle.house_model.proofs.IsolationLemmas.{register-without, setting-without, assigned-without, seed_of-without, seal_of-without, phase_after-without, draw_of-without}
use Rattle.house_model.proofs.isolation.reviews_are_not_on_record.Goals as goal

pub returns-clause-register : goal.returns-clause-register
returns-clause-register c = register-without

pub returns-clause-setting : goal.returns-clause-setting
returns-clause-setting c = setting-without

pub returns-clause-assigned : goal.returns-clause-assigned
returns-clause-assigned c = λ g name lines. assigned-without name lines g

pub returns-clause-seed : goal.returns-clause-seed
returns-clause-seed c = seed_of-without

pub returns-clause-seal : goal.returns-clause-seal
returns-clause-seal c = seal_of-without

pub returns-clause-phase : goal.returns-clause-phase
returns-clause-phase c = phase_after-without

pub returns-clause-draw : goal.returns-clause-draw
returns-clause-draw c = draw_of-without
