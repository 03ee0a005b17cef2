use Rattle.house_model.proofs.InterleavingLemmas.{done-arrival, profile-arrival, asides-arrival, draw-arrival, report-arrival}
use Rattle.house_model.proofs.interleaving.order_of_arrival_decides_nothing.Goals as goal

pub returns-clause-done : goal.returns-clause-done
returns-clause-done c = done-arrival

pub returns-clause-profile : goal.returns-clause-profile
returns-clause-profile c = profile-arrival

pub returns-clause-asides : goal.returns-clause-asides
returns-clause-asides c = asides-arrival

pub returns-clause-draw : goal.returns-clause-draw
returns-clause-draw c = draw-arrival

pub returns-clause-report : goal.returns-clause-report
returns-clause-report c = report-arrival
