use Rattle.house_core.proofs.EndLemmas.{end_stopped}
use Rattle.house_core.proofs.house.House.end.Goals as goal

pub returns-in-Some-clause-ends : goal.returns-in-Some-clause-ends
returns-in-Some-clause-ends c = λ g lines is few.
    let here = rw (← c.self.view_is) at is in
    rw c.fault_of.ensures (end_stopped g lines _ c.in-Some.stop here c.in-Some.is few)
