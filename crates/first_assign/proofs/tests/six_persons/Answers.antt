use Rattle.first_assign.proofs.SixPersons.{IsSetting-six_persons}
use Rattle.first_assign.proofs.tests.six_persons.Goals as goal

pub build-requires : goal.build-requires
build-requires c =
    rw (c.in_ok-people.ensures.items, c.in_ok-owners.ensures.items, c.in_ok-a.ensures, c.in_ok-b.ensures, c.in_ok-c.ensures, c.in_ok-d.ensures, c.in_ok-e.ensures, c.in_ok-f.ensures)
    (IsSetting-six_persons _ c.in_ok-barring.ensures)
