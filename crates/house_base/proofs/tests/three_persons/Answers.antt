use Rattle.std.proofs.Common.{◌∙◌}
use Rattle.house_base.proofs.ThreePersons.{IsSetting-three_persons}
use Rattle.house_base.proofs.tests.three_persons.Goals as goal

pub build-requires : goal.build-requires
build-requires c =
    rw (c.in_ok-people.ensures.items, c.in_ok-owners.ensures.items, c.in_ok-name.ensures, c.in_ok-name-2.ensures, c.in_ok-name-3.ensures, c.in_ok-name-4.ensures, c.in_ok-name-5.ensures, c.in_ok-name-6.ensures, c.in_ok-name-7.ensures)
    (IsSetting-three_persons _ (c.set.ensures.side ∙ c.in_ok-barred.ensures.side))
