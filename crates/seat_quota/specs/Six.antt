use Rattle.std.specs.Prelude.{◌+◌, ◌*◌, ◌%◌, false, ◌==◌, ◌||◌, List, [], ◌∷◌, replicate, codes}
use Rattle.house_base.specs.declared.plan.Person.{Person}
use Rattle.house_base.specs.declared.plan.Owner.{Owner}
use Rattle.house_base.specs.Setting.{Setting}
use Rattle.peer_selection.specs.Profile.{Pairs}

-- A worked call: two seats, three clusters, two reviews each, and the applicants a to f, each its own person.

abbrev pub six_people : List Person
six_people =
    record { name = codes "a"; cluster = 1; number = 0 } ∷ record { name = codes "b"; cluster = 2; number = 1 }
    ∷ record { name = codes "c"; cluster = 3; number = 2 } ∷ record { name = codes "d"; cluster = 1; number = 3 }
    ∷ record { name = codes "e"; cluster = 2; number = 4 } ∷ record { name = codes "f"; cluster = 3; number = 5 } ∷ []

abbrev pub six_owners : List Owner
six_owners =
    record { name = codes "a"; first = 0; own = 1 } ∷ record { name = codes "b"; first = 1; own = 1 }
    ∷ record { name = codes "c"; first = 2; own = 1 } ∷ record { name = codes "d"; first = 3; own = 1 }
    ∷ record { name = codes "e"; first = 4; own = 1 } ∷ record { name = codes "f"; first = 5; own = 1 } ∷ []

unfoldable pub six_applicants : Setting
six_applicants = record {
  seats = 2;
  clusters = 3;
  reviews = 2;
  people = six_people;
  owners = six_owners;
  barred = record { side = 6; cells = replicate (6 * 6) false };
}

-- each reviews the next two, round the six
unfoldable pub six_pairs : Pairs
six_pairs r p = p == (r + 1) % 6 || p == (r + 2) % 6
