use Rattle.std.specs.Prelude.{ℕ, false, ◌==◌, ◌&&◌, List, [], ◌∷◌, replicate, codes, if◌then◌else◌}
use Rattle.std.specs.List.{list_any}
use Rattle.house_base.specs.declared.plan.Person.{Person}
use Rattle.house_base.specs.declared.plan.Owner.{Owner}
use Rattle.house_base.specs.Grid.{Square}
use Rattle.house_base.specs.Setting.{Setting}
use Rattle.peer_selection.specs.Profile.{Pairs, Points, Profile}

-- Two calls that are worked through whole.

-- the assignment of just these pairs of a reviewer and a proposal
abbrev pub listed : List (ℕ × ℕ) → Pairs
listed pairs r p = list_any (λ pair. pair.0 == r && pair.1 == p) pairs

-- one point for each of these pairs, and none for another
abbrev pub one_point_for : List (ℕ × ℕ) → Points
one_point_for pairs r p = if listed pairs r p then 1 else 0

abbrev pub applicant : List ℕ → ℕ → ℕ → Person
applicant name cluster number = record { name = name; cluster = cluster; number = number }

abbrev pub person_of : List ℕ → ℕ → ℕ → Owner
person_of name first own = record { name = name; first = first; own = own }

-- no pair of so many applicants is barred
abbrev pub nothing_barred : ℕ → ℕ → Square
nothing_barred side cells = record { side = side; cells = replicate cells false }

-- Four seats, three clusters, two reviews each: the applicants a to e, each its own person.
unfoldable pub five_applicants : Setting
five_applicants = record {
  seats = 4;
  clusters = 3;
  reviews = 2;
  people = applicant (codes "a") 1 0 ∷ applicant (codes "b") 2 1 ∷ applicant (codes "c") 2 2
      ∷ applicant (codes "d") 3 3 ∷ applicant (codes "e") 3 4 ∷ [];
  owners = person_of (codes "a") 0 1 ∷ person_of (codes "b") 1 1 ∷ person_of (codes "c") 2 1
      ∷ person_of (codes "d") 3 1 ∷ person_of (codes "e") 4 1 ∷ [];
  barred = nothing_barred 5 25;
}

-- who reviews whom among the five
unfoldable pub five_pairs : Pairs
five_pairs = listed ((0, 1) ∷ (0, 2) ∷ (1, 3) ∷ (1, 4) ∷ (2, 3) ∷ (2, 4) ∷ (3, 0) ∷ (3, 1) ∷ (4, 0) ∷ (4, 2) ∷ [])

-- b and c give d their point, and d and e give theirs to a; a gives none
unfoldable pub five : Profile
five = record {
  setting = five_applicants;
  pairs = five_pairs;
  points = one_point_for ((1, 3) ∷ (2, 3) ∷ (3, 0) ∷ (4, 0) ∷ []);
}

-- Two seats, two clusters, one review each: a person with the applicants a1 and a2, and the persons b and c.
unfoldable pub three_persons : Setting
three_persons = record {
  seats = 2;
  clusters = 2;
  reviews = 1;
  people = applicant (codes "a1") 1 0 ∷ applicant (codes "a2") 1 1 ∷ applicant (codes "b") 2 2 ∷ applicant (codes "c") 2 3 ∷ [];
  owners = person_of (codes "a") 0 2 ∷ person_of (codes "b") 2 1 ∷ person_of (codes "c") 3 1 ∷ [];
  barred = nothing_barred 4 16;
}

-- a reviews b and c, b reviews a1 and c reviews a2; nobody gives points
unfoldable pub four : Profile
four = record {
  setting = three_persons;
  pairs = listed ((0, 2) ∷ (0, 3) ∷ (2, 0) ∷ (3, 1) ∷ []);
  points = one_point_for [];
}
