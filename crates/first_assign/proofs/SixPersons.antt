-- The setting of the tests: six persons with one applicant each, two in each of three clusters.
use Rattle.std.proofs.Common.{◌≡◌, [], ◌∷◌, refl}
use Rattle.std.specs.Prelude.{codes}
use Rattle.house_base.specs.Grid.{Square, cell}
use Rattle.house_base.specs.Setting.{Setting, IsSetting, cluster_at, number_at, owner_from, need, may}
use Rattle.peer_selection.specs.Counting.{count_below, all_below}
use Rattle.peer_selection.specs.Profile.{Profile, is_valid}
use Rattle.peer_selection.specs.Worked.{listed}
use Rattle.peer_selection.proofs.WorkedLemmas.{in_one_cluster, in_rising_number}
use Rattle.house_model.proofs.ExampleLemmas.{is_assigned_setting, IsAssigned-by_test}

abbrev pub six_persons : Square → Setting
six_persons barred = record {
  seats = 2;
  clusters = 3;
  reviews = 2;
  people =
      record { name = codes "a"; cluster = 1; number = 0 } ∷ record { name = codes "b"; cluster = 2; number = 1 }
      ∷ record { name = codes "c"; cluster = 3; number = 2 } ∷ record { name = codes "d"; cluster = 1; number = 3 }
      ∷ record { name = codes "e"; cluster = 2; number = 4 } ∷ record { name = codes "f"; cluster = 3; number = 5 } ∷ [];
  owners =
      record { name = codes "a"; first = 0; own = 1 } ∷ record { name = codes "b"; first = 1; own = 1 }
      ∷ record { name = codes "c"; first = 2; own = 1 } ∷ record { name = codes "d"; first = 3; own = 1 }
      ∷ record { name = codes "e"; first = 4; own = 1 } ∷ record { name = codes "f"; first = 5; own = 1 } ∷ [];
  barred = barred;
}

-- nothing is barred, and each reviews the next two
nearest : Profile
nearest = record {
  setting = six_persons (record { side = 6; cells = [] });
  pairs = listed ((0, 1) ∷ (0, 2) ∷ (1, 2) ∷ (1, 3) ∷ (2, 3) ∷ (2, 4) ∷ (3, 4) ∷ (3, 5) ∷ (4, 5) ∷ (4, 0) ∷ (5, 0) ∷ (5, 1) ∷ []);
  points = λ r p. 0;
}

unbarred : IsSetting (six_persons (record { side = 6; cells = [] }))
unfolding nearest is_assigned_setting in_one_cluster in_rising_number is_valid cell cluster_at number_at owner_from need may count_below all_below
unbarred = (IsAssigned-by_test nearest refl).setting

pub IsSetting-six_persons : (barred : Square) → barred.side ≡ 6 → IsSetting (six_persons barred)
unfolding cluster_at number_at
IsSetting-six_persons barred square = record {
  seats_in_range = unbarred.seats_in_range;
  clusters_in_range = unbarred.clusters_in_range;
  reviews_in_range = unbarred.reviews_in_range;
  some = unbarred.some;
  few = unbarred.few;
  names_differ = unbarred.names_differ;
  clusters = unbarred.clusters;
  numbers_differ = unbarred.numbers_differ;
  numbers_below = unbarred.numbers_below;
  each_number = unbarred.each_number;
  square = square;
  owners_differ = unbarred.owners_differ;
  own = unbarred.own;
  in_turn = unbarred.in_turn;
  one_cluster = unbarred.one_cluster;
  rising = unbarred.rising;
}
