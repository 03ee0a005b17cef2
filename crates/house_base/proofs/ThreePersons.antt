-- The setting of the tests: person a has the applicants a1 and a2, persons b and c have one each.
use Rattle.std.proofs.Common.{◌≡◌, ◌≢◌, ℕ, zero, suc, ◌+◌, ◌≤◌, ◌<◌, false, true, List, [], ◌∷◌, refl, ap, arith}
use Rattle.std.specs.Prelude.{codes}
use Rattle.std.specs.List.{AllPairs, Contains}
use Rattle.std.specs.Str.{bytes_eq}
use Rattle.std.proofs.lemmas.Bool.{eqb-false}
use Rattle.std.proofs.lemmas.List.Elements.{All-from_recursion}
use Rattle.std.proofs.lemmas.List.Kept.{AllPairs-cons}
use Rattle.std.proofs.lemmas.Slice.Eq.{bytes_eq-Decides}
use Rattle.house_base.specs.Grid.{Square}
use Rattle.house_base.specs.Setting.{Setting, IsSetting, IsOwned, cluster_at, number_at}

abbrev pub three_persons : Square → Setting
three_persons barred = record {
  seats = 2;
  clusters = 2;
  reviews = 2;
  people =
      record { name = codes "a1"; cluster = 1; number = 0 } ∷ record { name = codes "a2"; cluster = 1; number = 3 }
      ∷ record { name = codes "b1"; cluster = 2; number = 1 } ∷ record { name = codes "c1"; cluster = 2; number = 2 } ∷ [];
  owners =
      record { name = codes "a"; first = 0; own = 2 } ∷ record { name = codes "b"; first = 2; own = 1 }
      ∷ record { name = codes "c"; first = 3; own = 1 } ∷ [];
  barred = barred;
}

differ_three : {A : Type 0} (a b c : A) → a ≢ b → a ≢ c → b ≢ c → AllPairs (λ x y. x ≢ y) (a ∷ b ∷ c ∷ [])
differ_three a b c ab ac bc =
    AllPairs-cons (λ x y. x ≢ y) a (b ∷ c ∷ []) (All-from_recursion (λ y. a ≢ y) (b ∷ c ∷ []) (ab, (ac, tt)))
    (AllPairs-cons (λ x y. x ≢ y) b (c ∷ []) (All-from_recursion (λ y. b ≢ y) (c ∷ []) (bc, tt))
    (λ i j d before within. absurd (omega arith)))

differ_four : {A : Type 0} (a b c d : A) → a ≢ b → a ≢ c → a ≢ d → b ≢ c → b ≢ d → c ≢ d → AllPairs (λ x y. x ≢ y) (a ∷ b ∷ c ∷ d ∷ [])
differ_four a b c d ab ac ad bc bd cd =
    AllPairs-cons (λ x y. x ≢ y) a (b ∷ c ∷ d ∷ []) (All-from_recursion (λ y. a ≢ y) (b ∷ c ∷ d ∷ []) (ab, (ac, (ad, tt)))) (differ_three b c d bc bd cd)

apart : (xs ys : List ℕ) → bytes_eq xs ys ≡ false → xs ≢ ys
apart xs ys other same = let equal : bytes_eq xs ys ≡ true = (bytes_eq-Decides xs ys).1 same in cc

has_number : (number : ℕ) → number < 4 → Contains (0 ∷ 3 ∷ 1 ∷ 2 ∷ []) number
has_number zero below = (0, omega arith, refl)
has_number (suc zero) below = (2, omega arith, refl)
has_number (suc (suc zero)) below = (3, omega arith, refl)
has_number (suc (suc (suc zero))) below = (1, omega arith, refl)
has_number (suc (suc (suc (suc n)))) below = absurd (omega arith)

first_cluster : (barred : Square) (place : ℕ) → place < 2 → cluster_at (three_persons barred) place ≡ cluster_at (three_persons barred) 0
unfolding cluster_at
first_cluster barred zero below = refl
first_cluster barred (suc zero) below = refl
first_cluster barred (suc (suc place)) below = absurd (omega arith)

first_numbers : (barred : Square) (place : ℕ) → place + 1 < 2 → number_at (three_persons barred) place < number_at (three_persons barred) (place + 1)
unfolding number_at
first_numbers barred zero below = omega arith
first_numbers barred (suc place) below = absurd (omega arith)

pub IsSetting-three_persons : (barred : Square) → barred.side ≡ 4 → IsSetting (three_persons barred)
IsSetting-three_persons barred square = record {
  seats_in_range = (omega arith, omega arith);
  clusters_in_range = (omega arith, omega arith);
  reviews_in_range = (omega arith, omega arith);
  some = omega arith;
  few = omega arith;
  names_differ = differ_four (codes "a1") (codes "a2") (codes "b1") (codes "c1") (apart _ _ refl) (apart _ _ refl) (apart _ _ refl) (apart _ _ refl) (apart _ _ refl) (apart _ _ refl);
  clusters = All-from_recursion (λ person. (1 ≤ person.cluster) × (person.cluster ≤ 2)) (three_persons barred).people ((omega arith, omega arith), ((omega arith, omega arith), ((omega arith, omega arith), ((omega arith, omega arith), tt))));
  numbers_differ = differ_four 0 3 1 2 (eqb-false _ _ refl) (eqb-false _ _ refl) (eqb-false _ _ refl) (eqb-false _ _ refl) (eqb-false _ _ refl) (eqb-false _ _ refl);
  numbers_below = All-from_recursion (λ number. number < 4) (0 ∷ 3 ∷ 1 ∷ 2 ∷ []) (omega arith, (omega arith, (omega arith, (omega arith, tt))));
  each_number = has_number;
  square = square;
  owners_differ = differ_three (codes "a") (codes "b") (codes "c") (apart _ _ refl) (apart _ _ refl) (apart _ _ refl);
  own = All-from_recursion (λ owner. (1 ≤ owner.own) × (owner.own ≤ 5)) (three_persons barred).owners ((omega arith, omega arith), ((omega arith, omega arith), ((omega arith, omega arith), tt)));
  in_turn = (refl, (refl, (refl, refl)));
  one_cluster = All-from_recursion (λ owner. (place : ℕ) → IsOwned owner place → cluster_at (three_persons barred) place ≡ cluster_at (three_persons barred) owner.first) (three_persons barred).owners (
    (λ place owned. first_cluster barred place (omega arith)),
    (
      (λ place owned. ap (cluster_at (three_persons barred)) (omega arith)),
      ((λ place owned. ap (cluster_at (three_persons barred)) (omega arith)), tt),
    ),
  );
  rising = All-from_recursion (λ owner. (place : ℕ) → IsOwned owner place → IsOwned owner (place + 1) → number_at (three_persons barred) place < number_at (three_persons barred) (place + 1)) (three_persons barred).owners (
    (λ place owned next. first_numbers barred place (omega arith)),
    (
      (λ place owned next. absurd (omega arith)),
      ((λ place owned next. absurd (omega arith)), tt),
    ),
  );
}
