use Rattle.std.proofs.Common.{◌≡◌, ℕ, ◌<◌, ◌≤◌, ◌-◌, ◌^◌, Bool, true, false, List, leb, refl, ap, arith, Some, None}
use Rattle.std.specs.Prelude.{◌&&◌}
use Rattle.std.specs.Option.{option_map_or}
use Rattle.std.specs.Str.Parse.{digits_value}
use Rattle.std.proofs.lemmas.Bool.{leb-true, le-leb}
use Rattle.std.proofs.lemmas.Option.{cond_some}
use Rattle.house_base.specs.Number.{is_canonical, number_up_to}
use Rattle.house_model.specs.Said.{number}
use Rattle.house_model.specs.Faults.{is_within}

both : (a b : Bool) → (a && b) ≡ true → (a ≡ true) × (b ≡ true)
both true b h = (refl, h)
both false b h = cc

-- what it is to spell a number that is at most so much
spelled : (most n : ℕ) (w : List ℕ) → number_up_to most w ≡ Some n → (is_canonical w ≡ true) × (digits_value 10 w ≡ n) × (n ≤ most)
unfolding number_up_to
spelled most n w h =
    let found = cond_some (is_canonical w && leb (digits_value 10 w) most) (digits_value 10 w) n h in
    let tests = both _ _ found.0 in
    let value : digits_value 10 w ≡ n = found.1 in
    let small : digits_value 10 w ≤ most = leb-true _ _ tests.1 in
    (tests.0, value, rw value at small)

pub number_at_most : (most n : ℕ) (w : List ℕ) → number_up_to most w ≡ Some n → n ≤ most
number_at_most most n w h = (spelled most n w h).2

-- a greater bound changes nothing
pub number_widens : (most bound n : ℕ) (w : List ℕ) → most ≤ bound → number_up_to most w ≡ Some n → number_up_to bound w ≡ Some n
unfolding number_up_to
number_widens most bound n w wider h =
    let s = spelled most n w h in
    let small : digits_value 10 w ≤ bound = let value = s.1 in let most_n = s.2 in omega arith in
    rw (s.0, le-leb _ _ small, s.1) refl

pub number_is : (most n : ℕ) (w : List ℕ) → most < 2 ^ 64 → number_up_to most w ≡ Some n → number w ≡ n
unfolding number
number_is most n w small h = ap (λ o. option_map_or (λ k. k) o 0) (number_widens most (2 ^ 64 - 1) n w (omega arith) h)

-- a number that was read under the greater bound
pub within_is : (low high n : ℕ) (w : List ℕ) → number_up_to high w ≡ Some n → is_within low high w ≡ leb low n
unfolding is_within
within_is low high n w h = ap (λ o. option_map_or (leb low) o false) h

pub within_none : (low high : ℕ) (w : List ℕ) → number_up_to high w ≡ None → is_within low high w ≡ false
unfolding is_within
within_none low high w h = ap (λ o. option_map_or (leb low) o false) h
