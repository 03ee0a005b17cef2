-- Places and register numbers, which tell each other.
use Rattle.std.proofs.Common.{◌≡◌, ◌≢◌, ℕ, ◌<◌, Bool, ◌&&◌, eqb, [], length, Some, None, sym, ap, ◌∙◌, inl, inr}
use Rattle.std.specs.Prelude.{nat_lt}
use Rattle.std.specs.List.{position_or_len, slice_get}
use Rattle.std.specs.Option.{option_map, option_map_or}
use Rattle.std.proofs.lemmas.Bool.{cond-true, eq-eqb, eqb-true, lt-ltb, ne_eqb, cases_eq}
use Rattle.std.proofs.lemmas.List.Elements.{All-contains}
use Rattle.std.proofs.lemmas.List.Folds.{find_at}
use Rattle.std.proofs.lemmas.Option.{get_or_from_slice_get, slice_get-get_or, slice_get-map, slice_get_within}
use Rattle.house_base.specs.declared.plan.Person.{Person}
use Rattle.house_base.specs.Setting.{Setting, IsSetting, name_at, names_of, number_at, numbers_of, size}
use Rattle.house_base.proofs.InOrderLemmas.{In-Contains, In-from_Contains, InOrder-from_AllPairs, map-In}
use Rattle.house_base.proofs.Settings.{find-from_Contains, number_at-read}
use Rattle.house_model.specs.Report.{place_of_number}
use Rattle.house_model.proofs.AtIndexLemmas.{same_index}
use Rattle.house_model.proofs.ReportLemmas.{place_of_number-within}
use Rattle.house_model.proofs.ReviewerLemmas.{name_at-slice_get}
use Rattle.peer_selection.specs.Counting.{count_below, sum_below}
use Rattle.peer_selection.proofs.CountingLemmas.{count_below-sum, one_if, sum_below-exchange, sum_below-same}
use Rattle.reserve_list.proofs.StandingLemmas.{only_one}

-- the place of a register number has it
pub number_at-place : (s : Setting) (i : ℕ) → IsSetting s → i < size s → number_at s (place_of_number s i) ≡ i
unfolding place_of_number
number_at-place s i h l =
    let test = λ (person : Person). eqb person.number i in
    let at = position_or_len test s.people in
    let some = map-In (λ person. person.number) i s.people (In-from_Contains i (numbers_of s) (h.each_number i l)) in
    let found = find-from_Contains test s.people some.0 (In-Contains some.0 s.people some.1) (eq-eqb some.0.number i (sym some.2)) in
    let here : slice_get s.people at ≡ Some found.0 = sym (find_at test s.people) ∙ found.1 in
    let first = cond-true (nat_lt at (length s.people)) (Some at) None (lt-ltb at (length s.people) (slice_get_within s.people at found.0 here)) in
    ap (λ o. number_at s (option_map_or (λ place. place) o 0)) first ∙ number_at-read s at found.0 here ∙ eqb-true found.0.number i found.2

number_at-slice_get : (s : Setting) (p : ℕ) → p < size s → slice_get (numbers_of s) p ≡ Some (number_at s p)
unfolding number_at
number_at-slice_get s p l =
    let nobody : Person = record { name = []; cluster = 0; number = 0 } in
    let here = slice_get-get_or s.people p nobody l in
    slice_get-map (λ person. person.number) s.people p
    ∙ ap (option_map (λ person. person.number)) here ∙ sym (ap (λ o. Some (option_map_or (λ person. person.number) o 0)) here)

pub number_at-below : (s : Setting) (p : ℕ) → IsSetting s → p < size s → number_at s p < size s
number_at-below s p h l =
    let at = number_at-slice_get s p l in
    All-contains (λ number. number < size s) (numbers_of s) (number_at s p) h.numbers_below
    (p, slice_get_within (numbers_of s) p (number_at s p) at, get_or_from_slice_get (numbers_of s) p (number_at s p) (number_at s p) at)

-- a register number is that of one place
pub place_of_number-at : (s : Setting) (p : ℕ) → IsSetting s → p < size s → place_of_number s (number_at s p) ≡ p
place_of_number-at s p h l =
    let i = number_at s p in
    let il = number_at-below s p h l in
    same_index (numbers_of s) (place_of_number s i) p i (InOrder-from_AllPairs (λ a b. a ≢ b) (numbers_of s) h.numbers_differ)
    (number_at-slice_get s (place_of_number s i) (place_of_number-within s i h) ∙ ap Some (number_at-place s i h il)) (number_at-slice_get s p l)

-- a name is that of one place
pub one_place : (s : Setting) (p q : ℕ) → IsSetting s → p < size s → q < size s → name_at s p ≡ name_at s q → p ≡ q
one_place s p q h pl ql e =
    same_index (names_of s) p q (name_at s p) (InOrder-from_AllPairs (λ a b. a ≢ b) (names_of s) h.names_differ) (name_at-slice_get s p pl) (name_at-slice_get s q ql ∙ ap Some (sym e))

-- What is counted by one is counted by the other.

-- two ways between numbers below n, each of which leads back
pub record AreInverse (to from : ℕ → ℕ) (n : ℕ) : Type 0 where
  pub to_below : (i : ℕ) → i < n → to i < n
  pub from_below : (p : ℕ) → p < n → from p < n
  pub back : (i : ℕ) → i < n → from (to i) ≡ i
  pub forth : (p : ℕ) → p < n → to (from p) ≡ p

same_test : (a b x y : ℕ) → (a ≡ b → x ≡ y) → (x ≡ y → a ≡ b) → eqb a b ≡ eqb x y
same_test a b x y f g = elim (cases_eq a b) [ inl e ↦ eq-eqb a b e ∙ sym (eq-eqb x y (f e)) | inr ne ↦ ne_eqb a b ne ∙ sym (ne_eqb x y (λ e. ne (g e))) ]

pub count_below-moved : (to from : ℕ → ℕ) (n : ℕ) (test : ℕ → Bool) → AreInverse to from n → count_below (λ i. test (to i)) n ≡ count_below test n
count_below-moved to from n test ways =
    let cell = λ (i p : ℕ). one_if (eqb p (to i) && test p) in
    count_below-sum (λ i. test (to i)) n
    ∙ sum_below-same (λ i. one_if (test (to i))) (λ i. sum_below (cell i) n) n
    (λ i l. sym (only_one test n (to i) (ways.to_below i l)) ∙ count_below-sum (λ p. eqb p (to i) && test p) n)
    ∙ sum_below-exchange cell n n
    ∙ sum_below-same (λ p. sum_below (λ i. cell i p) n) (λ p. one_if (test p)) n
    (λ p pl.
    sum_below-same (λ i. cell i p) (λ i. one_if (eqb i (from p) && test p)) n
    (λ i il. ap (λ x. one_if (x && test p)) (same_test p (to i) i (from p) (λ e. sym (ap from e ∙ ways.back i il)) (λ e. sym (ap to e ∙ ways.forth p pl))))
    ∙ sym (count_below-sum (λ i. eqb i (from p) && test p) n)
    ∙ only_one (λ i. test p) n (from p) (ways.from_below p pl))
    ∙ sym (count_below-sum test n)

pub numbers-places : (s : Setting) → IsSetting s → AreInverse (place_of_number s) (number_at s) (size s)
numbers-places s h = record {
  to_below = λ i l. place_of_number-within s i h;
  from_below = λ p l. number_at-below s p h l;
  back = λ i l. number_at-place s i h l;
  forth = λ p l. place_of_number-at s p h l;
}
