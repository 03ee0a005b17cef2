use Rattle.std.proofs.Common.{◌≡◌, ℕ, suc, ◌+◌, ◌<◌, ◌≢◌, Bool, true, false, not, ◌&&◌, ◌||◌, ◌==◌, nat_lt, cond, List, [], ◌∷◌, length, bytes_eq, sum_by, Some, None, slice_get, option_map, refl, sym, ap, ◌∙◌, subst, inl, inr, arith}
use Rattle.std.specs.List.{enumerate_from, position_or_len}
use Rattle.std.specs.Option.{option_map_or}
use Rattle.std.proofs.lemmas.Bool.{cond-true, cond-false, lt-ltb, not_from_false, not_from_true}
use Rattle.std.proofs.lemmas.Bool.Decides.{nat_tests}
use Rattle.std.proofs.lemmas.Option.{slice_get-map, same_Some, slice_get_within}
use Rattle.std.proofs.lemmas.List.Sums.{sum_by-cons}
use Rattle.house_base.specs.Text.{Text}
use Rattle.house_base.proofs.InOrderLemmas.{In, InOrder, Apart, InOrder-filter, InOrder-weaker, InOrder-flat_map}
use Rattle.house_base.proofs.AmongLemmas.{bytes_eq-same, bytes_eq-other}
use Rattle.peer_selection.specs.Counting.{count_below}
use Rattle.house_model.specs.Register.{Register, persons, person_number, person_of, place, people, entry}
use Rattle.house_model.proofs.GroupLemmas.{In-group}
use Rattle.house_model.proofs.RegisterPeopleLemmas.{Numbered, person_in, numbered, own_entries, entries, people-entries, In-entries, sum_by-entries, enumerate_from-In, InOrder-enumerate_from, Apart-persons}

-- The place of each applicant: how many stand before it.

-- the index of a person among persons that differ

rank_within : (ps : List Text) (p : Text) → In p ps → position_or_len (bytes_eq p) ps < length ps
rank_within [] p m = absurd m
rank_within (x ∷ xs) p m = elim m [
  | inl e ↦ omega (arith, cond-false (not (bytes_eq p x)) (1 + position_or_len (bytes_eq p) xs) 0 (not_from_true (bytes_eq p x) (bytes_eq-same p x e)))
  | inr there ↦ at_most (not (bytes_eq p x)) (rank_within xs p there)
]
  where
    at_most : (b : Bool) → position_or_len (bytes_eq p) xs < length xs → cond b (1 + position_or_len (bytes_eq p) xs) 0 < suc (length xs)
    at_most true l = omega arith
    at_most false l = omega arith

rank_first : (x : Text) (xs : List Text) → position_or_len (bytes_eq x) (x ∷ xs) ≡ 0
rank_first x xs = cond-false (not (bytes_eq x x)) (1 + position_or_len (bytes_eq x) xs) 0 (not_from_true (bytes_eq x x) (bytes_eq-same x x refl))

rank_behind : (x : Text) (xs : List Text) (p : Text) → x ≢ p → position_or_len (bytes_eq p) (x ∷ xs) ≡ 1 + position_or_len (bytes_eq p) xs
rank_behind x xs p ne = cond-true (not (bytes_eq p x)) (1 + position_or_len (bytes_eq p) xs) 0 (not_from_false (bytes_eq p x) (bytes_eq-other p x (λ e. ne (sym e))))

ranks_rise : (ps : List Text) → Apart ps → InOrder (λ p q. position_or_len (bytes_eq p) ps < position_or_len (bytes_eq q) ps) ps
ranks_rise [] o = tt
ranks_rise (x ∷ xs) o = (
  λ q m. omega (arith, rank_first x xs, rank_behind x xs q (o.0 q m)),
  InOrder-weaker (λ p q. position_or_len (bytes_eq p) xs < position_or_len (bytes_eq q) xs) (λ p q. position_or_len (bytes_eq p) (x ∷ xs) < position_or_len (bytes_eq q) (x ∷ xs)) xs
      (λ p q pm qm l. omega (arith, l, rank_behind x xs p (o.0 p pm), rank_behind x xs q (o.0 q qm))) (ranks_rise xs o.1),
)

person_number-rank : (reg : Register) (p : Text) → In p (persons reg) → person_number reg p ≡ position_or_len (bytes_eq p) (persons reg)
unfolding person_number
person_number-rank reg p m =
    ap (λ o. option_map_or (λ i. i) o 0)
    (cond-true (nat_lt (position_or_len (bytes_eq p) (persons reg)) (length (persons reg))) (Some (position_or_len (bytes_eq p) (persons reg))) None
    (lt-ltb (position_or_len (bytes_eq p) (persons reg)) (length (persons reg)) (rank_within (persons reg) p m)))

numbers_rise : (reg : Register) → InOrder (λ p q. person_number reg p < person_number reg q) (persons reg)
numbers_rise reg =
    InOrder-weaker (λ p q. position_or_len (bytes_eq p) (persons reg) < position_or_len (bytes_eq q) (persons reg)) (λ p q. person_number reg p < person_number reg q) (persons reg)
    (λ p q pm qm l. omega (arith, l, person_number-rank reg p pm, person_number-rank reg q qm)) (ranks_rise (persons reg) (Apart-persons reg))

-- whether one applicant stands before another
abbrev before : Register → Numbered → Numbered → Bool
before reg e f = nat_lt (person_number reg e.1.1) (person_number reg f.1.1) || (person_number reg e.1.1 == person_number reg f.1.1 && nat_lt e.0 f.0)

-- one stands before the other, and not the other way round
abbrev Precedes : Register → Numbered → Numbered → Type 0
Precedes reg e f = (before reg e f ≡ true) × (before reg f e ≡ false)

pub test_by_person : (m n i j : ℕ) → m < n → ((nat_lt m n || (m == n && nat_lt i j)) ≡ true) × ((nat_lt n m || (n == m && nat_lt j i)) ≡ false)
test_by_person m n i j l = (grind (arith, nat_tests), grind (arith, nat_tests))

pub test_by_number : (m i j : ℕ) → i < j → ((nat_lt m m || (m == m && nat_lt i j)) ≡ true) × ((nat_lt m m || (m == m && nat_lt j i)) ≡ false)
test_by_number m i j l = (grind (arith, nat_tests), grind (arith, nat_tests))

pub test_itself : (m i : ℕ) → (nat_lt m m || (m == m && nat_lt i i)) ≡ false
test_itself m i = grind (arith, nat_tests)

precedes_by_person : (reg : Register) (e f : Numbered) → person_number reg e.1.1 < person_number reg f.1.1 → Precedes reg e f
precedes_by_person reg e f l = test_by_person (person_number reg e.1.1) (person_number reg f.1.1) e.0 f.0 l

precedes_by_number : (reg : Register) (e f : Numbered) → e.1.1 ≡ f.1.1 → e.0 < f.0 → Precedes reg e f
precedes_by_number reg e f same l =
    let P : ℕ → Type 0 = λ n. ((nat_lt (person_number reg e.1.1) n || (person_number reg e.1.1 == n && nat_lt e.0 f.0)) ≡ true) × ((nat_lt n (person_number reg e.1.1) || (n == person_number reg e.1.1 && nat_lt f.0 e.0)) ≡ false) in
    subst P (ap (person_number reg) same) (test_by_number (person_number reg e.1.1) e.0 f.0 l)

entries_in_order : (reg : Register) → InOrder (Precedes reg) (entries reg)
unfolding entries
entries_in_order reg =
    InOrder-flat_map (Precedes reg) (own_entries reg) (persons reg)
    (λ p pm. InOrder-weaker (λ a b. a.0 < b.0) (Precedes reg) (own_entries reg p)
    (λ a b am bm l. precedes_by_number reg a b ((In-group person_in (numbered reg) p a am).1 ∙ sym (In-group person_in (numbered reg) p b bm).1) l)
    (InOrder-filter (λ a b. a.0 < b.0) (λ e. bytes_eq e.1.1 p) (numbered reg) (InOrder-enumerate_from 0 reg.applicants)))
    (InOrder-weaker (λ p q. person_number reg p < person_number reg q) (λ p q. (a b : Numbered) → In a (own_entries reg p) → In b (own_entries reg q) → Precedes reg a b) (persons reg)
    (λ p q pm qm l a b am bm. precedes_by_person reg a b
    (omega (arith, l, ap (person_number reg) (In-group person_in (numbered reg) p a am).1, ap (person_number reg) (In-group person_in (numbered reg) q b bm).1)))
    (numbers_rise reg))

-- In a list in order, as many stand before an element as its index says.

count_none : {X : Type 0} (p : X → Bool) (xs : List X) → ((x : X) → In x xs → p x ≡ false) → sum_by (λ x. cond (p x) 1 0) xs ≡ 0
count_none p [] h = refl
count_none p (x ∷ xs) h =
    omega (arith, sum_by-cons (λ y. cond (p y) 1 0) x xs, cond-false {A = ℕ} (p x) 1 0 (h x (inl refl)), count_none p xs (λ y m. h y (inr m)))

pub index_in_order : {X : Type 0} (test : X → X → Bool) (xs : List X) (x : X) → ((y : X) → test y y ≡ false)
    → InOrder (λ a b. (test a b ≡ true) × (test b a ≡ false)) xs → In x xs → slice_get xs (sum_by (λ y. cond (test y x) 1 0) xs) ≡ Some x
index_in_order test [] x own o m = absurd m
index_in_order test (z ∷ xs) x own o m = elim m [
  | inl e ↦
      let head = cond-false {A = ℕ} (test z x) 1 0 (ap (test z) e ∙ own z) in
      let rest = count_none (λ y. test y x) xs (λ y ym. ap (test y) e ∙ (o.0 y ym).1) in
      ap (slice_get (z ∷ xs)) (let zero_before : sum_by (λ y. cond (test y x) 1 0) (z ∷ xs) ≡ 0 = omega (arith, sum_by-cons (λ y. cond (test y x) 1 0) z xs, head, rest) in zero_before) ∙ ap Some (sym e)
  | inr there ↦
      let head = cond-true {A = ℕ} (test z x) 1 0 (o.0 x there).0 in
      ap (slice_get (z ∷ xs)) (let one_more : sum_by (λ y. cond (test y x) 1 0) (z ∷ xs) ≡ suc (sum_by (λ y. cond (test y x) 1 0) xs) = omega (arith, sum_by-cons (λ y. cond (test y x) 1 0) z xs, head) in one_more)
      ∙ index_in_order test xs x own o.1 there
]

-- The place is that count.

count_below-step : (p : ℕ → Bool) (n : ℕ) → count_below p (suc n) ≡ count_below p n + cond (p n) 1 0
unfolding count_below
count_below-step p n = refl

pub count_below-start : (p : ℕ → Bool) → count_below p 0 ≡ 0
unfolding count_below
count_below-start p = refl

pub count_by-enumerate_from : {X : Type 0} (p : ℕ → Bool) (n : ℕ) (xs : List X) → count_below p n + sum_by (λ e. cond (p e.0) 1 0) (enumerate_from n xs) ≡ count_below p (n + length xs)
count_by-enumerate_from p n [] = omega (arith, ap (count_below p) (let e : n + 0 ≡ n = omega arith in e))
count_by-enumerate_from p n (x ∷ xs) =
    omega (
      arith,
      sum_by-cons (λ e. cond (p e.0) 1 0) (n, x) (enumerate_from (n + 1) xs),
      count_by-enumerate_from p (n + 1) xs,
      count_below-step p n,
      ap (count_below p) (let e : n + 1 ≡ suc n = omega arith in e),
      ap (count_below p) (let e : n + 1 + length xs ≡ n + suc (length xs) = omega arith in e),
    )

pub sum_by-agree : {X : Type 0} (f g : X → ℕ) (xs : List X) → ((x : X) → In x xs → f x ≡ g x) → sum_by f xs ≡ sum_by g xs
sum_by-agree f g [] h = refl
sum_by-agree f g (x ∷ xs) h =
    omega (arith, sum_by-cons f x xs, sum_by-cons g x xs, h x (inl refl), sum_by-agree f g xs (λ y m. h y (inr m)))

-- a numbered applicant stands at its number
pub enumerate_from-at : {X : Type 0} (n : ℕ) (xs : List X) (e : ℕ × X) → In e (enumerate_from n xs) → (k : ℕ) × (e.0 ≡ n + k) × (slice_get xs k ≡ Some e.1)
enumerate_from-at n [] e m = absurd m
enumerate_from-at n (x ∷ xs) e m = elim m [
  | inl same ↦ let number = ap (λ p. p.0) same in (0, omega arith, ap Some (sym (ap (λ p. p.1) same)))
  | inr there ↦ let r = enumerate_from-at (n + 1) xs e there in (suc r.0, omega (arith, r.1), r.2)
]

pub applicant_at : (reg : Register) (e : Numbered) → In e (numbered reg) → slice_get reg.applicants e.0 ≡ Some e.1
applicant_at reg e m =
    let r = enumerate_from-at 0 reg.applicants e m in
    ap (slice_get reg.applicants) (let same : e.0 ≡ r.0 = omega (arith, r.1) in same) ∙ r.2

pub person_of-at : (reg : Register) (e : Numbered) → In e (numbered reg) → person_of reg e.0 ≡ e.1.1
unfolding person_of
person_of-at reg e m = ap (λ o. option_map_or (λ a. a.1) o []) (applicant_at reg e m)

place-count : (reg : Register) (e : Numbered) → In e (numbered reg) → place reg e.0 ≡ sum_by (λ x. cond (before reg x e) 1 0) (entries reg)
unfolding place
place-count reg e m =
    let test = λ (j : ℕ). nat_lt (person_number reg (person_of reg j)) (person_number reg (person_of reg e.0)) || (person_number reg (person_of reg j) == person_number reg (person_of reg e.0) && nat_lt j e.0) in
    let listed = count_by-enumerate_from test 0 reg.applicants in
    let from_zero = ap (count_below test) (let z : 0 + length reg.applicants ≡ length reg.applicants = omega arith in z) in
    let agree = sum_by-agree (λ x. cond (test x.0) 1 0) (λ x. cond (before reg x e) 1 0) (numbered reg)
    (λ x xm. ap (λ b. cond b 1 0)
    (ap (λ t. nat_lt (person_number reg t) (person_number reg (person_of reg e.0)) || (person_number reg t == person_number reg (person_of reg e.0) && nat_lt x.0 e.0)) (person_of-at reg x xm)
    ∙ ap (λ t. nat_lt (person_number reg x.1.1) (person_number reg t) || (person_number reg x.1.1 == person_number reg t && nat_lt x.0 e.0)) (person_of-at reg e m))) in
    omega (arith, listed, from_zero, agree, count_below-start test, sum_by-entries reg (λ x. cond (before reg x e) 1 0))

-- the applicant with a number stands at its place
pub people-place : (reg : Register) (e : Numbered) → In e (numbered reg) → slice_get (people reg) (place reg e.0) ≡ Some (entry reg e)
people-place reg e m =
    ap (λ l. slice_get l (place reg e.0)) (people-entries reg)
    ∙ (slice_get-map (entry reg) (entries reg) (place reg e.0)
    ∙ ap (option_map (entry reg)) (ap (slice_get (entries reg)) (place-count reg e m)
    ∙ index_in_order (before reg) (entries reg) e (λ y. test_itself (person_number reg y.1.1) y.0) (entries_in_order reg) (In-entries reg e m)))

-- ... by the applicant
pub applicant-place : (reg : Register) (i : ℕ) → i < length reg.applicants
    → (a : Text × Text) × (slice_get reg.applicants i ≡ Some a) × (slice_get (people reg) (place reg i) ≡ Some (entry reg (i, a)))
applicant-place reg i l =
    let r = enumerate_from-In 0 reg.applicants i l in
    let P : ℕ → Type 0 = λ n. In (n, r.0) (numbered reg) in
    let m = subst P (let e : 0 + i ≡ i = omega arith in e) r.1 in
    (r.0, applicant_at reg (i, r.0) m, people-place reg (i, r.0) m)

pub place-below : (reg : Register) (i : ℕ) → i < length reg.applicants → place reg i < length (people reg)
place-below reg i l =
    let r = applicant-place reg i l in
    slice_get_within (people reg) (place reg i) (entry reg (i, r.0)) r.2

-- different applicants have different places
pub place-apart : (reg : Register) (i j : ℕ) → i < length reg.applicants → j < length reg.applicants → place reg i ≡ place reg j → i ≡ j
place-apart reg i j il jl e =
    let r = applicant-place reg i il in
    let s = applicant-place reg j jl in
    ap (λ person. person.number) (same_Some (entry reg (i, r.0)) (entry reg (j, s.0)) (sym r.2 ∙ (ap (slice_get (people reg)) e ∙ s.2)))

-- the applicant at an index stands at its place
pub slice_get-place : (reg : Register) (i : ℕ) (a : Text × Text) → slice_get reg.applicants i ≡ Some a → slice_get (people reg) (place reg i) ≡ Some (entry reg (i, a))
slice_get-place reg i a e =
    let r = applicant-place reg i (slice_get_within reg.applicants i a e) in
    r.2 ∙ ap (λ x. Some (entry reg (i, x))) (same_Some r.0 a (sym r.1 ∙ e))
