-- Places and names of a setting.
use Rattle.std.proofs.Common.{◌≡◌, ℕ, zero, suc, ◌+◌, ◌<◌, Bool, true, false, ◌&&◌, eqb, ltb, leb, List, [], ◌∷◌, length, map, get_or, Some, refl, sym, ap, ◌∙◌, inl, inr, arith}
use Rattle.std.specs.List.{slice_get, position_from}
use Rattle.std.specs.Option.{option_map_or}
use Rattle.std.proofs.lemmas.Bool.{cond-true, cond-false, le-leb, lt-ltb, and_from, cases_Bool, ne_eqb, eq-eqb}
use Rattle.std.proofs.lemmas.List.{get_or-map, length-map}
use Rattle.house_base.specs.declared.plan.Person.{Person}
use Rattle.house_base.specs.Setting.{Setting, IsSetting, size}
use Rattle.house_model.specs.Report.{place_of_number}
use Rattle.std.proofs.lemmas.List.{get_or_default}
use Rattle.std.proofs.lemmas.Bool.{true≢false}
use Rattle.std.specs.Prelude.{find, Contains}
use Rattle.std.proofs.lemmas.Option.{slice_get_within, get_or_from_slice_get}
use Rattle.std.proofs.lemmas.Iterator.Adapters.{position_from-zero}
use Rattle.std.proofs.lemmas.Bool.{and_parts}
use borrow.Author.Tests.{ltb-true, leb-true}
use Rattle.house_base.specs.declared.plan.Owner.{Owner}
use Rattle.house_base.specs.Setting.{IsOwned, number_at, numbers_of, name_at}
use Rattle.house_base.proofs.Settings.{number_at-read, same_owner}
use Rattle.house_model.specs.Report.{person_at}

-- Where a register number stands, and whose applicant stands at a place.

-- the first element that passes a test
first_at : {A : Type 0} (test : A → Bool) (k : ℕ) (xs : List A) (i : ℕ) (x : A) → slice_get xs i ≡ Some x → test x ≡ true →
    ((j : ℕ) (y : A) → j < i → slice_get xs j ≡ Some y → test y ≡ false) → position_from test k xs ≡ Some (k + i)
first_at test k [] i x at pass fails = absurd (omega (arith, slice_get_within [] i x at))
first_at test k (y ∷ ys) zero x at pass fails =
    cond-true (test y) (Some k) (position_from test (k + 1) ys) (ap (λ o. option_map_or test o true) at ∙ pass)
    ∙ ap Some (let e : k ≡ k + 0 = omega arith in e)
first_at test k (y ∷ ys) (suc i) x at pass fails =
    cond-false (test y) (Some k) (position_from test (k + 1) ys) (fails 0 y (omega arith) refl)
    ∙ (first_at test (k + 1) ys i x at pass (λ j z l az. fails (suc j) z (omega arith) az) ∙ ap Some (let e : k + 1 + i ≡ k + suc i = omega arith in e))

element : {A : Type 0} (xs : List A) (i : ℕ) → i < length xs → (x : A) × (slice_get xs i ≡ Some x)
element [] i l = absurd (omega arith)
element (x ∷ xs) zero l = (x, refl)
element (x ∷ xs) (suc i) l = element xs i (omega arith)

read : (people : List Person) (j : ℕ) (y : Person) → slice_get people j ≡ Some y → get_or (map (λ person. person.number) people) j 0 ≡ y.number
read people j y at = get_or-map (λ person. person.number) people j y 0 (slice_get_within people j y at) ∙ ap (λ person. person.number) (get_or_from_slice_get people j y y at)

person_at_place : (s : Setting) (place : ℕ) → place < size s → (x : Person) × (slice_get s.people place ≡ Some x)
person_at_place s place l = element s.people place l

-- the place of a register number is where it stands
pub place_of_number-at : (s : Setting) (place number : ℕ) → IsSetting s → place < size s → number_at s place ≡ number → place_of_number s number ≡ place
unfolding place_of_number
place_of_number-at s place number h l e =
    let test = λ (person : Person). eqb person.number number in
    let found = person_at_place s place l in
    let own : found.0.number ≡ number = sym (number_at-read s place found.0 found.1) ∙ e in
    let number_of = λ (person : Person). person.number in
    let first = first_at test 0 s.people place found.0 found.1 (eq-eqb found.0.number number own) (λ j y jl at.
    ne_eqb y.number number (λ same.
    h.numbers_differ j place 0 jl (omega (arith, length-map s.people number_of))
    (read s.people j y at ∙ (same ∙ (sym own ∙ sym (read s.people place found.0 found.1)))))) in
    ap (λ o. option_map_or (λ place. place) o 0) (position_from-zero test s.people ∙ first) ∙ (let z : 0 + place ≡ place = omega arith in z)

later : {A : Type 0} (z : A) (zs : List A) (x : A) (test : A → Bool) → Contains (z ∷ zs) x → test x ≡ true → test z ≡ false → Contains zs x
later z zs x test (zero, within, is) pass fail = absurd (true≢false (sym pass ∙ (ap test (sym is) ∙ fail)))
later z zs x test (suc k, within, is) pass fail = (k, omega arith, is)

-- a search finds an element that passes where there is one
finds : {A : Type 0} (test : A → Bool) (xs : List A) (x : A) → Contains xs x → test x ≡ true → (y : A) × (find test xs ≡ Some y) × Contains xs y × (test y ≡ true)
finds test [] x has pass = absurd (omega (arith, has.1))
finds test (z ∷ zs) x has pass =
    elim (cases_Bool (test z)) [
      | inl here ↦ (z, cond-true (test z) (Some z) (find test zs) here, (0, omega arith, refl), here)
      | inr fail ↦
          let rest = finds test zs x (later z zs x test has pass fail) pass in
          (rest.0, cond-false (test z) (Some z) (find test zs) fail ∙ rest.1, (suc rest.2.0, omega (arith, rest.2.1), rest.2.2), rest.3)
    ]

owned-test : (owner : Owner) (place : ℕ) → IsOwned owner place → (leb owner.first place && ltb place (owner.first + owner.own)) ≡ true
owned-test owner place h = and_from (leb owner.first place) (ltb place (owner.first + owner.own)) (le-leb owner.first place h.0) (lt-ltb place (owner.first + owner.own) h.1)

owned-by : (owner : Owner) (place : ℕ) → (leb owner.first place && ltb place (owner.first + owner.own)) ≡ true → IsOwned owner place
owned-by owner place h =
    let both = and_parts (leb owner.first place) (ltb place (owner.first + owner.own)) h in
    (leb-true owner.first place both.0, ltb-true place (owner.first + owner.own) both.1)

pub person_at-read : (s : Setting) (place : ℕ) (owner : Owner) → IsSetting s → Contains s.owners owner → IsOwned owner place → owner.name ≡ person_at s place
unfolding person_at
person_at-read s place owner h has owned =
    let test = λ (owner : Owner). leb owner.first place && ltb place (owner.first + owner.own) in
    let found = finds test s.owners owner has (owned-test owner place owned) in
    let same = same_owner 0 s.owners (size s) owner found.0 place h.in_turn has found.2 owned (owned-by found.0 place found.3) in
    ap (λ o. o.name) same ∙ sym (ap (λ o. option_map_or (λ owner. owner.name) o []) found.1)

-- each register number below the size stands at some place
pub number-stands : (s : Setting) (number : ℕ) → IsSetting s → number < size s → (place : ℕ) × (place < size s) × (number_at s place ≡ number)
number-stands s number h l =
    let at = h.each_number number l in
    let within : at.0 < size s = omega (arith, at.1, length-map s.people (λ person. person.number)) in
    let found = person_at_place s at.0 within in
    (at.0, within, number_at-read s at.0 found.0 found.1 ∙ (sym (read s.people at.0 found.0 found.1) ∙ (get_or_default (numbers_of s) at.0 0 number at.1 ∙ at.2)))

pub number_at-below : (s : Setting) (place : ℕ) → IsSetting s → place < size s → number_at s place < size s
number_at-below s place h l =
    let found = person_at_place s place l in
    let inside : place < length (numbers_of s) = omega (arith, length-map s.people (λ person. person.number)) in
    omega (arith, h.numbers_below place 0 inside, read s.people place found.0 found.1, number_at-read s place found.0 found.1)

pub name_at-read : (s : Setting) (place : ℕ) (person : Person) → slice_get s.people place ≡ Some person → person.name ≡ name_at s place
unfolding name_at
name_at-read s place person at = sym (ap (λ o. option_map_or (λ person. person.name) o []) at)
