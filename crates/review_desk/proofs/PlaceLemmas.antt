use Rattle.std.proofs.Common.{◌≡◌, ◌≢◌, ℕ, zero, suc, ◌+◌, ◌<◌, ◌≤◌, Bool, true, false, not, ◌||◌, cond, ltb, AllPairs, List, [], ◌∷◌, ◌++◌, length, map, take, bytes_eq, Option, Some, None, refl, sym, ap, ◌∙◌, inl, inr, arith}
use Rattle.std.specs.List.{All, Contains, find, position, position_from, position_or_len, slice_get}
use Rattle.std.specs.Option.{is_some, option_map}
use Rattle.std.proofs.lemmas.Bool.{cases_Bool, cond-true, cond-false}
use Rattle.std.proofs.lemmas.List.{length-map, take_more}
use Rattle.std.proofs.lemmas.List.Elements.{All-head, All-tail}
use Rattle.std.proofs.lemmas.List.Folds.{find_at}
use Rattle.std.proofs.lemmas.Option.{slice_get_within, slice_get_past, slice_get-map, get_or_from_slice_get, same_Some}
use Rattle.house_base.specs.declared.limits.TheConstants.{MOST_OWN}
use Rattle.house_base.specs.declared.plan.Owner.{Owner}
use Rattle.house_base.specs.declared.plan.Person.{Person}
use Rattle.house_base.specs.Setting.{StandInTurn}
use Rattle.house_base.proofs.Settings.{StandInTurn-le}
use Rattle.house_base.specs.Text.{Text, among}
use Rattle.house_base.proofs.AmongLemmas.{among-cons, bytes_eq-swap}
use Rattle.name_index.specs.Index.{number_in}
use Rattle.name_index.proofs.IndexLemmas.{among-before, number_from_position, no_number}

-- Names by their numbers.

-- where the first element stands whose name is a text
number_of_name : {X : Type 0} (view : X → Text) (t : Text) (xs : List X) → position_or_len (λ x. bytes_eq (view x) t) xs ≡ number_in (map view xs) t
unfolding number_in
number_of_name view t [] = refl
number_of_name view t (x ∷ xs) =
    ap (λ b. cond (not b) (1 + position_or_len (λ y. bytes_eq (view y) t) xs) 0) (bytes_eq-swap (view x) t)
    ∙ ap (λ n. cond (not (bytes_eq t (view x))) (1 + n) 0) (number_of_name view t xs)

pub position-names : {X : Type 0} (view : X → Text) (t : Text) (xs : List X) → position (bytes_eq t) (map view xs) ≡ position (λ x. bytes_eq (view x) t) xs
unfolding number_in
position-names view t xs =
    ap (λ k. cond (ltb (number_in (map view xs) t) k) (Some (number_in (map view xs) t)) None) (length-map xs view)
    ∙ ap (λ n. cond (ltb n (length xs)) (Some n) None) (sym (number_of_name view t xs))

-- what a search finds, by the number of a name
pub find-numbered : {X : Type 0} (view : X → Text) (t : Text) (xs : List X) (i : ℕ) (x : X) → position (bytes_eq t) (map view xs) ≡ Some i →
    slice_get xs i ≡ Some x → find (λ y. bytes_eq (view y) t) xs ≡ Some x
find-numbered view t xs i x number at =
    find_at (λ y. bytes_eq (view y) t) xs ∙ (ap (slice_get xs) (number_of_name view t xs ∙ (number_from_position (map view xs) t i number).0) ∙ at)

pub find-unnumbered : {X : Type 0} (view : X → Text) (t : Text) (xs : List X) → position (bytes_eq t) (map view xs) ≡ None → find (λ y. bytes_eq (view y) t) xs ≡ None
find-unnumbered view t xs none =
    find_at (λ y. bytes_eq (view y) t) xs ∙ (ap (slice_get xs) (number_of_name view t xs)
    ∙ slice_get_past xs (number_in (map view xs) t) (omega (arith, length-map xs view, no_number (map view xs) t none)))

-- a number is one of an element
pub number-below : {X : Type 0} (view : X → Text) (t : Text) (xs : List X) (i : ℕ) → position (bytes_eq t) (map view xs) ≡ Some i → i < length xs
number-below view t xs i number = omega (arith, length-map xs view, (number_from_position (map view xs) t i number).1)

-- the names of the elements so far, and of one more
pub names-more : {X : Type 0} (view : X → Text) (xs : List X) (i : ℕ) (x : X) (names : List Text) → slice_get xs i ≡ Some x →
    names ≡ take i (map view xs) → names ++ view x ∷ [] ≡ take (i + 1) (map view xs)
names-more view xs i x names at are =
    let here : slice_get (map view xs) i ≡ Some (view x) = slice_get-map view xs i ∙ ap (option_map view) at in
    ap (λ ts. ts ++ view x ∷ []) are
    ∙ (ap (λ t. take i (map view xs) ++ t ∷ []) (sym (get_or_from_slice_get (map view xs) i (view x) [] here))
    ∙ sym (take_more (map view xs) i [] (slice_get_within (map view xs) i (view x) here)))

-- the next of different names is not among those before
pub name-new : {X : Type 0} (view : X → Text) (xs : List X) (i : ℕ) (x : X) (names : List Text) → AllPairs (λ a b. a ≢ b) (map view xs) →
    slice_get xs i ≡ Some x → names ≡ take i (map view xs) → among names (view x) ≡ false
name-new view xs i x names differ at are =
    let here : slice_get (map view xs) i ≡ Some (view x) = slice_get-map view xs i ∙ ap (option_map view) at in
    ap (λ ts. among ts (view x)) are ∙ among-before (map view xs) i (view x) differ here

-- Whether a name is found.

some-cond : {A : Type 0} (b : Bool) (x : A) (o : Option A) (c : Bool) → c ≡ is_some o → (b || c) ≡ is_some (cond b (Some x) o)
some-cond true x o c h = refl
some-cond false x o c h = h

pub among-find : (owners : List Owner) (name : Text) → among (map (λ o. o.name) owners) name ≡ is_some (find (λ o. bytes_eq o.name name) owners)
unfolding among
among-find [] name = refl
among-find (o ∷ owners) name =
    let rest = find (λ (o : Owner). bytes_eq o.name name) owners in
    among-cons o.name (map (λ (o : Owner). o.name) owners) name
    ∙ (ap (λ b. b || among (map (λ (o : Owner). o.name) owners) name) (bytes_eq-swap name o.name)
    ∙ some-cond (bytes_eq o.name name) o rest (among (map (λ (o : Owner). o.name) owners) name) (among-find owners name))

pub among-position : (people : List Person) (k : ℕ) (name : Text) → among (map (λ p. p.name) people) name ≡ is_some (position_from (λ p. bytes_eq p.name name) k people)
unfolding among
among-position [] k name = refl
among-position (p ∷ people) k name =
    let rest = position_from (λ (p : Person). bytes_eq p.name name) (k + 1) people in
    among-cons p.name (map (λ (p : Person). p.name) people) name
    ∙ (ap (λ b. b || among (map (λ (p : Person). p.name) people) name) (bytes_eq-swap name p.name)
    ∙ some-cond (bytes_eq p.name name) k rest (among (map (λ (p : Person). p.name) people) name) (among-position people (k + 1) name))

-- What is found is below the number of applicants.

pub first-below : (from : ℕ) (owners : List Owner) (n : ℕ) (owner : Owner) → All (λ owner. (1 ≤ owner.own) × (owner.own ≤ MOST_OWN)) owners →
    StandInTurn from owners n → Contains owners owner → owner.first < n
first-below from [] n owner own stand (k, within, is) = absurd (omega arith)
first-below from (first ∷ rest) n owner own stand (zero, within, is) =
    let one = All-head (λ owner. (1 ≤ owner.own) × (owner.own ≤ MOST_OWN)) first rest own in
    omega (arith, stand.0, ap (λ o. o.first) is, one.0, StandInTurn-le (from + first.own) rest n stand.1)
first-below from (first ∷ rest) n owner own stand (suc k, within, is) =
    first-below (from + first.own) rest n owner (All-tail (λ owner. (1 ≤ owner.own) × (owner.own ≤ MOST_OWN)) first rest own) stand.1 (k, omega arith, is)

pub position_from-below : {A : Type 0} (test : A → Bool) (k : ℕ) (xs : List A) (i : ℕ) → position_from test k xs ≡ Some i → i < k + length xs
position_from-below test k [] i h = cc
position_from-below test k (x ∷ xs) i h =
    elim (cases_Bool (test x)) [
      | inl passes ↦ let same : k ≡ i = same_Some k i (sym (cond-true (test x) (Some k) (position_from test (k + 1) xs) passes) ∙ h) in omega (arith, same)
      | inr fails ↦ omega (arith, position_from-below test (k + 1) xs i (sym (cond-false (test x) (Some k) (position_from test (k + 1) xs) fails) ∙ h))
    ]
