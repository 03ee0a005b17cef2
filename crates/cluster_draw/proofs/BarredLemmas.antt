use Rattle.std.proofs.Common.{◌≡◌, ◌≢◌, ℕ, zero, suc, ◌+◌, ◌*◌, ◌/◌, ◌%◌, ◌<◌, ◌≤◌, Bool, true, false, ◌&&◌, ◌||◌, ◌==◌, nat_lt, cond, List, [], ◌∷◌, length, get_or, map, take, Some, None, slice_get, refl, sym, ap, ◌∙◌, inl, inr, arith}
use Rattle.std.specs.List.{list_any}
use Rattle.std.specs.Option.{option_map_or}
use Rattle.std.proofs.Math.Nat.{mul_comm, div-add-mod, mod-lt, div-lt_iff_lt-mul}
use Rattle.std.proofs.lemmas.Bool.{cases_Bool, cases_eq, cases_lt, false≢true, and_parts, and_left, or_left, or_right, eq-eqb, eqb-true, ne_eqb, false_from_ne_true}
use Rattle.std.proofs.lemmas.Bool.Decides.{nat_tests}
use Rattle.std.proofs.lemmas.List.{ext_get_or, get_or_default, length-map, get_or-map}
use Rattle.std.proofs.lemmas.List.Elements.{All-get_or}
use Rattle.std.proofs.lemmas.List.Folds.{list_any_more}
use Rattle.std.proofs.lemmas.Option.{slice_get_within, slice_get-get_or, get_or_from_slice_get, same_Some}
use Rattle.house_base.specs.declared.limits.TheConstants.{MOST_APPLICANTS}
use Rattle.house_base.specs.declared.plan.Person.{Person}
use Rattle.house_base.specs.declared.plan.Owner.{Owner}
use Rattle.house_base.specs.Grid.{Square, cell}
use Rattle.house_base.specs.Setting.{Setting, IsSetting, owner_from, name_at}
use Rattle.house_base.proofs.Settings.{owner_from-first}
use Rattle.house_base.specs.Text.{Text}
use Rattle.house_base.proofs.InOrderLemmas.{In, In-Contains, In-from_Contains}
use Rattle.peer_selection.specs.Counting.{numbers_below}
use Rattle.peer_selection.proofs.CountingLemmas.{length-numbers_below, get_or-numbers_below}
use Rattle.house_model.specs.Register.{Register, names, people, owners, square_of, name_pair, pair_among}
use Rattle.house_model.proofs.ReviewerLemmas.{cases_owner, reviewer_at-some, reviewer_at-none}
use Rattle.cluster_draw.specs.Barred.{name_in, is_barred}
use Rattle.cluster_draw.specs.Placings.{AreApplicants, GivesOwnPlaces, numbers_in}

-- The square of the barred pairs.

-- One place more of a person's row.

-- what stands in a row and a column, when the columns up to a place were looked at
abbrev pub row_up_to : Bool → (ℕ → Bool) → ℕ → ℕ → ℕ → ℕ → Bool
row_up_to old test first place r p = old || (nat_lt p place && (first == r && test p))

set_here : (old f : Bool) → cond (f && true) true (old || false) ≡ (old || f)
set_here true true = refl
set_here true false = refl
set_here false true = refl
set_here false false = refl

set_elsewhere : (f row : Bool) → cond (f && false) true row ≡ row
set_elsewhere true row = refl
set_elsewhere false row = refl

and_true : (b : Bool) → (b && true) ≡ b
and_true true = refl
and_true false = refl

and_false : (b : Bool) → (b && false) ≡ false
and_false true = refl
and_false false = refl

or_false : (b : Bool) → (b || false) ≡ b
or_false true = refl
or_false false = refl

eqb-swap : (m n : ℕ) → (m == n) ≡ (n == m)
eqb-swap m n = elim (cases_eq m n) [
  | inl e ↦ eq-eqb m n e ∙ sym (eq-eqb n m (sym e))
  | inr ne ↦ ne_eqb m n ne ∙ sym (ne_eqb n m (λ e. ne (sym e)))
]

-- the row at the place itself, and at another
row_here : (old : Bool) (test : ℕ → Bool) (first place r p : ℕ) → p ≡ place → row_up_to old test first place r p ≡ (old || false)
row_here old test first place r p e = ap (λ b. old || (b && (first == r && test p))) (let late : nat_lt p place ≡ false = grind (arith, nat_tests) in late)

row_after : (old : Bool) (test : ℕ → Bool) (first place r p : ℕ) → p ≡ place → row_up_to old test first (place + 1) r p ≡ (old || (first == r && test place))
row_after old test first place r p e =
    ap (λ b. old || (b && (first == r && test p))) (let in_time : nat_lt p (place + 1) ≡ true = grind (arith, nat_tests) in in_time)
    ∙ ap (λ q. old || (first == r && test q)) e

row_elsewhere : (old : Bool) (test : ℕ → Bool) (first place r p : ℕ) → p ≢ place → row_up_to old test first place r p ≡ row_up_to old test first (place + 1) r p
row_elsewhere old test first place r p ne =
    ap (λ b. old || (b && (first == r && test p))) (let same : nat_lt p place ≡ nat_lt p (place + 1) = grind (arith, nat_tests) in same)

pub row_set : (old : Bool) (test : ℕ → Bool) (first place r p : ℕ) → test place ≡ true
    → cond (r == first && p == place) true (row_up_to old test first place r p) ≡ row_up_to old test first (place + 1) r p
row_set old test first place r p h = elim (cases_eq p place) [
  | inl e ↦
      ap (λ b. cond (r == first && b) true (row_up_to old test first place r p)) (eq-eqb p place e)
      ∙ (ap (λ b. cond (r == first && true) true b) (row_here old test first place r p e)
      ∙ (set_here old (r == first)
      ∙ (ap (λ b. old || b) (eqb-swap r first ∙ (sym (and_true (first == r)) ∙ ap (λ b. first == r && b) (sym h)))
      ∙ sym (row_after old test first place r p e))))
  | inr ne ↦
      ap (λ b. cond (r == first && b) true (row_up_to old test first place r p)) (ne_eqb p place ne)
      ∙ (set_elsewhere (r == first) (row_up_to old test first place r p) ∙ row_elsewhere old test first place r p ne)
]

-- columns that are not to be set
pub row_run : (old : Bool) (test : ℕ → Bool) (first from to r p : ℕ) → from ≤ to → ((q : ℕ) → from ≤ q → q < to → test q ≡ false)
    → row_up_to old test first from r p ≡ row_up_to old test first to r p
row_run old test first from to r p on none =
    elim (cases_lt p from) [
      | inl before ↦
          ap (λ b. old || (b && (first == r && test p))) (let same : nat_lt p from ≡ nat_lt p to = grind (arith, nat_tests) in same)
      | inr late ↦ elim (cases_lt p to) [
        | inl within ↦
            let unset : (first == r && test p) ≡ false = ap (λ b. first == r && b) (none p late within) ∙ and_false (first == r) in
            ap (λ b. old || (nat_lt p from && b)) unset
            ∙ (ap (λ b. old || b) (and_false (nat_lt p from) ∙ sym (and_false (nat_lt p to)))
            ∙ sym (ap (λ b. old || (nat_lt p to && b)) unset))
        | inr behind ↦
            ap (λ b. old || (b && (first == r && test p))) (let same : nat_lt p from ≡ nat_lt p to = grind (arith, nat_tests) in same)
      ]
    ]

pub row_start : (old : Bool) (test : ℕ → Bool) (first r p : ℕ) → old ≡ row_up_to old test first 0 r p
row_start old test first r p = sym (ap (λ b. old || (b && (first == r && test p))) (let late : nat_lt p 0 ≡ false = grind (arith, nat_tests) in late) ∙ or_false old)

pub row_whole : (old : Bool) (test : ℕ → Bool) (first place r p : ℕ) → p < place → row_up_to old test first place r p ≡ (old || (first == r && test p))
row_whole old test first place r p l = ap (λ b. old || (b && (first == r && test p))) (let in_time : nat_lt p place ≡ true = grind (arith, nat_tests) in in_time)

-- One person more.

pub is_barred-none : (ps : List (Text × Text)) (people : List Person) (r p : ℕ) → is_barred ps people [] r p ≡ false
unfolding is_barred
is_barred-none ps people r p = refl

pub is_barred-more : (ps : List (Text × Text)) (people : List Person) (owners : List Owner) (i : ℕ) (owner : Owner) (r p : ℕ) → slice_get owners i ≡ Some owner
    → is_barred ps people (take (i + 1) owners) r p ≡ (is_barred ps people (take i owners) r p || (owner.first == r && pair_among ps owner.name (name_in people p)))
unfolding is_barred
is_barred-more ps people owners i owner r p at =
    list_any_more (λ o. o.first == r && pair_among ps o.name (name_in people p)) owners i owner (slice_get_within owners i owner at)
    ∙ ap (λ o. list_any (λ w. w.first == r && pair_among ps w.name (name_in people p)) (take i owners) || (o.first == r && pair_among ps o.name (name_in people p)))
    (get_or_from_slice_get owners i owner owner at)

-- an applicant, by its register number
pub name_of_number : (reg : Register) (applicants : List Person) → AreApplicants reg applicants → (place : ℕ) → place < length applicants
    → get_or (names reg) (get_or (numbers_in applicants) place 0) [] ≡ name_in applicants place
name_of_number reg applicants h place below =
    let x : Person = get_or applicants place (record { name = []; cluster = 0; number = 0 }) in
    let at : slice_get applicants place ≡ Some x = slice_get-get_or applicants place (record { name = []; cluster = 0; number = 0 }) below in
    ap (λ n. get_or (names reg) n []) (get_or-map (λ person. person.number) applicants place (record { name = []; cluster = 0; number = 0 }) 0 below)
    ∙ (get_or_from_slice_get (names reg) x.number x.name [] (h.named place x at) ∙ sym (ap (λ o. option_map_or (λ person. person.name) o []) at))

-- a table that gives the places of all numbers
abbrev GivesPlaces : List Person → List ℕ → Type 0
GivesPlaces applicants table = (place : ℕ) → place < length applicants → get_or table (get_or (numbers_in applicants) place 0) 0 ≡ place

pub number_in_range : (reg : Register) (applicants : List Person) → AreApplicants reg applicants → (place : ℕ) → place < length applicants
    → get_or (numbers_in applicants) place 0 < length reg.applicants
number_in_range reg applicants h place below =
    let low = All-get_or (λ number. number < length applicants) (numbers_in applicants) place 0 (omega (arith, below, length-map applicants (λ (person : Person). person.number))) h.numbers_below in
    omega (arith, low, h.many)

place_found : (reg : Register) (applicants : List Person) (table : List ℕ) → AreApplicants reg applicants → GivesPlaces applicants table → (number : ℕ) → number < length reg.applicants
    → (get_or table number 0 < length applicants) × (get_or (numbers_in applicants) (get_or table number 0) 0 ≡ number)
place_found reg applicants table h gives number below =
    let contained = h.each_number number (omega (arith, below, h.many)) in
    let inside : contained.0 < length applicants = omega (arith, contained.1, length-map applicants (λ (person : Person). person.number)) in
    let its : get_or (numbers_in applicants) contained.0 0 ≡ number = get_or_default (numbers_in applicants) contained.0 0 number contained.1 ∙ contained.2 in
    let entry : get_or table number 0 ≡ contained.0 = ap (λ n. get_or table n 0) (sym its) ∙ gives contained.0 inside in
    (omega (arith, entry, inside), ap (λ k. get_or (numbers_in applicants) k 0) entry ∙ its)

pub own_places : (reg : Register) (applicants : List Person) (table : List ℕ) → AreApplicants reg applicants → length reg.applicants ≤ MOST_APPLICANTS → length table ≡ MOST_APPLICANTS
    → GivesPlaces applicants table → GivesOwnPlaces (length reg.applicants) table
own_places reg applicants table h few room gives = record {
  few = few;
  room = room;
  below = λ number below. omega (arith, (place_found reg applicants table h gives number below).0, h.many);
  differ = λ a b al bl same.
      sym (place_found reg applicants table h gives a al).1
      ∙ (ap (λ k. get_or (numbers_in applicants) k 0) same ∙ (place_found reg applicants table h gives b bl).1);
}

-- Among all persons: the one whose first place this is.

any_none : {X : Type 0} (test : X → Bool) (xs : List X) → ((y : X) → In y xs → test y ≡ false) → list_any test xs ≡ false
any_none test [] h = refl
any_none test (y ∷ ys) h = ap (λ b. b || list_any test ys) (h y (inl refl)) ∙ any_none test ys (λ z zm. h z (inr zm))

any_some : {X : Type 0} (test : X → Bool) (xs : List X) (x : X) → In x xs → test x ≡ true → list_any test xs ≡ true
any_some test [] x m e = absurd m
any_some test (y ∷ ys) x m e =
    elim m [
      | inl same ↦ or_left (test y) (list_any test ys) (ap test (sym same) ∙ e)
      | inr there ↦ or_right (test y) (list_any test ys) (any_some test ys x there e)
    ]

-- where one element alone may pass, the test of it decides
any_only : {X : Type 0} (test : X → Bool) (xs : List X) (x : X) → In x xs → ((y : X) → In y xs → test y ≡ true → y ≡ x) → list_any test xs ≡ test x
any_only test xs x m h = elim (cases_Bool (test x)) [
  | inl e ↦ any_some test xs x m e ∙ sym e
  | inr e ↦ any_none test xs (λ y ym. false_from_ne_true (test y) (λ t. false≢true (sym e ∙ (ap test (sym (h y ym t)) ∙ t)))) ∙ sym e
]

pub is_barred-named : (ps : List (Text × Text)) (s : Setting) (r p : ℕ) → IsSetting s → ((a : Text) → pair_among ps [] a ≡ false)
    → is_barred ps s.people s.owners r p ≡ name_pair ps s r p
unfolding is_barred name_pair name_at
is_barred-named ps s r p h nobody =
    let test : Owner → Bool = λ o. o.first == r && pair_among ps o.name (name_in s.people p) in
    elim (cases_owner s r) [
      | inl some ↦
          let owner = some.0 in
          any_only test s.owners owner (In-from_Contains owner s.owners some.1)
          (λ o m e.
          let first = eqb-true o.first r (and_parts (o.first == r) (pair_among ps o.name (name_in s.people p)) e).0 in
          let found = owner_from-first s o h (In-Contains o s.owners m) in
          same_Some o owner (sym found ∙ (ap (owner_from s) first ∙ some.3)))
          ∙ (ap (λ b. b && pair_among ps owner.name (name_in s.people p)) (eq-eqb owner.first r some.2)
          ∙ ap (λ t. pair_among ps t (name_in s.people p)) (sym (reviewer_at-some s r owner some.3)))
      | inr none ↦
          any_none test s.owners
          (λ o m. and_left (o.first == r) (pair_among ps o.name (name_in s.people p))
          (ne_eqb o.first r (λ e. none_some o (sym none ∙ (ap (owner_from s) (sym e) ∙ owner_from-first s o h (In-Contains o s.owners m))))))
          ∙ sym (ap (λ t. pair_among ps t (name_in s.people p)) (reviewer_at-none s r none) ∙ nobody (name_in s.people p))
    ]
  where
    none_some : (o : Owner) → None ≡ Some o → ⊥
    none_some o e = let wrong : ⊥ = cc in wrong

-- A square by its cells.

pub square_by_cells : (grid : Square) (n : ℕ) (test : ℕ → ℕ → Bool) → grid.side ≡ n → length grid.cells ≡ n * n
    → ((r p : ℕ) → r < n → p < n → cell grid r p ≡ test r p) → grid ≡ square_of n test
unfolding square_of cell
square_by_cells grid n test side many each =
    let same : grid.cells ≡ map (λ k. test (k / n) (k % n)) (numbers_below (n * n)) =
    ext_get_or false grid.cells (map (λ k. test (k / n) (k % n)) (numbers_below (n * n)))
    (many ∙ sym (length-map (numbers_below (n * n)) (λ k. test (k / n) (k % n)) ∙ length-numbers_below (n * n)))
    (λ i l.
    let below : i < n * n = omega (arith, l, many) in
    let positive : 0 < n = some_factor n i below in
    let whole = div-add-mod i n in
    let row : i / n < n = (div-lt_iff_lt-mul {k = n} {x = i} {y = n} positive).1 below in
    let column : i % n < n = mod-lt i {m = n} positive in
    let at : i ≡ i / n * grid.side + i % n = index_of i n grid.side side whole in
    ap (λ k. get_or grid.cells k false) at
    ∙ (each (i / n) (i % n) row column
    ∙ sym (get_or-map (λ k. test (k / n) (k % n)) (numbers_below (n * n)) i 0 false (omega (arith, below, length-numbers_below (n * n)))
    ∙ ap (λ k. test (k / n) (k % n)) (get_or-numbers_below (n * n) i 0 below)))) in
    ap (λ m. record { side = m; cells = grid.cells }) side ∙ ap (λ l. record { side = n; cells = l }) same
  where
    some_factor : (m i : ℕ) → i < m * m → 0 < m
    some_factor zero i l = absurd (omega arith)
    some_factor (suc m) i l = omega arith

    index_of : (i m k : ℕ) → k ≡ m → m * (i / m) + i % m ≡ i → i ≡ i / m * k + i % m
    index_of i m k e w = sym (ap (λ x. i / m * x + i % m) e ∙ (ap (λ x. x + i % m) (mul_comm (i / m) m) ∙ w))
