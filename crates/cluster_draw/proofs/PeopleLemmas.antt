use Rattle.std.proofs.Common.{◌≡◌, ℕ, suc, ◌+◌, ◌<◌, ◌≤◌, true, false, List, [], ◌∷◌, ◌++◌, length, get_or, map, filter, find, flat_map, take, bytes_eq, Option, Some, None, is_some, IfSome, slice_get, refl, sym, ap, ◌∙◌, inl, inr, arith, length-append, append-nil, append_assoc, length-take-le, le_of_lt, zero, Bool, not, drop, subst}
use Rattle.std.specs.List.{enumerate_from}
use Rattle.std.specs.Option.{option_map, option_map_or, unwrap_or}
use Rattle.std.proofs.lemmas.Bool.{cond-true, cond-false, cases_Bool, cases_lt, false≢true}
use Rattle.std.proofs.lemmas.List.{take_more, map_push, take_all, length-map, map-append, take-map, take-append-drop}
use Rattle.std.proofs.lemmas.List.Elements.{filter-append}
use Rattle.std.proofs.lemmas.List.Concat.{flat_map-append}
use Rattle.std.proofs.lemmas.Option.{slice_get-map, slice_get_within, slice_get-get_or, get_or_from_slice_get, same_Some}
use Rattle.house_base.specs.declared.plan.Person.{Person}
use Rattle.house_base.specs.declared.plan.Owner.{Owner}
use Rattle.house_base.specs.Text.{Text, among}
use Rattle.house_model.specs.Register.{Register, names, persons, placed_names, own_count, own_people, owners_from, entry, cluster_of, person_of, firsts}
use Rattle.register_book.specs.Held.{text_at}
use Rattle.cluster_draw.specs.Placings.{name_of, names_of, ArePlacings, own_rows, applicants_in}
use Rattle.cluster_draw.specs.declared.placings.Placing.{Placing}
use Rattle.house_base.proofs.InOrderLemmas.{In, All-In, filter-In}
use Rattle.house_base.proofs.AmongLemmas.{bytes_eq-other, not_In, not_among, bytes_eq-same}
use Rattle.house_model.proofs.GroupLemmas.{In-group}
use Rattle.house_model.proofs.RegisterPeopleLemmas.{Numbered, person_in, numbered, own_entries, length-own_people}
use Rattle.house_model.proofs.AtIndexLemmas.{In-slice_get}

-- The people of a plan, person by person.

-- The applicants of one person.

enumerate_from-append : {X : Type 0} (n : ℕ) (xs ys : List X) → enumerate_from n (xs ++ ys) ≡ enumerate_from n xs ++ enumerate_from (n + length xs) ys
enumerate_from-append n [] ys = ap (λ m. enumerate_from m ys) (let e : n ≡ n + 0 = omega arith in e)
enumerate_from-append n (x ∷ xs) ys =
    ap (λ l. (n, x) ∷ l) (enumerate_from-append (n + 1) xs ys
    ∙ ap (λ m. enumerate_from (n + 1) xs ++ enumerate_from m ys) (let e : n + 1 + length xs ≡ n + suc (length xs) = omega arith in e))

-- one more applicant, numbered
numbered_more : {X : Type 0} (xs : List X) (i : ℕ) (x : X) → slice_get xs i ≡ Some x → enumerate_from 0 (take (i + 1) xs) ≡ enumerate_from 0 (take i xs) ++ (i, x) ∷ []
numbered_more xs i x at =
    let l = slice_get_within xs i x at in
    ap (enumerate_from 0) (take_more xs i x l ∙ ap (λ y. take i xs ++ y ∷ []) (get_or_from_slice_get xs i x x at))
    ∙ (enumerate_from-append 0 (take i xs) (x ∷ [])
    ∙ ap (λ m. enumerate_from 0 (take i xs) ++ (m, x) ∷ []) (let e : 0 + length (take i xs) ≡ i = omega (arith, length-take-le i xs (le_of_lt l)) in e))

pub own_rows-more : (person : Text) (cluster : ℕ) (xs : List (Text × Text)) (i : ℕ) (x : Text × Text) → slice_get xs i ≡ Some x → bytes_eq x.1 person ≡ true
    → own_rows person cluster (enumerate_from 0 (take (i + 1) xs)) ≡ own_rows person cluster (enumerate_from 0 (take i xs)) ++ record { name = x.0; cluster = cluster; number = i } ∷ []
own_rows-more person cluster xs i x at own =
    ap (own_rows person cluster) (numbered_more xs i x at)
    ∙ (ap (map (λ e. record { name = e.1.0; cluster = cluster; number = e.0 }))
    (filter-append (λ e. bytes_eq e.1.1 person) (enumerate_from 0 (take i xs)) ((i, x) ∷ [])
    ∙ ap (λ l. filter (λ e. bytes_eq e.1.1 person) (enumerate_from 0 (take i xs)) ++ l) (cond-true (bytes_eq x.1 person) ((i, x) ∷ []) [] own))
    ∙ map_push (λ e. record { name = e.1.0; cluster = cluster; number = e.0 }) (filter (λ e. bytes_eq e.1.1 person) (enumerate_from 0 (take i xs))) (i, x))

pub own_rows-same : (person : Text) (cluster : ℕ) (xs : List (Text × Text)) (i : ℕ) (x : Text × Text) → slice_get xs i ≡ Some x → bytes_eq x.1 person ≡ false
    → own_rows person cluster (enumerate_from 0 (take (i + 1) xs)) ≡ own_rows person cluster (enumerate_from 0 (take i xs))
own_rows-same person cluster xs i x at other =
    ap (own_rows person cluster) (numbered_more xs i x at)
    ∙ ap (map (λ e. record { name = e.1.0; cluster = cluster; number = e.0 }))
    (filter-append (λ e. bytes_eq e.1.1 person) (enumerate_from 0 (take i xs)) ((i, x) ∷ [])
    ∙ (ap (λ l. filter (λ e. bytes_eq e.1.1 person) (enumerate_from 0 (take i xs)) ++ l) (cond-false (bytes_eq x.1 person) ((i, x) ∷ []) [] other)
    ∙ append-nil (filter (λ e. bytes_eq e.1.1 person) (enumerate_from 0 (take i xs)))))

map-agree : {X Y : Type 0} (f g : X → Y) (xs : List X) → ((x : X) → In x xs → f x ≡ g x) → map f xs ≡ map g xs
map-agree f g [] h = refl
map-agree f g (x ∷ xs) h = ap (λ y. y ∷ map f xs) (h x (inl refl)) ∙ ap (λ l. g x ∷ l) (map-agree f g xs (λ y m. h y (inr m)))

-- all rows of a person are its people
own_rows-whole : (reg : Register) (person : Text) → own_rows person (cluster_of reg person) (numbered reg) ≡ own_people reg person
unfolding own_people
own_rows-whole reg person =
    map-agree (λ e. record { name = e.1.0; cluster = cluster_of reg person; number = e.0 }) (entry reg) (own_entries reg person)
    (λ e m. ap (λ t. record { name = e.1.0; cluster = cluster_of reg t; number = e.0 }) (sym (In-group person_in (numbered reg) person e m).1))

-- The first applicant of a person.

-- a text stands in a list at an index or behind it
abbrev StandsFrom : List Text → ℕ → Text → Type 0
StandsFrom xs i t = (j : ℕ) × (i ≤ j) × (slice_get xs j ≡ Some t)

from_rest : (x t : Text) (ys xs : List Text) (i : ℕ) → ((k : ℕ) → slice_get ys k ≡ Some t → StandsFrom xs k t) → slice_get (x ∷ ys) i ≡ Some t → StandsFrom (x ∷ xs) i t
from_rest x t ys xs zero rest h = (0, omega arith, h)
from_rest x t ys xs (suc k) rest h = let there = rest k h in (suc there.0, omega (arith, there.1), there.2)

-- what passes a test stands in the whole list at its index or behind it
from_filter : (f : Text → Bool) (xs : List Text) (i : ℕ) (t : Text) → slice_get (filter f xs) i ≡ Some t → StandsFrom xs i t
from_filter f [] i t e = absurd (let wrong : ⊥ = cc in wrong)
from_filter f (x ∷ xs) i t e = elim (cases_Bool (f x)) [
  | inl passes ↦
      from_rest x t (filter f xs) xs i (λ k h. from_filter f xs k t h) (ap (λ l. slice_get l i) (sym (cond-true (f x) (x ∷ filter f xs) (filter f xs) passes)) ∙ e)
  | inr fails ↦
      let there = from_filter f xs i t (ap (λ l. slice_get l i) (sym (cond-false (f x) (x ∷ filter f xs) (filter f xs) fails)) ∙ e) in
      (suc there.0, omega (arith, there.1), there.2)
]

-- a text that is first at an index among the first ones is not among as many texts before
firsts-not_before : (xs : List Text) (k i : ℕ) (t : Text) → k ≤ i → slice_get (firsts xs) i ≡ Some t → In t (take k xs) → ⊥
firsts-not_before xs zero i t l e m = m
firsts-not_before [] (suc k) i t l e m = m
firsts-not_before (x ∷ xs) (suc k) zero t l e m = absurd (omega (arith, l))
firsts-not_before (x ∷ xs) (suc k) (suc i) t l e m =
    let others = filter (λ y. not (bytes_eq x y)) (firsts xs) in
    let passes = (filter-In (λ y. not (bytes_eq x y)) t (firsts xs) (In-slice_get others i t e)).1 in
    elim m [
      | inl same ↦ false≢true (sym (ap not (bytes_eq-same x t (sym same))) ∙ passes)
      | inr there ↦ let behind = from_filter (λ y. not (bytes_eq x y)) (firsts xs) i t e in firsts-not_before xs k behind.0 t (omega (arith, l, behind.1)) behind.2 there
    ]

own_rows-none : (person : Text) (cluster n : ℕ) (xs : List (Text × Text)) → (In person (map (λ a. a.1) xs) → ⊥) → own_rows person cluster (enumerate_from n xs) ≡ []
own_rows-none person cluster n [] absent = refl
own_rows-none person cluster n (x ∷ xs) absent =
    ap (map (λ e. record { name = e.1.0; cluster = cluster; number = e.0 }))
    (cond-false (bytes_eq x.1 person) ((n, x) ∷ filter (λ e. bytes_eq e.1.1 person) (enumerate_from (n + 1) xs)) (filter (λ e. bytes_eq e.1.1 person) (enumerate_from (n + 1) xs))
    (bytes_eq-other x.1 person (λ e. absent (inl (sym e)))))
    ∙ own_rows-none person cluster (n + 1) xs (λ m. absent (inr m))

-- no applicant whose number is below a person's is that person's
pub own_rows-before : (reg : Register) (person cluster : ℕ) (name : Text) → slice_get (persons reg) person ≡ Some name
    → own_rows name cluster (enumerate_from 0 (take person reg.applicants)) ≡ []
unfolding persons
own_rows-before reg person cluster name here =
    own_rows-none name cluster 0 (take person reg.applicants) (λ m.
    firsts-not_before (map (λ a. a.1) reg.applicants) person person name (omega arith) here
    (subst (λ l. In name l) (sym (take-map (λ a. a.1) person reg.applicants)) m))

-- All of a person's applicants, when as many were found as it has.

own_rows-append : (person : Text) (cluster : ℕ) (es fs : List Numbered) → own_rows person cluster (es ++ fs) ≡ own_rows person cluster es ++ own_rows person cluster fs
own_rows-append person cluster es fs =
    ap (map (λ e. record { name = e.1.0; cluster = cluster; number = e.0 })) (filter-append (λ e. bytes_eq e.1.1 person) es fs)
    ∙ map-append (λ e. record { name = e.1.0; cluster = cluster; number = e.0 }) (filter (λ e. bytes_eq e.1.1 person) es) (filter (λ e. bytes_eq e.1.1 person) fs)

nothing_behind : (whole front back : List Person) → whole ≡ front ++ back → length whole ≤ length front → front ≡ whole
nothing_behind whole front [] e l = sym (e ∙ append-nil front)
nothing_behind whole front (p ∷ back) e l = absurd (omega (arith, ap length e, length-append front (p ∷ back), l))

own_rows-split : (person : Text) (cluster n : ℕ) (xs : List (Text × Text)) → own_rows person cluster (enumerate_from 0 xs)
    ≡ own_rows person cluster (enumerate_from 0 (take n xs)) ++ own_rows person cluster (enumerate_from (0 + length (take n xs)) (drop n xs))
own_rows-split person cluster n xs =
    ap (λ ys. own_rows person cluster (enumerate_from 0 ys)) (sym (take-append-drop n xs))
    ∙ (ap (own_rows person cluster) (enumerate_from-append 0 (take n xs) (drop n xs))
    ∙ own_rows-append person cluster (enumerate_from 0 (take n xs)) (enumerate_from (0 + length (take n xs)) (drop n xs)))

own_rows-enough : (person : Text) (cluster n : ℕ) (xs : List (Text × Text))
    → length (own_rows person cluster (enumerate_from 0 xs)) ≤ length (own_rows person cluster (enumerate_from 0 (take n xs)))
    → own_rows person cluster (enumerate_from 0 (take n xs)) ≡ own_rows person cluster (enumerate_from 0 xs)
own_rows-enough person cluster n xs l =
    nothing_behind (own_rows person cluster (enumerate_from 0 xs)) (own_rows person cluster (enumerate_from 0 (take n xs)))
    (own_rows person cluster (enumerate_from (0 + length (take n xs)) (drop n xs))) (own_rows-split person cluster n xs) l

-- the applicant with a number, by its name and its person
pub applicant_parts : (reg : Register) (i : ℕ) (name : Text) → slice_get (names reg) i ≡ Some name → slice_get reg.applicants i ≡ Some (name, person_of reg i)
unfolding person_of
applicant_parts reg i name e = which (slice_get reg.applicants i) (sym (slice_get-map (λ a. a.0) reg.applicants i) ∙ e)
  where
    which : (o : Option (Text × Text)) → option_map (λ a. a.0) o ≡ Some name → o ≡ Some (name, option_map_or (λ a. a.1) o [])
    which None h = absurd (let wrong : ⊥ = cc in wrong)
    which (Some a) h = ap (λ t. Some (t, a.1)) (same_Some a.0 name h)

pub applicant_known : (reg : Register) (i : ℕ) → i < length reg.applicants → (name : Text) × (slice_get reg.applicants i ≡ Some (name, person_of reg i))
applicant_known reg i l =
    let a = get_or reg.applicants i ([], []) in
    let at = slice_get-get_or reg.applicants i ([], []) l in
    (a.0, applicant_parts reg i a.0 (slice_get-map (λ b. b.0) reg.applicants i ∙ ap (option_map (λ b. b.0)) at))

-- a person that was put into no cluster
not_found : (placed : List (Text × ℕ)) (person : Text) → among (map (λ p. p.0) placed) person ≡ false → find (λ p. bytes_eq p.0 person) placed ≡ None
not_found [] person h = refl
not_found (p ∷ ps) person h =
    let absent = not_In (map (λ q. q.0) (p ∷ ps)) person h in
    cond-false (bytes_eq p.0 person) (Some p) (find (λ q. bytes_eq q.0 person) ps) (bytes_eq-other p.0 person (λ e. absent (inl (sym e))))
    ∙ not_found ps person (not_among (map (λ q. q.0) ps) person (λ m. absent (inr m)))

pub cluster_or_none : (reg : Register) (person : Text) (o : Option ℕ) → is_some o ≡ among (placed_names reg) person → IfSome o (λ cluster. cluster ≡ cluster_of reg person)
    → unwrap_or o 0 ≡ cluster_of reg person
unfolding cluster_of
cluster_or_none reg person None placed same = sym (ap (λ w. option_map_or (λ p. p.1) w 0) (not_found reg.placed person (sym placed)))
cluster_or_none reg person (Some cluster) placed same = same

-- the applicants of a person in its cluster are its people
pub own_rows-people : (reg : Register) (person : Text) (cluster : ℕ) → cluster ≡ cluster_of reg person → own_rows person cluster (numbered reg) ≡ own_people reg person
own_rows-people reg person cluster e = ap (λ k. own_rows person k (numbered reg)) e ∙ own_rows-whole reg person

pub length-own_rows : (reg : Register) (person : Text) (cluster : ℕ) → length (own_rows person cluster (numbered reg)) ≡ own_count reg person
unfolding own_people
length-own_rows reg person cluster =
    length-map (own_entries reg person) (λ e. record { name = e.1.0; cluster = cluster; number = e.0 })
    ∙ (sym (length-map (own_entries reg person) (entry reg)) ∙ length-own_people reg person)

-- the rows among the first applicants are no more than the person has applicants
pub own_rows-most : (reg : Register) (number cluster : ℕ) (person : Text)
    → length (own_rows person cluster (enumerate_from 0 (take number reg.applicants))) ≤ own_count reg person
own_rows-most reg number cluster person =
    let front = own_rows person cluster (enumerate_from 0 (take number reg.applicants)) in
    let back = own_rows person cluster (enumerate_from (0 + length (take number reg.applicants)) (drop number reg.applicants)) in
    omega (arith, ap length (own_rows-split person cluster number reg.applicants), length-append front back, length-own_rows reg person cluster)

-- all of a person's rows, when as many were found as it has
pub whole_own : (reg : Register) (person number cluster : ℕ) (name : Text) (before ps : List Person) → slice_get (persons reg) person ≡ Some name
    → length before + own_count reg (text_at (persons reg) person) ≤ length ps → ps ≡ before ++ own_rows name cluster (enumerate_from 0 (take number reg.applicants))
    → ps ≡ before ++ own_rows (text_at (persons reg) person) cluster (numbered reg)
whole_own reg person number cluster name before ps here l e =
    let named = get_or_from_slice_get (persons reg) person name [] here in
    let rows = own_rows name cluster (enumerate_from 0 (take number reg.applicants)) in
    let enough : length (own_rows name cluster (numbered reg)) ≤ length rows =
    omega (arith, l, ap length e, length-append before rows, length-own_rows reg name cluster, ap (own_count reg) named) in
    e
    ∙ ap (λ found. before ++ found)
    (own_rows-enough name cluster number reg.applicants enough ∙ ap (λ t. own_rows t cluster (numbered reg)) (sym named))

-- while fewer rows were found than a person has applicants, there are applicants that were not looked at
pub own_left : (reg : Register) (number cluster : ℕ) (name : Text) (before ps : List Person) → length ps < length before + own_count reg name
    → ps ≡ before ++ own_rows name cluster (enumerate_from 0 (take number reg.applicants)) → number < length reg.applicants
own_left reg number cluster name before ps l e = elim (cases_lt number (length reg.applicants)) [
  | inl below ↦ below
  | inr past ↦
      let rows = own_rows name cluster (enumerate_from 0 (take number reg.applicants)) in
      let all = ap (λ ys. length (own_rows name cluster (enumerate_from 0 ys))) (take_all number reg.applicants past) in
      absurd (omega (arith, l, ap length e, length-append before rows, all, length-own_rows reg name cluster))
]

pub push_row : (ps front rows : List Person) (row : Person) → ps ≡ front ++ rows → ps ++ row ∷ [] ≡ front ++ (rows ++ row ∷ [])
push_row ps front rows row e = ap (λ l. l ++ row ∷ []) e ∙ append_assoc front rows (row ∷ [])

-- One person more.

pub applicants_in-more : (reg : Register) (placings : List Placing) (n : ℕ) (placing : Placing) → slice_get placings n ≡ Some placing
    → applicants_in reg (take (n + 1) placings) ≡ applicants_in reg (take n placings) ++ own_rows (name_of reg placing) placing.cluster (numbered reg)
unfolding applicants_in
applicants_in-more reg placings n placing at =
    let rows : Placing → List Person = λ p. own_rows (name_of reg p) p.cluster (numbered reg) in
    ap (flat_map rows) (placings_more placings n placing at)
    ∙ (flat_map-append rows (take n placings) (placing ∷ []) ∙ ap (λ l. flat_map rows (take n placings) ++ l) (append-nil (rows placing)))
  where
    placings_more : (ps : List Placing) (k : ℕ) (p : Placing) → slice_get ps k ≡ Some p → take (k + 1) ps ≡ take k ps ++ p ∷ []
    placings_more ps k p here = take_more ps k p (slice_get_within ps k p here) ∙ ap (λ q. take k ps ++ q ∷ []) (get_or_from_slice_get ps k p p here)

applicants_in-first : (reg : Register) (placing : Placing) (placings : List Placing)
    → applicants_in reg (placing ∷ placings) ≡ own_rows (name_of reg placing) placing.cluster (numbered reg) ++ applicants_in reg placings
unfolding applicants_in
applicants_in-first reg placing placings = refl

applicants_in-none : (reg : Register) → applicants_in reg [] ≡ []
unfolding applicants_in
applicants_in-none reg = refl

owners_from-push : (reg : Register) (first : ℕ) (placings : List Placing) (placing : Placing)
    → owners_from reg first (names_of reg (placings ++ placing ∷ []))
    ≡ owners_from reg first (names_of reg placings) ++ record { name = name_of reg placing; first = first + length (applicants_in reg placings); own = own_count reg (name_of reg placing) } ∷ []
owners_from-push reg first [] placing =
    ap (λ n. record { name = name_of reg placing; first = n; own = own_count reg (name_of reg placing) } ∷ [])
    (let e : first ≡ first + length (applicants_in reg []) = omega (arith, ap length (applicants_in-none reg)) in e)
owners_from-push reg first (q ∷ qs) placing =
    let p = name_of reg placing in
    ap (λ l. record { name = name_of reg q; first = first; own = own_count reg (name_of reg q) } ∷ l) (owners_from-push reg (first + own_count reg (name_of reg q)) qs placing
    ∙ ap (λ n. owners_from reg (first + own_count reg (name_of reg q)) (names_of reg qs) ++ record { name = name_of reg placing; first = n; own = own_count reg (name_of reg placing) } ∷ [])
    (let e : first + own_count reg (name_of reg q) + length (applicants_in reg qs) ≡ first + length (applicants_in reg (q ∷ qs)) =
    omega (arith, ap length (applicants_in-first reg q qs), length-append (own_rows (name_of reg q) q.cluster (numbered reg)) (applicants_in reg qs), length-own_rows reg (name_of reg q) q.cluster) in e))

pub owners_in-more : (reg : Register) (placings : List Placing) (n : ℕ) (placing : Placing) → slice_get placings n ≡ Some placing
    → owners_from reg 0 (names_of reg (take (n + 1) placings))
    ≡ owners_from reg 0 (names_of reg (take n placings)) ++ record { name = name_of reg placing; first = length (applicants_in reg (take n placings)); own = own_count reg (name_of reg placing) } ∷ []
owners_in-more reg placings n placing at =
    ap (λ l. owners_from reg 0 (names_of reg l))
    (take_more placings n placing (slice_get_within placings n placing at) ∙ ap (λ q. take n placings ++ q ∷ []) (get_or_from_slice_get placings n placing placing at))
    ∙ (owners_from-push reg 0 (take n placings) placing
    ∙ ap (λ k. owners_from reg 0 (names_of reg (take n placings)) ++ record { name = name_of reg placing; first = k; own = own_count reg (name_of reg placing) } ∷ [])
    (let e : 0 + length (applicants_in reg (take n placings)) ≡ length (applicants_in reg (take n placings)) = omega arith in e))

pub applicants_in-start : (reg : Register) (placings : List Placing) → [] ≡ applicants_in reg (take 0 placings)
unfolding applicants_in
applicants_in-start reg placings = refl

-- The applicants of all placings are the people of the register.

flat_map-agree : {X Y : Type 0} (f g : X → List Y) (xs : List X) → ((x : X) → In x xs → f x ≡ g x) → flat_map f xs ≡ flat_map g xs
flat_map-agree f g [] h = refl
flat_map-agree f g (x ∷ xs) h = ap (λ y. y ++ flat_map f xs) (h x (inl refl)) ∙ ap (λ l. g x ++ l) (flat_map-agree f g xs (λ y m. h y (inr m)))

flat_map-map : {X Y Z : Type 0} (f : Y → List Z) (g : X → Y) (xs : List X) → flat_map (λ x. f (g x)) xs ≡ flat_map f (map g xs)
flat_map-map f g [] = refl
flat_map-map f g (x ∷ xs) = ap (λ l. f (g x) ++ l) (flat_map-map f g xs)

pub applicants_in-people : (reg : Register) (order : List Text) (placings : List Placing) → ArePlacings reg order placings
    → applicants_in reg placings ≡ flat_map (own_people reg) order
unfolding applicants_in
applicants_in-people reg order placings h =
    flat_map-agree (λ p. own_rows (name_of reg p) p.cluster (numbered reg)) (λ p. own_people reg (name_of reg p)) placings
    (λ p m. own_rows-people reg (name_of reg p) p.cluster (All-In (λ q. q.cluster ≡ cluster_of reg (name_of reg q)) placings p h.clusters m))
    ∙ (flat_map-map (own_people reg) (name_of reg) placings ∙ ap (flat_map (own_people reg)) h.named)

pub same_owner : (a : Owner) (name : Text) (first own : ℕ) → a.name ≡ name → a.first ≡ first → a.own ≡ own → ◌≡◌ {A = Owner} a (record { name = name; first = first; own = own })
same_owner a name first own e f g =
    ap (λ t. record { name = t; first = a.first; own = a.own }) e
    ∙ (ap (λ n. record { name = name; first = n; own = a.own }) f ∙ ap (λ n. record { name = name; first = first; own = n }) g)
