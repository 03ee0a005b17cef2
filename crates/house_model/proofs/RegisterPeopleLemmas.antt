use Rattle.std.proofs.Common.{◌≡◌, ℕ, zero, suc, ◌+◌, ◌<◌, ◌≤◌, ◌≢◌, Bool, true, false, cond, List, [], ◌∷◌, ◌++◌, length, map, filter, flat_map, find, bytes_eq, sum_by, Some, refl, sym, ap, ◌∙◌, subst, inl, inr, arith}
use Rattle.std.specs.List.{list_all, enumerate_from}
use Rattle.std.specs.Option.{option_map_or}
use Rattle.std.proofs.lemmas.Bool.{and_parts, false≢true}
use Rattle.std.proofs.lemmas.List.{length-map, map-append}
use Rattle.std.proofs.lemmas.List.FromFn.{length-enumerate_from}
use Rattle.std.proofs.lemmas.List.Sums.{sum_by-cons, length-filter}
use Rattle.house_base.specs.Text.{Text, among}
use Rattle.house_base.proofs.InOrderLemmas.{In, InOrder, Apart, In-map, map-In, In-filter, In-flat_map, flat_map-In, InOrder-filter, InOrder-map, map-InOrder, InOrder-weaker, InOrder-flat_map, InOrder-from_AllPairs, same_element}
use Rattle.house_base.proofs.AmongLemmas.{bytes_eq-same, among-In}
use Rattle.house_model.specs.Register.{Register, IsRegister, names, persons, placed_names, own_count, own_people, people, entry, cluster_of, all_placed}
use Rattle.house_model.proofs.GroupLemmas.{In-firsts, firsts-In, Apart-firsts, group, In-group, sum_by-groups}
use Rattle.house_model.proofs.RegisterLemmas.{their_persons}

-- The applicants in place order: each of the register stands among them once.

-- an applicant with its register number, and its person
abbrev pub Numbered : Type 0
Numbered = ℕ × (Text × Text)

abbrev pub person_in : Numbered → Text
person_in e = e.1.1

abbrev pub numbered : Register → List Numbered
numbered reg = enumerate_from 0 reg.applicants

-- the applicants of a person, and all of them, person by person
abbrev pub own_entries : Register → Text → List Numbered
own_entries reg = group person_in (numbered reg)

unfoldable pub entries : Register → List Numbered
entries reg = flat_map (own_entries reg) (persons reg)

-- lists made of others

pub map-map : {X Y Z : Type 0} (f : Y → Z) (g : X → Y) (xs : List X) → map f (map g xs) ≡ map (λ x. f (g x)) xs
map-map f g [] = refl
map-map f g (x ∷ xs) = ap (λ l. f (g x) ∷ l) (map-map f g xs)

pub map-flat_map : {X Y Z : Type 0} (f : Y → Z) (g : X → List Y) (xs : List X) → flat_map (λ x. map f (g x)) xs ≡ map f (flat_map g xs)
map-flat_map f g [] = refl
map-flat_map f g (x ∷ xs) = ap (λ l. map f (g x) ++ l) (map-flat_map f g xs) ∙ sym (map-append f (g x) (flat_map g xs))

pub length-sum_by : {X : Type 0} (xs : List X) → sum_by (λ x. 1) xs ≡ length xs
length-sum_by [] = refl
length-sum_by (x ∷ xs) = omega (arith, sum_by-cons (λ y. 1) x xs, length-sum_by xs)

-- the numbered applicants

pub In-enumerate_from : {X : Type 0} (n : ℕ) (xs : List X) (e : ℕ × X) → In e (enumerate_from n xs) → (n ≤ e.0) × (e.0 < n + length xs) × In e.1 xs
In-enumerate_from n [] e h = absurd h
In-enumerate_from n (x ∷ xs) e h =
    elim h [
      | inl same ↦ let number = ap (λ p. p.0) same in (omega arith, omega arith, inl (ap (λ p. p.1) same))
      | inr m ↦ let r = In-enumerate_from (n + 1) xs e m in (omega (arith, r.0), omega (arith, r.1), inr r.2)
    ]

pub enumerate_from-In : {X : Type 0} (n : ℕ) (xs : List X) (k : ℕ) → k < length xs → (x : X) × In (n + k, x) (enumerate_from n xs)
enumerate_from-In n [] k h = absurd (omega arith)
enumerate_from-In n (x ∷ xs) zero h = (x, inl (ap (λ m. (m, x)) (let e : n + 0 ≡ n = omega arith in e)))
enumerate_from-In {X} n (x ∷ xs) (suc k) h =
    let r = enumerate_from-In (n + 1) xs k (omega arith) in
    let P : ℕ → Type 0 = λ m. In (m, r.0) (enumerate_from (n + 1) xs) in
    (r.0, inr (subst P (let e : n + 1 + k ≡ n + suc k = omega arith in e) r.1))

pub InOrder-enumerate_from : {X : Type 0} (n : ℕ) (xs : List X) → InOrder (λ a b. a.0 < b.0) (enumerate_from n xs)
InOrder-enumerate_from n [] = tt
InOrder-enumerate_from n (x ∷ xs) = (λ e m. omega (arith, (In-enumerate_from (n + 1) xs e m).0), InOrder-enumerate_from (n + 1) xs)

pub map-enumerate_from : {X Y : Type 0} (f : X → Y) (n : ℕ) (xs : List X) → map (λ e. f e.1) (enumerate_from n xs) ≡ map f xs
map-enumerate_from f n [] = refl
map-enumerate_from f n (x ∷ xs) = ap (λ l. f x ∷ l) (map-enumerate_from f (n + 1) xs)

pub sum_by-enumerate_from : {X : Type 0} (w : X → ℕ) (n : ℕ) (xs : List X) → sum_by (λ e. w e.1) (enumerate_from n xs) ≡ sum_by w xs
sum_by-enumerate_from w n [] = refl
sum_by-enumerate_from w n (x ∷ xs) =
    omega (arith, sum_by-cons (λ e. w e.1) (n, x) (enumerate_from (n + 1) xs), sum_by-cons w x xs, sum_by-enumerate_from w (n + 1) xs)

-- each one's person is among the persons
pub person_among : (reg : Register) (e : Numbered) → In e (numbered reg) → In e.1.1 (persons reg)
unfolding persons
person_among reg e m = In-firsts (their_persons reg) e.1.1 (In-map (λ a. a.1) e.1 reg.applicants (In-enumerate_from 0 reg.applicants e m).2)

pub Apart-persons : (reg : Register) → Apart (persons reg)
unfolding persons
Apart-persons reg = Apart-firsts (their_persons reg)

-- people and entries

pub people-entries : (reg : Register) → people reg ≡ map (entry reg) (entries reg)
unfolding people own_people entries
people-entries reg = map-flat_map (entry reg) (own_entries reg) (persons reg)

pub entries-In : (reg : Register) (e : Numbered) → In e (entries reg) → In e (numbered reg)
unfolding entries
entries-In reg e m = let r = flat_map-In (own_entries reg) e (persons reg) m in (In-group person_in (numbered reg) r.0 e r.2).0

pub In-entries : (reg : Register) (e : Numbered) → In e (numbered reg) → In e (entries reg)
unfolding entries
In-entries reg e m =
    In-flat_map (own_entries reg) e.1.1 e (persons reg) (person_among reg e m)
    (In-filter (λ x. bytes_eq x.1.1 e.1.1) e (numbered reg) m (bytes_eq-same e.1.1 e.1.1 refl))

-- what the entries weigh together
pub sum_by-entries : (reg : Register) (w : Numbered → ℕ) → sum_by w (entries reg) ≡ sum_by w (numbered reg)
unfolding entries
sum_by-entries reg w = sum_by-groups w person_in (numbered reg) (persons reg) (Apart-persons reg) (person_among reg)

pub length-entries : (reg : Register) → length (entries reg) ≡ length reg.applicants
length-entries reg =
    sym (length-sum_by (entries reg)) ∙ (sum_by-entries reg (λ e. 1) ∙ (length-sum_by (numbered reg) ∙ length-enumerate_from 0 reg.applicants))

-- there are as many people as applicants
pub length-people : (reg : Register) → length (people reg) ≡ length reg.applicants
length-people reg = ap length (people-entries reg) ∙ (length-map (entries reg) (entry reg) ∙ length-entries reg)

-- what is apart among the applicants is apart in place order
pub Apart-entries : {Y : Type 0} (reg : Register) (f : Numbered → Y) → Apart (map f (numbered reg)) → Apart (map f (entries reg))
unfolding entries
Apart-entries {Y} reg f o =
    let differ : Numbered → Numbered → Type 0 = λ a b. f a ≢ f b in
    let across = InOrder-weaker (λ p q. p ≢ q) (λ p q. (a b : Numbered) → In a (own_entries reg p) → In b (own_entries reg q) → f a ≢ f b) (persons reg)
    (λ p q pm qm ne a b am bm e.
    let ra = In-group person_in (numbered reg) p a am in
    let rb = In-group person_in (numbered reg) q b bm in
    ne (sym ra.1 ∙ (ap person_in (same_element f (numbered reg) a b o ra.0 rb.0 e) ∙ rb.1))) (Apart-persons reg) in
    InOrder-map (λ a b. a ≢ b) f (entries reg)
    (InOrder-flat_map differ (own_entries reg) (persons reg)
    (λ p m. InOrder-filter differ (λ x. bytes_eq x.1.1 p) (numbered reg) (map-InOrder (λ a b. a ≢ b) f (numbered reg) o)) across)

pub Apart-names : (reg : Register) → IsRegister reg → Apart (map (λ person. person.name) (people reg))
Apart-names reg h =
    let listed : map (λ e. e.1.0) (numbered reg) ≡ names reg = map-enumerate_from (λ a. a.0) 0 reg.applicants in
    let placed : map (λ person. person.name) (people reg) ≡ map (λ e. e.1.0) (entries reg)
    = ap (map (λ person. person.name)) (people-entries reg) ∙ map-map (λ person. person.name) (entry reg) (entries reg) in
    subst (λ l. Apart l) (sym placed)
    (Apart-entries reg (λ e. e.1.0) (subst (λ l. Apart l) (sym listed) (InOrder-from_AllPairs (λ a b. a ≢ b) (names reg) h.names_differ)))

-- the numbers in place order
pub numbers-entries : (reg : Register) → map (λ person. person.number) (people reg) ≡ map (λ e. e.0) (entries reg)
numbers-entries reg = ap (map (λ person. person.number)) (people-entries reg) ∙ map-map (λ person. person.number) (entry reg) (entries reg)

pub Apart-numbers : (reg : Register) → Apart (map (λ person. person.number) (people reg))
Apart-numbers reg =
    subst (λ l. Apart l) (sym (numbers-entries reg))
    (Apart-entries reg (λ e. e.0) (InOrder-map (λ a b. a ≢ b) (λ e. e.0) (numbered reg)
    (InOrder-weaker (λ a b. a.0 < b.0) (λ a b. a.0 ≢ b.0) (numbered reg) (λ a b am bm less same. omega arith) (InOrder-enumerate_from 0 reg.applicants))))

pub number_below : (reg : Register) (number : ℕ) → In number (map (λ person. person.number) (people reg)) → number < length reg.applicants
number_below reg number m =
    let r = map-In (λ e. e.0) number (entries reg) (subst (λ l. In number l) (numbers-entries reg) m) in
    omega (arith, (In-enumerate_from 0 reg.applicants r.0 (entries-In reg r.0 r.1)).1, r.2)

pub number_among : (reg : Register) (number : ℕ) → number < length reg.applicants → In number (map (λ person. person.number) (people reg))
number_among reg number l =
    let r = enumerate_from-In 0 reg.applicants number l in
    let P : ℕ → Type 0 = λ n. In n (map (λ e. e.0) (entries reg)) in
    subst (λ l. In number l) (sym (numbers-entries reg))
    (subst P (let e : 0 + number ≡ number = omega arith in e) (In-map (λ e. e.0) (0 + number, r.0) (entries reg) (In-entries reg (0 + number, r.0) r.1)))

-- the applicants of one person

pub length-own_people : (reg : Register) (person : Text) → length (own_people reg person) ≡ own_count reg person
unfolding own_people own_count
length-own_people reg person =
    length-map (own_entries reg person) (entry reg)
    ∙ (length-filter (λ e. bytes_eq e.1.1 person) (numbered reg)
    ∙ sum_by-enumerate_from (λ a. cond (bytes_eq a.1 person) 1 0) 0 reg.applicants)

-- a list in which something stands is not empty
pub some_In : {X : Type 0} (x : X) (xs : List X) → In x xs → 1 ≤ length xs
some_In x [] m = absurd m
some_In x (y ∷ ys) m = omega arith

-- a person has an applicant
pub own_count-some : (reg : Register) (person : Text) → In person (persons reg) → 1 ≤ own_count reg person
unfolding persons own_count
own_count-some reg person m =
    let r = map-In (λ a. a.1) person reg.applicants (firsts-In (their_persons reg) person m) in
    omega (
      arith,
      length-filter (λ a. bytes_eq a.1 person) reg.applicants,
      some_In r.0 (filter (λ a. bytes_eq a.1 person) reg.applicants)
          (In-filter (λ a. bytes_eq a.1 person) r.0 reg.applicants r.1 (bytes_eq-same r.0.1 person (sym r.2))),
    )

-- the cluster of a person that was put into one
cluster_found : (placed : List (Text × ℕ)) (person : Text) → In person (map (λ p. p.0) placed)
    → (p : Text × ℕ) × In p placed × (option_map_or (λ p. p.1) (find (λ p. bytes_eq p.0 person) placed) 0 ≡ p.1)
cluster_found [] person m = absurd m
cluster_found (p ∷ ps) person m = here (bytes_eq p.0 person) refl (cluster_found ps person)
  where
    here : (b : Bool) → bytes_eq p.0 person ≡ b
        → (In person (map (λ q. q.0) ps) → (q : Text × ℕ) × In q ps × (option_map_or (λ q. q.1) (find (λ q. bytes_eq q.0 person) ps) 0 ≡ q.1))
        → (q : Text × ℕ) × In q (p ∷ ps) × (option_map_or (λ q. q.1) (cond b (Some p) (find (λ q. bytes_eq q.0 person) ps)) 0 ≡ q.1)
    here true e step = (p, inl refl, refl)
    here false e step =
        elim m [ inl same ↦ absurd (false≢true (sym e ∙ bytes_eq-same p.0 person (sym same))) | inr there ↦ let r = step there in (r.0, inr r.1, r.2) ]

passes_at : {X : Type 0} (p : X → Bool) (xs : List X) (x : X) → list_all p xs ≡ true → In x xs → p x ≡ true
passes_at p [] x h m = absurd m
passes_at p (y ∷ ys) x h m =
    let both = and_parts (p y) (list_all p ys) h in
    elim m [ inl e ↦ ap p e ∙ both.0 | inr there ↦ passes_at p ys x both.1 there ]

pub is_placed_each : (reg : Register) (person : Text) → all_placed reg ≡ true → In person (persons reg) → In person (placed_names reg)
unfolding all_placed
is_placed_each reg person h m = among-In (placed_names reg) person (passes_at (among (placed_names reg)) (persons reg) person h m)

pub cluster_of-placed : (reg : Register) (person : Text) → all_placed reg ≡ true → In person (persons reg)
    → (p : Text × ℕ) × In p reg.placed × (cluster_of reg person ≡ p.1)
unfolding cluster_of
cluster_of-placed reg person h m = cluster_found reg.placed person (is_placed_each reg person h m)
