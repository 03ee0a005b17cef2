use Rattle.std.proofs.Common.{◌≡◌, ◌≢◌, ℕ, ◌<◌, Bool, true, false, ◌&&◌, ◌||◌, ◌↔◌, cond, eqb, List, [], ◌∷◌, ◌++◌, length, get_or, map, filter, flat_map, All, AllPairs, Some, slice_get, bytes_eq, refl, sym, ap, ◌∙◌, subst, inl, inr, arith, append-nil}
use Rattle.std.specs.List.{list_any}
use Rattle.std.specs.Option.{option_map}
use Rattle.std.proofs.lemmas.Bool.{cases_Bool, false≢true, cond-false, and_parts, and_from, or_cases, or_left, or_right, eqb-true, eq-eqb, false_from_ne_true}
use Rattle.std.proofs.lemmas.List.{map_push, length-map, get_or_append_left}
use Rattle.std.proofs.lemmas.Option.{slice_get-map}
use Rattle.std.proofs.lemmas.List.Concat.{flat_map-append}
use Rattle.std.proofs.lemmas.List.Elements.{filter-append}
use Rattle.house_base.specs.Text.{Text, among}
use Rattle.house_base.proofs.InOrderLemmas.{In, In-get_or, In-map, map-In, In-filter, filter-In, In-flat_map, flat_map-In, All-In}
use Rattle.house_base.proofs.AmongLemmas.{same_text, bytes_eq-same, In-among}
use Rattle.house_model.specs.Register.{pair_among}
use Rattle.house_model.proofs.GroupLemmas.{filter-none}
use Rattle.register_book.specs.Held.{named, pairs_where, text_at}
use Rattle.register_book.specs.PairList.{numbers_among}
use Rattle.name_index.specs.Index.{number_in}
use Rattle.name_index.proofs.IndexLemmas.{number_of_member, at-number_in, number_in-at, number_in-append, number_in-new}
use Rattle.register_book.proofs.RollLemmas.{map-same_on}

-- Pairs of names, and the pairs of numbers that they stand for.

pub same_bool : (b c : Bool) → (b ≡ true → c ≡ true) → (c ≡ true → b ≡ true) → b ≡ c
same_bool b c f g = elim (cases_Bool b) [
  | inl e ↦ e ∙ sym (f e)
  | inr e ↦ e ∙ sym (false_from_ne_true c (λ t. false≢true (sym e ∙ g t)))
]

pub pair_among-In : (ps : List (Text × Text)) (a b : Text) → pair_among ps a b ≡ true → In (a, b) ps
unfolding pair_among
pair_among-In [] a b h = false≢true h
pair_among-In (p ∷ ps) a b h = elim (or_cases (bytes_eq p.0 a && bytes_eq p.1 b) (list_any (λ q. bytes_eq q.0 a && bytes_eq q.1 b) ps) h) [
  | inl here ↦
      let both = and_parts (bytes_eq p.0 a) (bytes_eq p.1 b) here in
      let x = same_text p.0 a both.0 in
      let y = same_text p.1 b both.1 in
      inl (ap (λ t. (t, b)) (sym x) ∙ ap (λ t. (p.0, t)) (sym y))
  | inr there ↦ inr (pair_among-In ps a b there)
]

pub In-pair_among : (ps : List (Text × Text)) (a b : Text) → In (a, b) ps → pair_among ps a b ≡ true
unfolding pair_among
In-pair_among [] a b m = absurd m
In-pair_among (p ∷ ps) a b m =
    elim m [
      | inl here ↦
          or_left (bytes_eq p.0 a && bytes_eq p.1 b) (list_any (λ q. bytes_eq q.0 a && bytes_eq q.1 b) ps)
          (and_from (bytes_eq p.0 a) (bytes_eq p.1 b) (bytes_eq-same p.0 a (ap (λ q. q.0) (sym here))) (bytes_eq-same p.1 b (ap (λ q. q.1) (sym here))))
      | inr there ↦
          or_right (bytes_eq p.0 a && bytes_eq p.1 b) (list_any (λ q. bytes_eq q.0 a && bytes_eq q.1 b) ps) (In-pair_among ps a b there)
    ]

pub numbers_among-In : (ps : List (ℕ × ℕ)) (r c : ℕ) → numbers_among ps r c ≡ true → In (r, c) ps
unfolding numbers_among
numbers_among-In [] r c h = false≢true h
numbers_among-In (p ∷ ps) r c h = elim (or_cases (eqb p.0 r && eqb p.1 c) (list_any (λ q. eqb q.0 r && eqb q.1 c) ps) h) [
  | inl here ↦
      let both = and_parts (eqb p.0 r) (eqb p.1 c) here in
      let x = eqb-true p.0 r both.0 in
      let y = eqb-true p.1 c both.1 in
      inl (ap (λ t. (t, c)) (sym x) ∙ ap (λ t. (p.0, t)) (sym y))
  | inr there ↦ inr (numbers_among-In ps r c there)
]

pub In-numbers_among : (ps : List (ℕ × ℕ)) (r c : ℕ) → In (r, c) ps → numbers_among ps r c ≡ true
unfolding numbers_among
In-numbers_among [] r c m = absurd m
In-numbers_among (p ∷ ps) r c m =
    elim m [
      | inl here ↦
          or_left (eqb p.0 r && eqb p.1 c) (list_any (λ q. eqb q.0 r && eqb q.1 c) ps)
          (and_from (eqb p.0 r) (eqb p.1 c) (eq-eqb p.0 r (ap (λ q. q.0) (sym here))) (eq-eqb p.1 c (ap (λ q. q.1) (sym here))))
      | inr there ↦ or_right (eqb p.0 r && eqb p.1 c) (list_any (λ q. eqb q.0 r && eqb q.1 c) ps) (In-numbers_among ps r c there)
    ]

-- The pairs that pass a test of their numbers.

pub where-In : (h : ℕ → ℕ → Bool) (ps ns : List Text) (a b : Text) → pair_among (pairs_where h ps ns) a b ≡ true
    → In a ps × In b ns × (h (number_in ps a) (number_in ns b) ≡ true)
unfolding pairs_where
where-In h ps ns a b e =
    let all = flat_map (λ p. map (λ n. (p, n)) ns) ps in
    let passed = filter-In (λ p. h (number_in ps p.0) (number_in ns p.1)) (a, b) all (pair_among-In (pairs_where h ps ns) a b e) in
    let of_person = flat_map-In (λ p. map (λ n. (p, n)) ns) (a, b) ps passed.0 in
    let of_name = map-In (λ n. (of_person.0, n)) (a, b) ns of_person.2 in
    let P : Text → Type 0 = λ t. In t ps in
    let Q : Text → Type 0 = λ t. In t ns in
    (subst P (sym (ap (λ p. p.0) of_name.2)) of_person.1, subst Q (sym (ap (λ p. p.1) of_name.2)) of_name.1, passed.1)

pub In-where : (h : ℕ → ℕ → Bool) (ps ns : List Text) (a b : Text) → In a ps → In b ns → h (number_in ps a) (number_in ns b) ≡ true
    → pair_among (pairs_where h ps ns) a b ≡ true
unfolding pairs_where
In-where h ps ns a b am bm e =
    let all = flat_map (λ p. map (λ n. (p, n)) ns) ps in
    In-pair_among (pairs_where h ps ns) a b
    (In-filter (λ p. h (number_in ps p.0) (number_in ns p.1)) (a, b) all
    (In-flat_map (λ p. map (λ n. (p, n)) ns) a (a, b) ps am (In-map (λ n. (a, n)) b ns bm)) e)

-- at two numbers
pub pair_among-where : (h : ℕ → ℕ → Bool) (ps ns : List Text) (i j : ℕ) → AllPairs (λ a b. a ≢ b) ps → AllPairs (λ a b. a ≢ b) ns
    → i < length ps → j < length ns → pair_among (pairs_where h ps ns) (text_at ps i) (text_at ns j) ≡ h i j
pair_among-where h ps ns i j differ names_differ below name_below =
    let same = ap (λ n. h n (number_in ns (get_or ns j []))) (number_in-at ps i differ below) ∙ ap (h i) (number_in-at ns j names_differ name_below) in
    same_bool (pair_among (pairs_where h ps ns) (text_at ps i) (text_at ns j)) (h i j)
    (λ e. sym same ∙ (where-In h ps ns (text_at ps i) (text_at ns j) e).2)
    (λ e. In-where h ps ns (text_at ps i) (text_at ns j) (In-get_or ps i [] below) (In-get_or ns j [] name_below) (same ∙ e))

-- where there is none of a person
pub where-none : (h : ℕ → ℕ → Bool) (ps ns : List Text) (i : ℕ) → AllPairs (λ a b. a ≢ b) ps → AllPairs (λ a b. a ≢ b) ns → i < length ps
    → ((j : ℕ) → h i j ≡ true → j < length ns) → ((j : ℕ) → h i j ≡ false) ↔ ((name : Text) → pair_among (pairs_where h ps ns) (text_at ps i) name ≡ false)
where-none h ps ns i differ names_differ below known = (
  λ none name. false_from_ne_true (pair_among (pairs_where h ps ns) (text_at ps i) name) (λ e.
      let m = where-In h ps ns (text_at ps i) name e in
      false≢true (sym (none (number_in ns name)) ∙ (ap (λ k. h k (number_in ns name)) (sym (number_in-at ps i differ below)) ∙ m.2))),
  λ none j. false_from_ne_true (h i j) (λ e. false≢true (sym (none (text_at ns j)) ∙ (pair_among-where h ps ns i j differ names_differ below (known j e) ∙ e))),
)

-- with one pair of numbers more
pub pair_among-where_more : (h more : ℕ → ℕ → Bool) (ps ns : List Text) (person name : Text) → In person ps → In name ns
    → ((r c : ℕ) → more r c ≡ (h r c || (eqb r (number_in ps person) && eqb c (number_in ns name))))
    → (a b : Text) → pair_among (pairs_where more ps ns) a b ≡ (pair_among (pairs_where h ps ns) a b || (bytes_eq person a && bytes_eq name b))
pair_among-where_more h more ps ns person name pm nm step a b =
    let old = pair_among (pairs_where h ps ns) a b in
    let new : Bool = bytes_eq person a && bytes_eq name b in
    let held = h (number_in ps a) (number_in ns b) in
    let equal : Bool = eqb (number_in ps a) (number_in ps person) && eqb (number_in ns b) (number_in ns name) in
    same_bool (pair_among (pairs_where more ps ns) a b) (old || new)
    (λ e.
    let m = where-In more ps ns a b e in
    elim (or_cases held equal (sym (step (number_in ps a) (number_in ns b)) ∙ m.2)) [
      | inl before ↦ or_left old new (In-where h ps ns a b m.0 m.1 before)
      | inr now ↦
          let both = and_parts (eqb (number_in ps a) (number_in ps person)) (eqb (number_in ns b) (number_in ns name)) now in
          or_right old new
          (and_from (bytes_eq person a) (bytes_eq name b)
          (bytes_eq-same person a (same_number ps person a pm m.0 (sym (eqb-true (number_in ps a) (number_in ps person) both.0))))
          (bytes_eq-same name b (same_number ns name b nm m.1 (sym (eqb-true (number_in ns b) (number_in ns name) both.1)))))
    ])
    (λ e. elim (or_cases old new e) [
      | inl before ↦
          let m = where-In h ps ns a b before in
          In-where more ps ns a b m.0 m.1 (step (number_in ps a) (number_in ns b) ∙ or_left held equal m.2)
      | inr now ↦
          let both = and_parts (bytes_eq person a) (bytes_eq name b) now in
          let x = same_text person a both.0 in
          let y = same_text name b both.1 in
          let P : Text → Type 0 = λ t. In t ps in
          let Q : Text → Type 0 = λ t. In t ns in
          In-where more ps ns a b (subst P x pm) (subst Q y nm)
          (step (number_in ps a) (number_in ns b)
          ∙ or_right held equal
          (and_from (eqb (number_in ps a) (number_in ps person)) (eqb (number_in ns b) (number_in ns name))
          (eq-eqb (number_in ps a) (number_in ps person) (ap (number_in ps) (sym x)))
          (eq-eqb (number_in ns b) (number_in ns name) (ap (number_in ns) (sym y)))))
    ])
  where
    same_number : (xs : List Text) (t u : Text) → In t xs → In u xs → number_in xs t ≡ number_in xs u → t ≡ u
    same_number xs t u tm um e =
        sym (at-number_in xs t (number_of_member xs t tm)) ∙ (ap (λ i. get_or xs i []) e ∙ at-number_in xs u (number_of_member xs u um))

filter-same_on : {X : Type 0} (p q : X → Bool) (xs : List X) → ((x : X) → In x xs → p x ≡ q x) → filter p xs ≡ filter q xs
filter-same_on p q [] h = refl
filter-same_on p q (x ∷ xs) h =
    ap (λ b. cond b (x ∷ filter p xs) (filter p xs)) (h x (inl refl))
    ∙ ap (λ l. cond (q x) (x ∷ l) l) (filter-same_on p q xs (λ y m. h y (inr m)))

-- equal tests
pub pairs_where-same : (h g : ℕ → ℕ → Bool) (ps ns : List Text) → ((r c : ℕ) → h r c ≡ g r c) → pairs_where h ps ns ≡ pairs_where g ps ns
unfolding pairs_where
pairs_where-same h g ps ns same =
    filter-same_on (λ p. h (number_in ps p.0) (number_in ns p.1)) (λ p. g (number_in ps p.0) (number_in ns p.1))
    (flat_map (λ p. map (λ n. (p, n)) ns) ps) (λ p m. same (number_in ps p.0) (number_in ns p.1))

filter-flat_map : {X Y : Type 0} (p : Y → Bool) (f : X → List Y) (xs : List X) → filter p (flat_map f xs) ≡ flat_map (λ x. filter p (f x)) xs
filter-flat_map p f [] = refl
filter-flat_map p f (x ∷ xs) = filter-append p (f x) (flat_map f xs) ∙ ap (λ l. filter p (f x) ++ l) (filter-flat_map p f xs)

flat_map-same_on : {X Y : Type 0} (f g : X → List Y) (xs : List X) → ((x : X) → In x xs → f x ≡ g x) → flat_map f xs ≡ flat_map g xs
flat_map-same_on f g [] h = refl
flat_map-same_on f g (x ∷ xs) h = ap (λ l. l ++ flat_map f xs) (h x (inl refl)) ∙ ap (λ l. g x ++ l) (flat_map-same_on f g xs (λ y m. h y (inr m)))

-- with a person more, of whom no pair passes
pub pairs_where-person : (h : ℕ → ℕ → Bool) (ps ns : List Text) (person : Text) → among ps person ≡ false
    → ((r c : ℕ) → h r c ≡ true → r < length ps) → pairs_where h (ps ++ person ∷ []) ns ≡ pairs_where h ps ns
unfolding pairs_where
pairs_where-person h ps ns person new known =
    let f : Text → List (Text × Text) = λ p. map (λ n. (p, n)) ns in
    let old : Text × Text → Bool = λ p. h (number_in ps p.0) (number_in ns p.1) in
    let more : Text × Text → Bool = λ p. h (number_in (ps ++ person ∷ []) p.0) (number_in ns p.1) in
    let last = number_in-new ps person new in
    ap (filter more) (flat_map-append f ps (person ∷ []))
    ∙ (filter-append more (flat_map f ps) (f person ++ [])
    ∙ (ap (λ l. filter more (flat_map f ps) ++ l)
    (filter-none more (f person ++ []) (λ p m.
    let of_name = map-In (λ n. (person, n)) p ns (subst (λ l. In p l) (append-nil (f person)) m) in
    let number : number_in (ps ++ person ∷ []) p.0 ≡ length ps = ap (λ q. number_in (ps ++ person ∷ []) q.0) of_name.2 ∙ last in
    false_from_ne_true (more p) (λ t. absurd (omega (arith, number, known (number_in (ps ++ person ∷ []) p.0) (number_in ns p.1) t)))))
    ∙ (append-nil (filter more (flat_map f ps))
    ∙ filter-same_on more old (flat_map f ps) (λ p m.
    let of_person = flat_map-In f p ps m in
    let of_name = map-In (λ n. (of_person.0, n)) p ns of_person.2 in
    let P : Text → Type 0 = λ t. In t ps in
    ap (λ r. h r (number_in ns p.1)) (number_in-append ps (person ∷ []) p.0 (number_of_member ps p.0 (subst P (sym (ap (λ q. q.0) of_name.2)) of_person.1)))))))

-- with a name more, of which no pair passes
pub pairs_where-name : (h : ℕ → ℕ → Bool) (ps ns : List Text) (name : Text) → among ns name ≡ false
    → ((r c : ℕ) → h r c ≡ true → c < length ns) → pairs_where h ps (ns ++ name ∷ []) ≡ pairs_where h ps ns
unfolding pairs_where
pairs_where-name h ps ns name new known =
    let f : Text → List (Text × Text) = λ p. map (λ n. (p, n)) ns in
    let g : Text → List (Text × Text) = λ p. map (λ n. (p, n)) (ns ++ name ∷ []) in
    let old : Text × Text → Bool = λ p. h (number_in ps p.0) (number_in ns p.1) in
    let more : Text × Text → Bool = λ p. h (number_in ps p.0) (number_in (ns ++ name ∷ []) p.1) in
    let last = number_in-new ns name new in
    filter-flat_map more g ps
    ∙ (flat_map-same_on (λ p. filter more (g p)) (λ p. filter old (f p)) ps (λ p m.
    ap (filter more) (map_push (λ n. (p, n)) ns name)
    ∙ (filter-append more (f p) ((p, name) ∷ [])
    ∙ (ap (λ l. filter more (f p) ++ l)
    (cond-false (more (p, name)) ((p, name) ∷ []) []
    (false_from_ne_true (more (p, name)) (λ t. absurd (omega (arith, last, known (number_in ps p) (number_in (ns ++ name ∷ []) name) t)))))
    ∙ (append-nil (filter more (f p))
    ∙ filter-same_on more old (f p) (λ q qm.
    let of_name = map-In (λ n. (p, n)) q ns qm in
    let Q : Text → Type 0 = λ t. In t ns in
    ap (h (number_in ps q.0)) (number_in-append ns (name ∷ []) q.1 (number_of_member ns q.1 (subst Q (sym (ap (λ t. t.1) of_name.2)) of_name.1))))))))
    ∙ sym (filter-flat_map old f ps))

-- no persons, no pairs
pub pairs_where-none : (h : ℕ → ℕ → Bool) (ns : List Text) → pairs_where h [] ns ≡ []
unfolding pairs_where
pairs_where-none h ns = refl

-- The names of pairs of numbers.

-- the numbers are those of persons and of names
abbrev pub AreNumbers : List Text → List Text → List (ℕ × ℕ) → Type 0
AreNumbers ps ns pairs = All (λ p. (p.0 < length ps) × (p.1 < length ns)) pairs

pub named-append : (ps qs ns ms : List Text) (pairs : List (ℕ × ℕ)) → AreNumbers ps ns pairs → named (ps ++ qs) (ns ++ ms) pairs ≡ named ps ns pairs
unfolding named
named-append ps qs ns ms pairs h =
    map-same_on (λ p. (get_or (ps ++ qs) p.0 [], get_or (ns ++ ms) p.1 [])) (λ p. (get_or ps p.0 [], get_or ns p.1 [])) pairs
    (λ p m.
    let both = All-In (λ q. (q.0 < length ps) × (q.1 < length ns)) pairs p h m in
    ap (λ t. (t, get_or (ns ++ ms) p.1 [])) (get_or_append_left ps qs [] p.0 both.0)
    ∙ ap (λ t. (get_or ps p.0 [], t)) (get_or_append_left ns ms [] p.1 both.1))

pub named-push : (ps ns : List Text) (pairs : List (ℕ × ℕ)) (i j : ℕ) → named ps ns (pairs ++ (i, j) ∷ []) ≡ named ps ns pairs ++ (text_at ps i, text_at ns j) ∷ []
unfolding named
named-push ps ns pairs i j = map_push (λ p. (get_or ps p.0 [], get_or ns p.1 [])) pairs (i, j)

pub named-In : (ps ns : List Text) (pairs : List (ℕ × ℕ)) (a b : Text) → pair_among (named ps ns pairs) a b ≡ true
    → (p : ℕ × ℕ) × In p pairs × ◌≡◌ {A = Text × Text} (a, b) (text_at ps p.0, text_at ns p.1)
unfolding named
named-In ps ns pairs a b e = map-In (λ p. (get_or ps p.0 [], get_or ns p.1 [])) (a, b) pairs (pair_among-In (named ps ns pairs) a b e)

-- a pair of names is among them where both are known
pub named-known : (ps ns : List Text) (pairs : List (ℕ × ℕ)) (a b : Text) → AreNumbers ps ns pairs → pair_among (named ps ns pairs) a b ≡ true
    → (among ps a ≡ true) × (among ns b ≡ true)
named-known ps ns pairs a b h e =
    let found = named-In ps ns pairs a b e in
    let both = All-In (λ q. (q.0 < length ps) × (q.1 < length ns)) pairs found.0 h found.1 in
    let person = ap (among ps) (ap (λ p. p.0) found.2) ∙ In-among ps (text_at ps found.0.0) (In-get_or ps found.0.0 [] both.0) in
    let name = ap (among ns) (ap (λ p. p.1) found.2) ∙ In-among ns (text_at ns found.0.1) (In-get_or ns found.0.1 [] both.1) in
    (person, name)

-- at two numbers
pub pair_among-named : (ps ns : List Text) (pairs : List (ℕ × ℕ)) (i j : ℕ) → AllPairs (λ a b. a ≢ b) ps → AllPairs (λ a b. a ≢ b) ns
    → AreNumbers ps ns pairs → i < length ps → j < length ns → pair_among (named ps ns pairs) (text_at ps i) (text_at ns j) ≡ numbers_among pairs i j
unfolding named
pair_among-named ps ns pairs i j differ names_differ h below name_below =
    same_bool (pair_among (named ps ns pairs) (text_at ps i) (text_at ns j)) (numbers_among pairs i j)
    (λ e.
    let found = named-In ps ns pairs (text_at ps i) (text_at ns j) e in
    let both = All-In (λ q. (q.0 < length ps) × (q.1 < length ns)) pairs found.0 h found.1 in
    let x = same_place ps i found.0.0 differ below both.0 (ap (λ p. p.0) found.2) in
    let y = same_place ns j found.0.1 names_differ name_below both.1 (ap (λ p. p.1) found.2) in
    let P : ℕ × ℕ → Type 0 = λ p. In p pairs in
    In-numbers_among pairs i j (subst P (ap (λ k. (k, found.0.1)) (sym x) ∙ ap (λ k. (i, k)) (sym y)) found.1))
    (λ e. In-pair_among (named ps ns pairs) (text_at ps i) (text_at ns j)
    (In-map (λ p. (get_or ps p.0 [], get_or ns p.1 [])) (i, j) pairs (numbers_among-In pairs i j e)))
  where
    same_place : (xs : List Text) (i k : ℕ) → AllPairs (λ a b. a ≢ b) xs → i < length xs → k < length xs → text_at xs i ≡ text_at xs k → i ≡ k
    same_place xs i k differ below k_below e = sym (number_in-at xs i differ below) ∙ (ap (number_in xs) e ∙ number_in-at xs k differ k_below)

pub length-named : (ps ns : List Text) (pairs : List (ℕ × ℕ)) → length (named ps ns pairs) ≡ length pairs
unfolding named
length-named ps ns pairs = length-map pairs (λ p. (get_or ps p.0 [], get_or ns p.1 []))

-- the names of the pair at an index
pub named-at : (ps ns : List Text) (pairs : List (ℕ × ℕ)) (i : ℕ) (p : ℕ × ℕ) → slice_get pairs i ≡ Some p
    → slice_get (named ps ns pairs) i ≡ Some (text_at ps p.0, text_at ns p.1)
unfolding named
named-at ps ns pairs i p at =
    let f : ℕ × ℕ → Text × Text = λ q. (get_or ps q.0 [], get_or ns q.1 []) in
    slice_get-map f pairs i ∙ ap (option_map f) at
