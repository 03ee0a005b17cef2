use Rattle.std.proofs.Common.{◌≡◌, ℕ, ◌+◌, ◌%◌, ◌<◌, ◌≤◌, ◌≢◌, Bool, true, false, ◌==◌, ◌&&◌, cond, List, [], ◌∷◌, length, get_or, map, find, All, AllPairs, bytes_eq, count_by, IsTrue, Option, Some, None, slice_get, refl, sym, ap, ◌∙◌, subst, inl, inr, arith}
use Rattle.std.specs.List.{list_all}
use Rattle.std.specs.List.Sorted.{IsPermutation, IsSorted}
use Rattle.std.specs.Option.{option_map_or}
use Rattle.std.specs.Cmp.{IsTotalOrder}
use Rattle.std.specs.Cmp.Lexicographic.{slice_cmp, nat_list_cmp_total, texts_ties}
use Rattle.std.specs.declared.cmp.Ordering.{Ordering}
use Rattle.std.specs.declared.cmp.Ordering.TheVariants.{Less, Equal, Greater}
use Rattle.std.specs.Ordering.{is_lt, is_gt, is_eq, nat_cmp, ordering_then, ordering_reverse}
use Rattle.std.proofs.Math.Nat.{mod-lt}
use Rattle.std.proofs.lemmas.Bool.{cond-true, cond-false, false≢true, eq-eqb, eqb-true}
use Rattle.std.proofs.lemmas.Cmp.{then_total, on_total}
use Rattle.std.proofs.lemmas.List.{ext_get_or, length-map, get_or-map}
use Rattle.std.proofs.lemmas.List.Sorted.{ranks_by, sorted_far, IsPermutation-map, IsPermutation-sym, length_permutation, All-permutation, Contains-permutation, sum_by-IsPermutation}
use Rattle.std.proofs.lemmas.List.Sums.{sum_by-cons}
use Rattle.std.proofs.lemmas.Option.{slice_get-get_or, same_Some}
use Rattle.house_base.specs.declared.limits.TheConstants.{MOST_SEATS, FEWEST_CLUSTERS, MOST_CLUSTERS, MOST_REVIEWS}
use Rattle.house_base.specs.Setting.{owner_from, name_at}
use Rattle.house_base.specs.Text.{Text, among}
use Rattle.house_base.proofs.AmongLemmas.{cases_text, same_text, bytes_eq-same, bytes_eq-other, In-among}
use Rattle.house_base.proofs.InOrderLemmas.{In, InOrder, Apart, In-Contains, In-from_Contains, In-get_or, All-In, All-from_In, map-In, AllPairs-from_InOrder, InOrder-from_AllPairs, InOrder-weaker, InOrder-map, map-InOrder}
use Rattle.peer_selection.specs.Counting.{numbers_below}
use Rattle.peer_selection.proofs.CountingLemmas.{length-numbers_below, get_or-numbers_below}
use Rattle.house_model.specs.Register.{Register, IsRegister, persons, placed_names, cluster_of, all_placed, own_count, people, owners, open_setting, registered_setting, name_pair, reviewer_at}
use Rattle.house_model.specs.Seeds.{person_key, key_cmp, is_smaller_key, seeded_persons, seeded_register, seeded_setting, open_setting_in, setting_in, key_rank, drawn_cluster, drawn_persons, drawn_register}
use Rattle.house_model.proofs.AtIndexLemmas.{same_index}
use Rattle.house_model.proofs.OrderedLemmas.{IsOrder}
use Rattle.house_model.proofs.RegisterPeopleLemmas.{Apart-persons, map-map}
use Rattle.house_model.proofs.RegisterPlaceLemmas.{index_in_order}
use Rattle.house_model.proofs.RegisterSettingLemmas.{MakesSetting}

-- The persons of a register in the order of their keys under a seed.

-- Keys are in a total order, in which only keys of one name tie.

abbrev pub Key : Type 0
Key = List ℕ × Text

pub key_cmp_total : IsTotalOrder key_cmp
key_cmp_total = then_total (on_total (λ k. k.0) nat_list_cmp_total) (on_total (λ k. k.1) nat_list_cmp_total)

then_equal : (a b : Ordering) → ordering_then a b ≡ Equal → b ≡ Equal
then_equal Less b h = absurd (false≢true (sym (ap is_lt h)))
then_equal Equal b h = h
then_equal Greater b h = absurd (false≢true (sym (ap is_gt h)))

texts_tie : (a b : Text) → slice_cmp nat_cmp a b ≡ Equal → a ≡ b
texts_tie a b h = same_text a b (texts_ties a b ∙ ap is_eq h)

smaller_or_not : (k l : Key) → is_lt (key_cmp l k) ≡ false → k.1 ≢ l.1 → is_lt (key_cmp k l) ≡ true
smaller_or_not k l not_after differ = which (key_cmp k l) refl
  where
    which : (o : Ordering) → key_cmp k l ≡ o → is_lt o ≡ true
    which Less e = refl
    which Equal e = absurd (differ (texts_tie k.1 l.1 (then_equal (slice_cmp nat_cmp k.0 l.0) (slice_cmp nat_cmp k.1 l.1) e)))
    which Greater e = absurd (false≢true (sym not_after ∙ ap is_lt (key_cmp_total.antisymm l k ∙ ap ordering_reverse e)))

-- What a permutation keeps.

count-absent : (t : Text) (xs : List Text) → (In t xs → ⊥) → count_by (bytes_eq t) xs ≡ 0
count-absent t [] h = refl
count-absent t (x ∷ xs) h =
    omega (arith, sum_by-cons (λ y. cond (bytes_eq t y) 1 0) x xs, cond-false {A = ℕ} (bytes_eq t x) 1 0 (bytes_eq-other t x (λ e. h (inl e))), count-absent t xs (λ m. h (inr m)))

count-present : (t : Text) (xs : List Text) → In t xs → 1 ≤ count_by (bytes_eq t) xs
count-present t [] h = absurd h
count-present t (x ∷ xs) h = elim h [
  | inl e ↦ omega (arith, sum_by-cons (λ y. cond (bytes_eq t y) 1 0) x xs, cond-true {A = ℕ} (bytes_eq t x) 1 0 (bytes_eq-same t x e))
  | inr m ↦ omega (arith, sum_by-cons (λ y. cond (bytes_eq t y) 1 0) x xs, count-present t xs m)
]

count-Apart : (t : Text) (xs : List Text) → Apart xs → count_by (bytes_eq t) xs ≤ 1
count-Apart t [] o = omega arith
count-Apart t (x ∷ xs) o = elim (cases_text t x) [
  | inl e ↦ omega (arith, sum_by-cons (λ y. cond (bytes_eq t y) 1 0) x xs, cond-true {A = ℕ} (bytes_eq t x) 1 0 (bytes_eq-same t x e), count-absent t xs (λ m. o.0 t m (sym e)))
  | inr ne ↦ omega (arith, sum_by-cons (λ y. cond (bytes_eq t y) 1 0) x xs, cond-false {A = ℕ} (bytes_eq t x) 1 0 (bytes_eq-other t x ne), count-Apart t xs o.1)
]

Apart-count : (xs : List Text) → ((t : Text) → count_by (bytes_eq t) xs ≤ 1) → Apart xs
Apart-count [] h = tt
Apart-count (x ∷ xs) h = (
  λ y m e.
      let P : Text → Type 0 = λ z. In z xs in
      absurd (omega (arith, h x, sum_by-cons (λ z. cond (bytes_eq x z) 1 0) x xs, cond-true {A = ℕ} (bytes_eq x x) 1 0 (bytes_eq-same x x refl), count-present x xs (subst P (sym e) m))),
  Apart-count xs (λ t. omega (arith, h t, sum_by-cons (λ z. cond (bytes_eq t z) 1 0) x xs)),
)

Apart-permutation : (xs ys : List Text) → IsPermutation xs ys → Apart xs → Apart ys
Apart-permutation xs ys p o = Apart-count ys (λ t. omega (arith, sum_by-IsPermutation (λ y. cond (bytes_eq t y) 1 0) xs ys p, count-Apart t xs o))

In-permutation : (xs ys : List Text) (t : Text) → IsPermutation xs ys → In t xs → In t ys
In-permutation xs ys t p m = In-from_Contains t ys (Contains-permutation xs ys t p (In-Contains t xs m))

map-itself : {X : Type 0} (xs : List X) → map (λ x. x) xs ≡ xs
map-itself [] = refl
map-itself (x ∷ xs) = ap (λ l. x ∷ l) (map-itself xs)

find_only : {X : Type 0} (test : X → Bool) (xs : List X) (x : X) → In x xs → test x ≡ true → ((y : X) → In y xs → test y ≡ true → y ≡ x) → find test xs ≡ Some x
find_only test [] x m e only = absurd m
find_only {X} test (y ∷ ys) x m e only = which (test y) refl (λ there. find_only test ys x there e (λ z zm. only z (inr zm)))
  where
    which : (b : Bool) → test y ≡ b → (In x ys → find test ys ≡ Some x) → cond b (Some y) (find test ys) ≡ Some x
    which true passes rest = ap Some (only y (inl refl) passes)
    which false fails rest = elim m [
      | inl same ↦ absurd (false≢true (sym fails ∙ (ap test (sym same) ∙ e)))
      | inr there ↦ rest there
    ]

-- a permutation of the persons is an order of them
pub IsOrder-permutation : (reg : Register) (ps : List Text) → IsPermutation (persons reg) ps → IsOrder reg ps
IsOrder-permutation reg ps moved = record {
  apart = Apart-permutation (persons reg) ps moved (Apart-persons reg);
  only = λ t m. In-permutation ps (persons reg) t (IsPermutation-sym (persons reg) ps moved) m;
  each = λ t m. In-permutation (persons reg) ps t moved m;
}

-- The sorted keys of all persons.

module _ (seed : Text) (reg : Register) (keys : List Key) (moved : IsPermutation (map (person_key seed) (persons reg)) keys) (sorted : IsSorted key_cmp keys) where
  abbrev pub order : List Text
  order = map (λ k. k.1) keys

  abbrev smaller : Text → Text → Bool
  smaller a b = is_smaller_key (person_key seed a) (person_key seed b)

  pub key_of_name : (k : Key) → In k keys → k ≡ person_key seed k.1
  key_of_name k m =
      let P : Key → Type 0 = λ l. l ≡ person_key seed l.1 in
      let before : All P (map (person_key seed) (persons reg)) = All-from_In P (map (person_key seed) (persons reg))
      (λ l lm. let r = map-In (person_key seed) l (persons reg) lm in r.2 ∙ ap (person_key seed) (sym (ap (λ q. q.1) r.2))) in
      All-In P keys k (All-permutation P (map (person_key seed) (persons reg)) keys moved before) m

  pub moved_names : IsPermutation (persons reg) order
  moved_names =
      subst (λ l. IsPermutation l order) (map-map (λ k. k.1) (person_key seed) (persons reg) ∙ map-itself (persons reg))
      (IsPermutation-map (λ k. k.1) (map (person_key seed) (persons reg)) keys moved)

  pub IsOrder-order : IsOrder reg order
  IsOrder-order = IsOrder-permutation reg order moved_names

  pub length-order : length order ≡ length (persons reg)
  length-order = length_permutation (persons reg) order moved_names

  in_key_order : InOrder (λ a b. (smaller a b ≡ true) × (smaller b a ≡ false)) order
  in_key_order =
      let apart = AllPairs-from_InOrder (λ k l. k.1 ≢ l.1) keys (map-InOrder (λ a b. a ≢ b) (λ k. k.1) keys IsOrder-order.apart) in
      let rise = InOrder-from_AllPairs (λ k l. (is_lt (key_cmp k l) ≡ true) × (is_lt (key_cmp l k) ≡ false)) keys
      (λ i j d l m.
      let after = sorted_far (λ x y. is_lt (key_cmp x y)) (ranks_by key_cmp_total (λ k. k)) keys sorted i j d (omega (arith, l)) m in
      (smaller_or_not (get_or keys i d) (get_or keys j d) after (apart i j d l m), after)) in
      InOrder-map (λ a b. (smaller a b ≡ true) × (smaller b a ≡ false)) (λ k. k.1) keys
      (InOrder-weaker (λ k l. (is_lt (key_cmp k l) ≡ true) × (is_lt (key_cmp l k) ≡ false)) (λ k l. (smaller k.1 l.1 ≡ true) × (smaller l.1 k.1 ≡ false)) keys
      (λ k l km lm both.
      let ek = key_of_name k km in
      let el = key_of_name l lm in (
        ap (λ q. is_lt (key_cmp q (person_key seed l.1))) (sym ek) ∙ (ap (λ q. is_lt (key_cmp k q)) (sym el) ∙ both.0),
        ap (λ q. is_lt (key_cmp q (person_key seed k.1))) (sym el) ∙ (ap (λ q. is_lt (key_cmp l q)) (sym ek) ∙ both.1),
      )) rise)

  not_below_itself : (t : Text) → smaller t t ≡ false
  not_below_itself t = which (key_cmp (person_key seed t) (person_key seed t)) refl
    where
      which : (o : Ordering) → key_cmp (person_key seed t) (person_key seed t) ≡ o → is_lt o ≡ false
      which Less e = absurd (false≢true (ap is_lt (sym (key_cmp_total.antisymm (person_key seed t) (person_key seed t) ∙ ap ordering_reverse e)) ∙ ap is_lt e))
      which Equal e = refl
      which Greater e = refl

  -- a person stands at its rank
  at_rank : (t : Text) → In t order → slice_get order (key_rank seed reg t) ≡ Some t
  unfolding key_rank
  at_rank t m =
      ap (slice_get order) (sym (sum_by-IsPermutation (λ u. cond (smaller u t) 1 0) (persons reg) order moved_names))
      ∙ index_in_order smaller order t not_below_itself in_key_order m

  pub rank_at : (i : ℕ) (d : Text) → i < length order → key_rank seed reg (get_or order i d) ≡ i
  rank_at i d l =
      same_index order (key_rank seed reg (get_or order i d)) i (get_or order i d) IsOrder-order.apart
      (at_rank (get_or order i d) (In-get_or order i d l)) (slice_get-get_or order i d l)

  found_at : (i : ℕ) → i < length order → find (λ person. key_rank seed reg person == i) (persons reg) ≡ Some (get_or order i [])
  found_at i l =
      let t = get_or order i [] in
      find_only (λ person. key_rank seed reg person == i) (persons reg) t (IsOrder-order.only t (In-get_or order i [] l)) (eq-eqb (key_rank seed reg t) i (rank_at i [] l))
      (λ p pm passes. same_Some p t (sym (at_rank p (IsOrder-order.each p pm)) ∙ (ap (slice_get order) (eqb-true (key_rank seed reg p) i passes) ∙ slice_get-get_or order i [] l)))

  -- the persons by rank are the sorted ones
  pub drawn_persons-sorted : drawn_persons seed reg ≡ order
  unfolding drawn_persons
  drawn_persons-sorted =
      let n = length (persons reg) in
      let at : ℕ → Text = λ rank. option_map_or (λ person. person) (find (λ person. key_rank seed reg person == rank) (persons reg)) [] in
      let long : length (map at (numbers_below n)) ≡ n = length-map (numbers_below n) at ∙ length-numbers_below n in
      ext_get_or [] (map at (numbers_below n)) order (long ∙ sym length-order)
      (λ i l.
      let below : i < n = omega (arith, l, long) in
      get_or-map at (numbers_below n) i 0 [] (omega (arith, below, length-numbers_below n))
      ∙ (ap at (get_or-numbers_below n i 0 below)
      ∙ ap (λ o. option_map_or (λ person. person) o []) (found_at i (omega (arith, below, length-order)))))

  pub drawn_cluster-at : (clusters i : ℕ) → i < length order → drawn_cluster seed clusters reg (get_or order i []) ≡ 1 + i % clusters
  unfolding drawn_cluster
  drawn_cluster-at clusters i l = ap (λ rank. 1 + rank % clusters) (rank_at i [] l)

-- The register in which the clusters are drawn.

found_among : {X : Type 0} (f : Text → X) (ps : List Text) (t : Text) → In t ps → find {X = Text × X} (λ p. bytes_eq p.0 t) (map (λ p. (p, f p)) ps) ≡ Some (t, f t)
found_among f [] t m = absurd m
found_among {X} f (p ∷ ps) t m = which (bytes_eq p t) refl (found_among f ps t)
  where
    which : (b : Bool) → bytes_eq p t ≡ b → (In t ps → find {X = Text × X} (λ q. bytes_eq q.0 t) (map (λ q. (q, f q)) ps) ≡ Some (t, f t)) → cond b (Some (p, f p)) (find {X = Text × X} (λ q. bytes_eq q.0 t) (map (λ q. (q, f q)) ps)) ≡ Some (t, f t)
    which true e rest = ap (λ q. Some (q, f q)) (same_text p t e)
    which false e rest = elim m [
      | inl same ↦ absurd (false≢true (sym e ∙ bytes_eq-same p t (sym same)))
      | inr there ↦ rest there
    ]

pub cluster_of-drawn : (seed : Text) (clusters : ℕ) (reg : Register) (t : Text) → In t (persons reg)
    → cluster_of (drawn_register seed clusters reg) t ≡ drawn_cluster seed clusters reg t
unfolding cluster_of drawn_register
cluster_of-drawn seed clusters reg t m = ap (λ o. option_map_or (λ p. p.1) o 0) (found_among (drawn_cluster seed clusters reg) (persons reg) t m)

pub persons-drawn : (seed : Text) (clusters : ℕ) (reg : Register) → persons (drawn_register seed clusters reg) ≡ persons reg
unfolding persons drawn_register
persons-drawn seed clusters reg = refl

placed_names-drawn : (seed : Text) (clusters : ℕ) (reg : Register) → placed_names (drawn_register seed clusters reg) ≡ persons reg
unfolding drawn_register
placed_names-drawn seed clusters reg = map-map (λ p. p.0) (λ p. (p, drawn_cluster seed clusters reg p)) (persons reg) ∙ map-itself (persons reg)

pub IsOrder-drawn : (seed : Text) (clusters : ℕ) (reg : Register) (ps : List Text) → IsOrder reg ps → IsOrder (drawn_register seed clusters reg) ps
IsOrder-drawn seed clusters reg ps o = record {
  apart = o.apart;
  only = λ t m. subst (λ l. In t l) (sym (persons-drawn seed clusters reg)) (o.only t m);
  each = λ t m. o.each t (subst (λ l. In t l) (persons-drawn seed clusters reg) m);
}

all_among : (names ps : List Text) → ((t : Text) → In t ps → In t names) → list_all (among names) ps ≡ true
all_among names [] h = refl
all_among names (p ∷ ps) h = ap (λ b. b && list_all (among names) ps) (In-among names p (h p (inl refl))) ∙ all_among names ps (λ t m. h t (inr m))

pub all_placed-drawn : (seed : Text) (clusters : ℕ) (reg : Register) → all_placed (drawn_register seed clusters reg) ≡ true
unfolding all_placed
all_placed-drawn seed clusters reg =
    all_among (placed_names (drawn_register seed clusters reg)) (persons (drawn_register seed clusters reg))
    (λ t m. subst (λ l. In t l) (sym (placed_names-drawn seed clusters reg)) (subst (λ l. In t l) (persons-drawn seed clusters reg) m))

-- what a call of these numbers and a register need, so that they make a setting once the clusters are drawn
pub record MakesDrawn (seats clusters reviews : ℕ) (reg : Register) : Type 0 where
  pub register : IsRegister reg
  pub some : 1 ≤ length reg.applicants
  pub seats_in_range : (1 ≤ seats) × (seats ≤ MOST_SEATS)
  pub clusters_in_range : (FEWEST_CLUSTERS ≤ clusters) × (clusters ≤ MOST_CLUSTERS)
  pub reviews_in_range : (1 ≤ reviews) × (reviews ≤ MOST_REVIEWS)

drawn_in_range : (seed : Text) (clusters : ℕ) (reg : Register) (t : Text) → 1 ≤ clusters
    → (1 ≤ drawn_cluster seed clusters reg t) × (drawn_cluster seed clusters reg t ≤ clusters)
unfolding drawn_cluster
drawn_in_range seed clusters reg t l = (omega arith, omega (arith, mod-lt (key_rank seed reg t) {m = clusters} l))

pub IsRegister-drawn : (seed : Text) (clusters : ℕ) (reg : Register) → IsRegister reg → IsRegister (drawn_register seed clusters reg)
unfolding drawn_register own_count
IsRegister-drawn seed clusters reg h = record {
  few = h.few;
  names_differ = h.names_differ;
  names_formed = h.names_formed;
  own = h.own;
  placed_differ = subst (λ l. AllPairs (λ a b. a ≢ b) l) (sym (placed_names-drawn seed clusters reg)) (AllPairs-from_InOrder (λ a b. a ≢ b) (persons reg) (Apart-persons reg));
  placed_persons = subst (λ l. All (λ p. IsTrue (among (persons (drawn_register seed clusters reg)) p)) l) (sym (placed_names-drawn seed clusters reg))
      (All-from_In (λ p. IsTrue (among (persons (drawn_register seed clusters reg)) p)) (persons reg)
      (λ p m. In-among (persons (drawn_register seed clusters reg)) p (subst (λ l. In p l) (sym (persons-drawn seed clusters reg)) m)));
}

places_in_range-drawn : (seed : Text) (clusters : ℕ) (reg : Register) → 1 ≤ clusters → All (λ p. (1 ≤ p.1) × (p.1 ≤ clusters)) (drawn_register seed clusters reg).placed
unfolding drawn_register
places_in_range-drawn seed clusters reg l =
    let P : Text × ℕ → Type 0 = λ p. (1 ≤ p.1) × (p.1 ≤ clusters) in
    let Q : ℕ → Type 0 = λ n. (1 ≤ n) × (n ≤ clusters) in
    All-from_In P (map (λ p. (p, drawn_cluster seed clusters reg p)) (persons reg))
    (λ p m. let r = map-In (λ q. (q, drawn_cluster seed clusters reg q)) p (persons reg) m in subst Q (sym (ap (λ q. q.1) r.2)) (drawn_in_range seed clusters reg r.0 l))

applicants-drawn : (seed : Text) (clusters : ℕ) (reg : Register) → (drawn_register seed clusters reg).applicants ≡ reg.applicants
unfolding drawn_register
applicants-drawn seed clusters reg = refl

pub MakesSetting-drawn : (seats clusters reviews : ℕ) (seed : Text) (reg : Register) → MakesDrawn seats clusters reviews reg
    → MakesSetting seats clusters reviews (drawn_register seed clusters reg)
MakesSetting-drawn seats clusters reviews seed reg h = record {
  register = IsRegister-drawn seed clusters reg h.register;
  some = omega (arith, h.some, ap length (applicants-drawn seed clusters reg));
  placed = all_placed-drawn seed clusters reg;
  seats_in_range = h.seats_in_range;
  clusters_in_range = h.clusters_in_range;
  reviews_in_range = h.reviews_in_range;
  places_in_range = places_in_range-drawn seed clusters reg (omega (arith, h.clusters_in_range.0));
}

pub setting_in-persons : (seats clusters reviews : ℕ) (reg : Register) → setting_in (persons reg) seats clusters reviews reg ≡ registered_setting seats clusters reviews reg
unfolding setting_in open_setting_in registered_setting open_setting people owners name_pair reviewer_at owner_from name_at
setting_in-persons seats clusters reviews reg = refl

pub setting_in-seeded : (seed : Option Text) (seats clusters reviews : ℕ) (reg : Register)
    → setting_in (seeded_persons seed reg) seats clusters reviews (seeded_register seed clusters reg) ≡ seeded_setting seed seats clusters reviews reg
setting_in-seeded None seats clusters reviews reg = setting_in-persons seats clusters reviews reg
setting_in-seeded (Some seed) seats clusters reviews reg = refl

pub IsOrder-seeded : (seed : Option Text) (clusters : ℕ) (reg : Register) → IsPermutation (persons reg) (seeded_persons seed reg)
    → IsOrder (seeded_register seed clusters reg) (seeded_persons seed reg)
IsOrder-seeded None clusters reg moved = IsOrder-permutation reg (persons reg) moved
IsOrder-seeded (Some seed) clusters reg moved = IsOrder-drawn seed clusters reg (drawn_persons seed reg) (IsOrder-permutation reg (drawn_persons seed reg) moved)
