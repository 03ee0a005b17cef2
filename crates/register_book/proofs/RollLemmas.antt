use Rattle.std.proofs.Common.{◌≡◌, ◌≢◌, ℕ, ◌+◌, ◌<◌, ◌≤◌, true, false, cond, List, [], ◌∷◌, ◌++◌, length, get_or, set, map, AllPairs, position, Some, bytes_eq, refl, sym, ap, ◌∙◌, subst, inl, inr, arith}
use Rattle.std.proofs.lemmas.Bool.{cases_eq}
use Rattle.std.proofs.lemmas.List.{length_push, map_push, length-map, length-set, get_or-map, get_or-set_same, get_or-set_other, get_or_read, ext_get_or}
use Rattle.std.proofs.lemmas.List.Sums.{sum_by_push, sum_by-cons}
use Rattle.house_base.specs.declared.limits.TheConstants.{MOST_APPLICANTS}
use Rattle.house_base.specs.Text.{Text, among}
use Rattle.house_base.proofs.InOrderLemmas.{In, In-get_or, In-map, AllPairs-from_InOrder}
use Rattle.house_base.proofs.AmongLemmas.{bytes_eq-same, bytes_eq-other, among-In, In-among, not_In}
use Rattle.house_model.specs.Register.{firsts}
use Rattle.house_model.proofs.GroupLemmas.{In-firsts, firsts-In, Apart-firsts, firsts-push_new, firsts-push_known, length-firsts}
use Rattle.name_index.specs.Index.{number_in}
use Rattle.register_book.specs.Roll.{IsRoll, persons_in, own_in}
use Rattle.name_index.proofs.IndexLemmas.{number_of_member, at-number_in, number_in-unknown, number_in-at, number_in-append, number_in-push, number_from_position}

-- The persons of applicants.

pub persons_in-differ : (xs : List (Text × Text)) → AllPairs (λ a b. a ≢ b) (persons_in xs)
unfolding persons_in
persons_in-differ xs = AllPairs-from_InOrder (λ a b. a ≢ b) (persons_in xs) (Apart-firsts (map (λ a. a.1) xs))

pub length-persons_in : (xs : List (Text × Text)) → length (persons_in xs) ≤ length xs
unfolding persons_in
length-persons_in xs = omega (arith, length-firsts (map (λ a. a.1) xs), length-map xs (λ a. a.1))

pub person_In : (xs : List (Text × Text)) (a : Text × Text) → In a xs → In a.1 (persons_in xs)
unfolding persons_in
person_In xs a m = In-firsts (map (λ b. b.1) xs) a.1 (In-map (λ b. b.1) a xs m)

pub persons_in-push_known : (xs : List (Text × Text)) (x : Text × Text) → among (persons_in xs) x.1 ≡ true → persons_in (xs ++ x ∷ []) ≡ persons_in xs
unfolding persons_in
persons_in-push_known xs x known =
    ap firsts (map_push (λ a. a.1) xs x)
    ∙ firsts-push_known (map (λ a. a.1) xs) x.1 (firsts-In (map (λ a. a.1) xs) x.1 (among-In (persons_in xs) x.1 known))

pub persons_in-push_new : (xs : List (Text × Text)) (x : Text × Text) → among (persons_in xs) x.1 ≡ false → persons_in (xs ++ x ∷ []) ≡ persons_in xs ++ x.1 ∷ []
unfolding persons_in
persons_in-push_new xs x new =
    ap firsts (map_push (λ a. a.1) xs x)
    ∙ firsts-push_new (map (λ a. a.1) xs) x.1 (λ m. not_In (persons_in xs) x.1 new (In-firsts (map (λ a. a.1) xs) x.1 m))

-- How many applicants a person has.

pub own_in-push : (xs : List (Text × Text)) (x : Text × Text) (t : Text) → own_in (xs ++ x ∷ []) t ≡ own_in xs t + cond (bytes_eq x.1 t) 1 0
unfolding own_in
own_in-push xs x t = sum_by_push (λ a. cond (bytes_eq a.1 t) 1 0) xs x

none_own : (xs : List (Text × Text)) (t : Text) → ((a : Text × Text) → In a xs → a.1 ≢ t) → own_in xs t ≡ 0
unfolding own_in
none_own [] t h = refl
none_own (x ∷ xs) t h =
    sum_by-cons (λ a. cond (bytes_eq a.1 t) 1 0) x xs
    ∙ omega (arith, ap {B = ℕ} (λ b. cond b 1 0) (bytes_eq-other x.1 t (h x (inl refl))), none_own xs t (λ a m. h a (inr m)))

pub own_in-unknown : (xs : List (Text × Text)) (t : Text) → among (persons_in xs) t ≡ false → own_in xs t ≡ 0
own_in-unknown xs t unknown =
    none_own xs t (λ a m e. not_In (persons_in xs) t unknown (subst (λ u. In u (persons_in xs)) e (person_In xs a m)))

-- A roll with one applicant more.

pub map-same_on : {X Y : Type 0} (f g : X → Y) (xs : List X) → ((x : X) → In x xs → f x ≡ g x) → map f xs ≡ map g xs
map-same_on f g [] h = refl
map-same_on f g (x ∷ xs) h = ap (λ y. y ∷ map f xs) (h x (inl refl)) ∙ ap (λ l. g x ∷ l) (map-same_on f g xs (λ y m. h y (inr m)))

module _ (xs : List (Text × Text)) (names persons : List Text) (owners own : List ℕ) (h : IsRoll xs names persons owners own) (x : Text × Text) (few : length xs < MOST_APPLICANTS) where
  pub IsRoll-known : (number count : ℕ) → number_in (persons_in xs) x.1 ≡ number → number < length (persons_in xs) → count ≡ own_in xs x.1
      → IsRoll (xs ++ x ∷ []) (names ++ x.0 ∷ []) persons (owners ++ number ∷ []) (set own number (count + 1))
  IsRoll-known number count numbered below counted =
      let ps = persons_in xs in
      let at : get_or ps number [] ≡ x.1 = ap (λ i. get_or ps i []) (sym numbered) ∙ at-number_in ps x.1 (omega (arith, numbered, below)) in
      let known : among ps x.1 ≡ true = In-among ps x.1 (subst (λ t. In t ps) at (In-get_or ps number [] below)) in
      let same = persons_in-push_known xs x known in
      record {
        few = omega (arith, length_push xs x, few);
        names_are = ap (λ l. l ++ x.0 ∷ []) h.names_are ∙ sym (map_push (λ a. a.0) xs x);
        persons_are = h.persons_are ∙ sym same;
        owners_are =
            ap (λ l. l ++ number ∷ []) h.owners_are
            ∙ (ap (λ i. map (λ a. number_in ps a.1) xs ++ i ∷ []) (sym numbered)
            ∙ (sym (map_push (λ a. number_in ps a.1) xs x)
            ∙ ap (λ l. map (λ a. number_in l a.1) (xs ++ x ∷ [])) (sym same)));
        own_are =
            ap (λ l. set l number (count + 1)) h.own_are
            ∙ (raised number count below at counted ∙ ap (map (own_in (xs ++ x ∷ []))) (sym same));
      }
    where
      raised : (number count : ℕ) → number < length (persons_in xs) → get_or (persons_in xs) number [] ≡ x.1 → count ≡ own_in xs x.1
          → set (map (own_in xs) (persons_in xs)) number (count + 1) ≡ map (own_in (xs ++ x ∷ [])) (persons_in xs)
      raised number count below at counted =
          let ps = persons_in xs in
          let old = map (own_in xs) ps in
          ext_get_or 0 (set old number (count + 1)) (map (own_in (xs ++ x ∷ [])) ps)
          (omega (arith, length-set old number (count + 1), length-map ps (own_in xs), length-map ps (own_in (xs ++ x ∷ []))))
          (λ k l.
          let within : k < length ps = omega (arith, l, length-set old number (count + 1), length-map ps (own_in xs)) in
          let new = get_or-map (own_in (xs ++ x ∷ [])) ps k [] 0 within ∙ own_in-push xs x (get_or ps k []) in
          elim (cases_eq k number) [
            | inl same ↦
                let here : get_or ps k [] ≡ x.1 = ap (λ i. get_or ps i []) same ∙ at in
                ap (λ i. get_or (set old number (count + 1)) i 0) same
                ∙ (get_or-set_same old number (count + 1) 0 (omega (arith, below, length-map ps (own_in xs)))
                ∙ sym (new ∙ omega (arith, counted, ap (own_in xs) here, ap {B = ℕ} (λ b. cond b 1 0) (bytes_eq-same x.1 (get_or ps k []) (sym here)))))
            | inr other ↦
                get_or-set_other old number k (count + 1) 0 other
                ∙ (get_or-map (own_in xs) ps k [] 0 within
                ∙ sym (new ∙ omega (
                  arith,
                  ap {B = ℕ} (λ b. cond b 1 0) (bytes_eq-other x.1 (get_or ps k [])
                      (λ e. other (sym (number_in-at ps k (persons_in-differ xs) within)
                      ∙ (ap (number_in ps) (sym e ∙ sym at) ∙ number_in-at ps number (persons_in-differ xs) below)))),
                )))
          ])

  pub IsRoll-new : (number : ℕ) → among (persons_in xs) x.1 ≡ false → number ≡ length (persons_in xs)
      → IsRoll (xs ++ x ∷ []) (names ++ x.0 ∷ []) (persons ++ x.1 ∷ []) (owners ++ number ∷ []) (own ++ 1 ∷ [])
  IsRoll-new number new last =
      let ps = persons_in xs in
      let more = persons_in-push_new xs x new in
      let number_of : number_in (ps ++ x.1 ∷ []) x.1 ≡ number
      = number_in-push ps x.1 x.1 (number_in-unknown ps x.1 new) ∙ (ap (λ b. length ps + cond b 0 1) (bytes_eq-same x.1 x.1 refl) ∙ omega (arith, last)) in
      record {
        few = omega (arith, length_push xs x, few);
        names_are = ap (λ l. l ++ x.0 ∷ []) h.names_are ∙ sym (map_push (λ a. a.0) xs x);
        persons_are = ap (λ l. l ++ x.1 ∷ []) h.persons_are ∙ sym more;
        owners_are =
            ap (λ l. l ++ number ∷ []) h.owners_are
            ∙ (ap (λ l. l ++ number ∷ [])
            (map-same_on (λ a. number_in ps a.1) (λ a. number_in (ps ++ x.1 ∷ []) a.1) xs
            (λ a m. sym (number_in-append ps (x.1 ∷ []) a.1 (number_of_member ps a.1 (person_In xs a m)))))
            ∙ (ap (λ i. map (λ a. number_in (ps ++ x.1 ∷ []) a.1) xs ++ i ∷ []) (sym number_of)
            ∙ (sym (map_push (λ a. number_in (ps ++ x.1 ∷ []) a.1) xs x)
            ∙ ap (λ l. map (λ a. number_in l a.1) (xs ++ x ∷ [])) (sym more))));
        own_are =
            ap (λ l. l ++ 1 ∷ []) h.own_are
            ∙ (ap (λ l. l ++ 1 ∷ [])
            (map-same_on (own_in xs) (own_in (xs ++ x ∷ [])) ps
            (λ t m. sym (own_in-push xs x t
            ∙ omega (arith, ap {B = ℕ} (λ b. cond b 1 0) (bytes_eq-other x.1 t (λ e. not_In ps x.1 new (subst (λ u. In u ps) (sym e) m)))))))
            ∙ (ap (λ n. map (own_in (xs ++ x ∷ [])) ps ++ n ∷ [])
            (sym (own_in-push xs x x.1 ∙ omega (arith, own_in-unknown xs x.1 new, ap {B = ℕ} (λ b. cond b 1 0) (bytes_eq-same x.1 x.1 refl))))
            ∙ (sym (map_push (own_in (xs ++ x ∷ [])) ps x.1) ∙ ap (map (own_in (xs ++ x ∷ []))) (sym more))));
      }

pub IsRoll-empty : (xs : List (Text × Text)) (names persons : List Text) (owners own : List ℕ)
    → xs ≡ [] → names ≡ [] → persons ≡ [] → owners ≡ [] → own ≡ [] → IsRoll xs names persons owners own
unfolding persons_in
IsRoll-empty xs names persons owners own e f g i j = rw (e, f, g, i, j) (record {
  few = omega arith;
  names_are = refl;
  persons_are = refl;
  owners_are = refl;
  own_are = refl;
})

-- what stands in the counts at a person's number
pub own_in-at : (xs : List (Text × Text)) (t : Text) (number count : ℕ) (own : List ℕ) → own ≡ map (own_in xs) (persons_in xs)
    → position (bytes_eq t) (persons_in xs) ≡ Some number → count ≡ get_or own number count → count ≡ own_in xs t
own_in-at xs t number count own e found read =
    let ps = persons_in xs in
    let n = number_from_position ps t number found in
    get_or_read own number count (omega (arith, n.1, ap length e, length-map ps (own_in xs))) read 0
    ∙ (ap (λ l. get_or l number 0) e
    ∙ (get_or-map (own_in xs) ps number [] 0 n.1
    ∙ ap (own_in xs) (ap (λ i. get_or ps i []) (sym n.0) ∙ at-number_in ps t (omega (arith, n.0, n.1)))))
