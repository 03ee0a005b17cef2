-- The persons that a seed puts in order are those of the register.
use Rattle.std.proofs.Common.{◌≡◌, ◌≢◌, ◌⊎◌, ℕ, ◌<◌, ◌≤◌, Bool, true, false, eqb, cond, count_by, find, Option, Some, None, List, [], ◌∷◌, length, map, refl, sym, ap, ◌∙◌, subst, inl, inr, arith}
use Rattle.std.specs.Cmp.{IsTotalOrder}
use Rattle.std.specs.Cmp.Lexicographic.{slice_cmp, nat_list_cmp_total, texts_ties}
use Rattle.std.specs.Option.{option_map_or}
use Rattle.std.specs.Ordering.{is_lt, is_gt, is_eq, nat_cmp, ordering_then, ordering_reverse}
use Rattle.std.specs.declared.cmp.Ordering.{Ordering}
use Rattle.std.specs.declared.cmp.Ordering.TheVariants.{Less, Equal, Greater}
use Rattle.std.proofs.lemmas.Bool.{cond-true, cond-false, false≢true, eq-eqb, eqb-true}
use Rattle.std.proofs.lemmas.Cmp.{then_total, on_total}
use Rattle.std.proofs.lemmas.List.Sums.{sum_by-cons}
use Rattle.std.proofs.lemmas.Option.{same_Some}
use Rattle.house_base.specs.Text.{Text}
use Rattle.house_base.proofs.AmongLemmas.{cases_text, same_text}
use Rattle.house_base.proofs.InOrderLemmas.{In, In-map, map-In, In-get_or}
use Rattle.peer_selection.specs.Counting.{numbers_below}
use Rattle.peer_selection.proofs.CountingLemmas.{length-numbers_below, get_or-numbers_below}
use Rattle.house_model.specs.Register.{Register, persons}
use Rattle.house_model.specs.Seeds.{person_key, key_cmp, is_smaller_key, key_rank, drawn_persons}
use Rattle.house_model.proofs.RegisterPeopleLemmas.{length-sum_by}

-- Keys are in a total order, in which only keys of one name tie.

keys_total : IsTotalOrder key_cmp
keys_total = then_total (on_total (λ k. k.0) nat_list_cmp_total) (on_total (λ k. k.1) nat_list_cmp_total)

then_equal : (a b : Ordering) → ordering_then a b ≡ Equal → b ≡ Equal
then_equal Less b h = absurd (false≢true (sym (ap is_lt h)))
then_equal Equal b h = h
then_equal Greater b h = absurd (false≢true (sym (ap is_gt h)))

texts_tie : (a b : Text) → slice_cmp nat_cmp a b ≡ Equal → a ≡ b
texts_tie a b h = same_text a b (texts_ties a b ∙ ap is_eq h)

abbrev smaller : Text → Text → Text → Bool
smaller seed a b = is_smaller_key (person_key seed a) (person_key seed b)

not_below_itself : (seed t : Text) → smaller seed t t ≡ false
not_below_itself seed t = which (key_cmp (person_key seed t) (person_key seed t)) refl
  where
    which : (o : Ordering) → key_cmp (person_key seed t) (person_key seed t) ≡ o → is_lt o ≡ false
    which Less e = absurd (false≢true (ap is_lt (sym (keys_total.antisymm (person_key seed t) (person_key seed t) ∙ ap ordering_reverse e)) ∙ ap is_lt e))
    which Equal e = refl
    which Greater e = refl

one_is_below : (seed a b : Text) → a ≢ b → (smaller seed a b ≡ true) ⊎ (smaller seed b a ≡ true)
one_is_below seed a b differ = which (key_cmp (person_key seed a) (person_key seed b)) refl
  where
    which : (o : Ordering) → key_cmp (person_key seed a) (person_key seed b) ≡ o → (smaller seed a b ≡ true) ⊎ (smaller seed b a ≡ true)
    which Less e = inl (ap is_lt e)
    which Equal e = absurd (differ (texts_tie a b (then_equal (slice_cmp nat_cmp (person_key seed a).0 (person_key seed b).0) (slice_cmp nat_cmp a b) e)))
    which Greater e = inr (ap is_lt (keys_total.antisymm (person_key seed b) (person_key seed a) ∙ ap ordering_reverse e))

-- How many pass a test.

-- of two tests, of which one passes whatever the other does, and one element more
count_more : (f g : Text → Bool) (xs : List Text) → ((x : Text) → f x ≡ true → g x ≡ true) → count_by f xs ≤ count_by g xs
count_more f g [] h = omega arith
count_more f g (x ∷ xs) h = which (f x) refl (count_more f g xs h)
  where
    which : (b : Bool) → f x ≡ b → count_by f xs ≤ count_by g xs → count_by f (x ∷ xs) ≤ count_by g (x ∷ xs)
    which true e rest =
        omega (arith, rest, sum_by-cons (λ y. cond (f y) 1 0) x xs, sum_by-cons (λ y. cond (g y) 1 0) x xs, cond-true {A = ℕ} (f x) 1 0 e, cond-true {A = ℕ} (g x) 1 0 (h x e))
    which false e rest =
        omega (arith, rest, sum_by-cons (λ y. cond (f y) 1 0) x xs, sum_by-cons (λ y. cond (g y) 1 0) x xs, cond-false {A = ℕ} (f x) 1 0 e)

count_less : (f g : Text → Bool) (xs : List Text) (p : Text) → ((x : Text) → f x ≡ true → g x ≡ true) → In p xs → f p ≡ false → g p ≡ true → count_by f xs < count_by g xs
count_less f g [] p h m fails passes = absurd m
count_less f g (x ∷ xs) p h m fails passes = elim m [
  | inl same ↦ omega (
    arith,
    count_more f g xs h,
    sum_by-cons (λ y. cond (f y) 1 0) x xs,
    sum_by-cons (λ y. cond (g y) 1 0) x xs,
    cond-false {A = ℕ} (f x) 1 0 (ap f (sym same) ∙ fails),
    cond-true {A = ℕ} (g x) 1 0 (ap g (sym same) ∙ passes),
  )
  | inr there ↦ which (f x) refl (count_less f g xs p h there fails passes)
]
  where
    which : (b : Bool) → f x ≡ b → count_by f xs < count_by g xs → count_by f (x ∷ xs) < count_by g (x ∷ xs)
    which true e rest =
        omega (arith, rest, sum_by-cons (λ y. cond (f y) 1 0) x xs, sum_by-cons (λ y. cond (g y) 1 0) x xs, cond-true {A = ℕ} (f x) 1 0 e, cond-true {A = ℕ} (g x) 1 0 (h x e))
    which false e rest =
        omega (arith, rest, sum_by-cons (λ y. cond (f y) 1 0) x xs, sum_by-cons (λ y. cond (g y) 1 0) x xs, cond-false {A = ℕ} (f x) 1 0 e)

-- The ranks.

is_less : (o : Ordering) → is_lt o ≡ true → o ≡ Less
is_less Less h = refl
is_less Equal h = absurd (false≢true h)
is_less Greater h = absurd (false≢true h)

below_more : (seed a b : Text) (reg : Register) → In a (persons reg) → smaller seed a b ≡ true → key_rank seed reg a < key_rank seed reg b
unfolding key_rank
below_more seed a b reg m less =
    count_less (λ x. smaller seed x a) (λ x. smaller seed x b) (persons reg) a
    (λ x below. ap is_lt (keys_total.trans (person_key seed x) (person_key seed a) (person_key seed b)
    (is_less (key_cmp (person_key seed x) (person_key seed a)) below) (is_less (key_cmp (person_key seed a) (person_key seed b)) less)))
    m (not_below_itself seed a) less

rank_below : (seed t : Text) (reg : Register) → In t (persons reg) → key_rank seed reg t < length (persons reg)
unfolding key_rank
rank_below seed t reg m =
    omega (arith, length-sum_by (persons reg), count_less (λ x. smaller seed x t) (λ x. true) (persons reg) t (λ x below. refl) m (not_below_itself seed t) refl)

-- persons of one rank are one
same_rank : (seed a b : Text) (reg : Register) → In a (persons reg) → In b (persons reg) → key_rank seed reg a ≡ key_rank seed reg b → a ≡ b
same_rank seed a b reg am bm same = elim (cases_text a b) [
  | inl e ↦ e
  | inr differ ↦ elim (one_is_below seed a b differ) [
    | inl less ↦ absurd (omega (arith, same, below_more seed a b reg am less))
    | inr more ↦ absurd (omega (arith, same, below_more seed b a reg bm more))
  ]
]

find_only : (test : Text → Bool) (xs : List Text) (x : Text) → In x xs → test x ≡ true → ((y : Text) → In y xs → test y ≡ true → y ≡ x) → find test xs ≡ Some x
find_only test [] x m e only = absurd m
find_only test (y ∷ ys) x m e only = which (test y) refl (λ there. find_only test ys x there e (λ z zm. only z (inr zm)))
  where
    which : (b : Bool) → test y ≡ b → (In x ys → find test ys ≡ Some x) → cond b (Some y) (find test ys) ≡ Some x
    which true passes rest = ap Some (only y (inl refl) passes)
    which false fails rest = elim m [
      | inl same ↦ absurd (false≢true (sym fails ∙ (ap test (sym same) ∙ e)))
      | inr there ↦ rest there
    ]

found_In : (test : Text → Bool) (xs : List Text) (x : Text) → find test xs ≡ Some x → In x xs
found_In test [] x h = cc
found_In test (y ∷ ys) x h = which (test y) h (λ rest. found_In test ys x rest)
  where
    which : (b : Bool) → cond b (Some y) (find test ys) ≡ Some x → (find test ys ≡ Some x → In x ys) → In x (y ∷ ys)
    which true e rest = inl (same_Some x y (sym e))
    which false e rest = inr (rest e)

-- each person is drawn
pub drawn-each : (seed : Text) (reg : Register) (t : Text) → In t (persons reg) → In t (drawn_persons seed reg)
unfolding drawn_persons
drawn-each seed reg t m =
    let n = length (persons reg) in
    let i = key_rank seed reg t in
    let at : ℕ → Text = λ rank. option_map_or (λ person. person) (find (λ person. eqb (key_rank seed reg person) rank) (persons reg)) [] in
    let found : find (λ person. eqb (key_rank seed reg person) i) (persons reg) ≡ Some t =
    find_only (λ person. eqb (key_rank seed reg person) i) (persons reg) t m (eq-eqb i i refl)
    (λ y ym passes. same_rank seed y t reg ym m (eqb-true (key_rank seed reg y) i passes)) in
    let below : i < n = rank_below seed t reg m in
    let among_ranks : In i (numbers_below n) =
    subst (λ k. In k (numbers_below n)) (get_or-numbers_below n i 0 below) (In-get_or (numbers_below n) i 0 (omega (arith, below, length-numbers_below n))) in
    subst (λ x. In x (map at (numbers_below n))) (ap (λ o. option_map_or (λ person. person) o []) found) (In-map at i (numbers_below n) among_ranks)

-- and but for the empty name nobody else
pub drawn-only : (seed : Text) (reg : Register) (t : Text) → t ≢ [] → In t (drawn_persons seed reg) → In t (persons reg)
unfolding drawn_persons
drawn-only seed reg t some m =
    let at : ℕ → Text = λ rank. option_map_or (λ person. person) (find (λ person. eqb (key_rank seed reg person) rank) (persons reg)) [] in
    let r = map-In at t (numbers_below (length (persons reg))) m in
    which (λ person. eqb (key_rank seed reg person) r.0) (find (λ person. eqb (key_rank seed reg person) r.0) (persons reg)) refl r.2
  where
    which : (test : Text → Bool) (o : Option Text) → find test (persons reg) ≡ o → t ≡ option_map_or (λ person. person) o [] → In t (persons reg)
    which test None e is = absurd (some is)
    which test (Some p) e is = subst (λ x. In x (persons reg)) (sym is) (found_In test (persons reg) p e)
