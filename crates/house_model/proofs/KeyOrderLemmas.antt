-- The persons of a register stand in some order of their keys, so what is drawn from a seed makes a setting.
use Rattle.std.proofs.Common.{◌≡◌, zero, suc, ◌+◌, true, false, cond, List, [], ◌∷◌, map, refl, sym, ap, ◌∙◌, subst, arith}
use Rattle.std.specs.List.Sorted.{IsPermutation, IsSorted}
use Rattle.std.specs.Ordering.{is_lt, ordering_reverse}
use Rattle.std.specs.declared.cmp.Ordering.{Ordering}
use Rattle.std.specs.declared.cmp.Ordering.TheVariants.{Less, Equal, Greater}
use Rattle.std.proofs.lemmas.Bool.{false≢true, cond_both}
use Rattle.std.proofs.lemmas.List.Sorted.{IsPermutation-refl, IsPermutation-cons, IsPermutation-trans, IsPermutation-middle, IsPermutation-sym}
use Rattle.house_base.specs.Text.{Text}
use Rattle.house_model.specs.Register.{Register, persons}
use Rattle.house_model.specs.Seeds.{person_key, key_cmp, is_smaller_key, drawn_persons}
use Rattle.house_model.proofs.SeedLemmas.{Key, key_cmp_total, moved_names, drawn_persons-sorted}

-- a key is put before the first one that is greater
put_key : Key → List Key → List Key
put_key k [] = k ∷ []
put_key k (x ∷ xs) = cond (is_smaller_key k x) (k ∷ x ∷ xs) (x ∷ put_key k xs)

sort_keys : List Key → List Key
sort_keys [] = []
sort_keys (k ∷ keys) = put_key k (sort_keys keys)

-- the first of a list is no smaller than a key
abbrev GoesOn : Key → List Key → Type 0
GoesOn k [] = Unit {0}
GoesOn k (x ∷ xs) = is_smaller_key x k ≡ false

abbrev Rise : List Key → Type 0
Rise [] = Unit {0}
Rise (x ∷ xs) = GoesOn x xs × Rise xs

not_both : (k x : Key) → is_smaller_key k x ≡ true → is_smaller_key x k ≡ false
not_both k x h = which (key_cmp k x) refl where
  which : (o : Ordering) → key_cmp k x ≡ o → is_lt (key_cmp x k) ≡ false
  which Less e = ap is_lt (key_cmp_total.antisymm x k ∙ ap ordering_reverse e)
  which Equal e = absurd (false≢true (ap is_lt (sym e) ∙ h))
  which Greater e = absurd (false≢true (ap is_lt (sym e) ∙ h))

put_key-goes_on : (k x : Key) (xs : List Key) → is_smaller_key k x ≡ false → GoesOn x xs → GoesOn x (put_key k xs)
unfolding put_key
put_key-goes_on k x [] h on = h
put_key-goes_on k x (y ∷ ys) h on = cond_both (is_smaller_key k y) (k ∷ y ∷ ys) (y ∷ put_key k ys) (GoesOn x) (λ _. h) (λ _. on)

put_key-rises : (k : Key) (xs : List Key) → Rise xs → Rise (put_key k xs)
unfolding put_key
put_key-rises k [] rise = (tt, tt)
put_key-rises k (x ∷ xs) rise =
    cond_both (is_smaller_key k x) (k ∷ x ∷ xs) (x ∷ put_key k xs) Rise
    (λ smaller. (not_both k x smaller, rise))
    (λ greater. (put_key-goes_on k x xs greater rise.0, put_key-rises k xs rise.1))

sort_keys-rises : (keys : List Key) → Rise (sort_keys keys)
unfolding sort_keys
sort_keys-rises [] = tt
sort_keys-rises (k ∷ keys) = put_key-rises k (sort_keys keys) (sort_keys-rises keys)

Rise-sorted : (xs : List Key) → Rise xs → IsSorted key_cmp xs
Rise-sorted [] rise k d low high = absurd (omega arith)
Rise-sorted (x ∷ []) rise k d low high = absurd (omega arith)
Rise-sorted (x ∷ y ∷ ys) rise zero d low high = rise.0
Rise-sorted (x ∷ y ∷ ys) rise (suc k) d low high =
    let e : suc k + 1 ≡ suc (k + 1) = omega arith in rw e (Rise-sorted (y ∷ ys) rise.1 k d (omega arith) (omega arith))

put_key-moves : (k : Key) (xs : List Key) → IsPermutation (k ∷ xs) (put_key k xs)
unfolding put_key
put_key-moves k [] = IsPermutation-refl (k ∷ [])
put_key-moves k (x ∷ xs) =
    cond_both (is_smaller_key k x) (k ∷ x ∷ xs) (x ∷ put_key k xs) (IsPermutation (k ∷ x ∷ xs))
    (λ _. IsPermutation-refl (k ∷ x ∷ xs))
    (λ _. IsPermutation-trans (k ∷ x ∷ xs) (x ∷ k ∷ xs) (x ∷ put_key k xs)
    (IsPermutation-sym (x ∷ k ∷ xs) (k ∷ x ∷ xs) (IsPermutation-middle (x ∷ []) k xs))
    (IsPermutation-cons x (k ∷ xs) (put_key k xs) (put_key-moves k xs)))

sort_keys-moves : (keys : List Key) → IsPermutation keys (sort_keys keys)
unfolding sort_keys
sort_keys-moves [] = IsPermutation-refl []
sort_keys-moves (k ∷ keys) =
    IsPermutation-trans (k ∷ keys) (k ∷ sort_keys keys) (put_key k (sort_keys keys))
    (IsPermutation-cons k keys (sort_keys keys) (sort_keys-moves keys)) (put_key-moves k (sort_keys keys))

-- the persons that are drawn are the persons, in another order
pub drawn_persons-moves : (seed : Text) (reg : Register) → IsPermutation (persons reg) (drawn_persons seed reg)
drawn_persons-moves seed reg =
    let keys = map (person_key seed) (persons reg) in
    let moved = sort_keys-moves keys in
    let sorted = Rise-sorted (sort_keys keys) (sort_keys-rises keys) in
    subst (IsPermutation (persons reg)) (sym (drawn_persons-sorted seed reg (sort_keys keys) moved sorted)) (moved_names seed reg (sort_keys keys) moved sorted)
