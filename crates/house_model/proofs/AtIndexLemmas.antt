use Rattle.std.proofs.Common.{◌≡◌, ℕ, zero, suc, List, [], ◌∷◌, Some, slice_get, refl, ap, subst, arith}
use Rattle.std.proofs.lemmas.Option.{slice_get_within, get_or_from_slice_get, same_Some}
use Rattle.house_base.proofs.InOrderLemmas.{In, Apart, In-get_or}

-- What stands at an index of a list.

pub In-slice_get : {X : Type 0} (xs : List X) (i : ℕ) (x : X) → slice_get xs i ≡ Some x → In x xs
In-slice_get {X} xs i x e =
    let P : X → Type 0 = λ y. In y xs in
    subst P (get_or_from_slice_get xs i x x e) (In-get_or xs i x (slice_get_within xs i x e))

-- where no two are equal, each stands at one index
pub same_index : {X : Type 0} (xs : List X) (i j : ℕ) (x : X) → Apart xs → slice_get xs i ≡ Some x → slice_get xs j ≡ Some x → i ≡ j
same_index [] i j x o e f = absurd (omega (arith, slice_get_within [] i x e))
same_index (y ∷ ys) zero zero x o e f = refl
same_index (y ∷ ys) zero (suc j) x o e f = absurd (o.0 x (In-slice_get ys j x f) (same_Some y x e))
same_index (y ∷ ys) (suc i) zero x o e f = absurd (o.0 x (In-slice_get ys i x e) (same_Some y x f))
same_index (y ∷ ys) (suc i) (suc j) x o e f = ap (λ n. suc n) (same_index ys i j x o.1 e f)
