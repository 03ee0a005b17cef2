-- A filtered list, with one element more looked at.
use Rattle.std.proofs.Common.{◌≡◌, ℕ, ◌+◌, Bool, true, false, List, [], ◌∷◌, ◌++◌, map, filter, take, Some, slice_get, ap, ◌∙◌, append-nil}
use Rattle.std.proofs.lemmas.Bool.{cond-true, cond-false}
use Rattle.std.proofs.lemmas.List.{take_more, map-append}
use Rattle.std.proofs.lemmas.List.Elements.{filter-append}
use Rattle.std.proofs.lemmas.Option.{slice_get_within, get_or_from_slice_get}

pub take_next : {X : Type 0} (xs : List X) (i : ℕ) (x : X) → slice_get xs i ≡ Some x → take (i + 1) xs ≡ take i xs ++ x ∷ []
take_next xs i x at = take_more xs i x (slice_get_within xs i x at) ∙ ap (λ y. take i xs ++ y ∷ []) (get_or_from_slice_get xs i x x at)

-- the last element passes
pub passes_last : {X Y : Type 0} (f : X → Y) (test : X → Bool) (xs more : List X) (x : X) → more ≡ xs ++ x ∷ [] → test x ≡ true → map f (filter test more) ≡ map f (filter test xs) ++ f x ∷ []
passes_last f test xs more x grown passes =
    ap (λ ys. map f (filter test ys)) grown
    ∙ ap (map f) (filter-append test xs (x ∷ []) ∙ ap (λ ys. filter test xs ++ ys) (cond-true (test x) (x ∷ []) [] passes))
    ∙ map-append f (filter test xs) (x ∷ [])

-- the last element does not pass
pub skips_last : {X Y : Type 0} (f : X → Y) (test : X → Bool) (xs more : List X) (x : X) → more ≡ xs ++ x ∷ [] → test x ≡ false → map f (filter test more) ≡ map f (filter test xs)
skips_last f test xs more x grown fails =
    ap (λ ys. map f (filter test ys)) grown
    ∙ ap (map f) (filter-append test xs (x ∷ []) ∙ ap (λ ys. filter test xs ++ ys) (cond-false (test x) (x ∷ []) [] fails) ∙ append-nil (filter test xs))
