use Rattle.std.proofs.Common.{◌≡◌, ◌≢◌, true, false, ◌||◌, List, [], ◌∷◌, bytes_eq, ◌⊎◌, refl, sym, ◌∙◌, inl, inr}
use Rattle.std.specs.List.{list_any}
use Rattle.std.proofs.lemmas.Bool.{cases_Bool, false≢true, false_from_ne_true, or_cases, or_left, or_right}
use Rattle.std.proofs.lemmas.Slice.Eq.{bytes_eq-Decides}
use Rattle.house_base.specs.Text.{Text, among}
use Rattle.house_base.proofs.InOrderLemmas.{In}

-- Texts that are equal, and texts among others.

pub same_text : (x y : Text) → bytes_eq x y ≡ true → x ≡ y
same_text x y = (bytes_eq-Decides x y).0

pub bytes_eq-same : (x y : Text) → x ≡ y → bytes_eq x y ≡ true
bytes_eq-same x y = (bytes_eq-Decides x y).1

pub bytes_eq-other : (x y : Text) → x ≢ y → bytes_eq x y ≡ false
bytes_eq-other x y ne = false_from_ne_true (bytes_eq x y) (λ e. ne (same_text x y e))

-- a text is equal to another, or not
pub cases_text : (x y : Text) → (x ≡ y) ⊎ (x ≢ y)
cases_text x y = elim (cases_Bool (bytes_eq x y)) [ inl e ↦ inl (same_text x y e) | inr e ↦ inr (λ s. false≢true (sym e ∙ bytes_eq-same x y s)) ]

pub bytes_eq-swap : (x y : Text) → bytes_eq x y ≡ bytes_eq y x
bytes_eq-swap x y = elim (cases_text x y) [
  | inl e ↦ bytes_eq-same x y e ∙ sym (bytes_eq-same y x (sym e))
  | inr ne ↦ bytes_eq-other x y ne ∙ sym (bytes_eq-other y x (λ s. ne (sym s)))
]

-- Among.

pub among-cons : (x : Text) (xs : List Text) (t : Text) → among (x ∷ xs) t ≡ (bytes_eq t x || among xs t)
unfolding among
among-cons x xs t = refl

pub among-In : (xs : List Text) (t : Text) → among xs t ≡ true → In t xs
unfolding among
among-In [] t h = false≢true h
among-In (x ∷ xs) t h =
    elim (or_cases (bytes_eq t x) (list_any (bytes_eq t) xs) h) [ inl e ↦ inl (same_text t x e) | inr m ↦ inr (among-In xs t m) ]

pub In-among : (xs : List Text) (t : Text) → In t xs → among xs t ≡ true
unfolding among
In-among [] t h = absurd h
In-among (x ∷ xs) t h =
    elim h [
      | inl e ↦ or_left (bytes_eq t x) (list_any (bytes_eq t) xs) (bytes_eq-same t x e)
      | inr m ↦ or_right (bytes_eq t x) (list_any (bytes_eq t) xs) (In-among xs t m)
    ]

pub not_among : (xs : List Text) (t : Text) → (In t xs → ⊥) → among xs t ≡ false
not_among xs t h = false_from_ne_true (among xs t) (λ e. h (among-In xs t e))

pub not_In : (xs : List Text) (t : Text) → among xs t ≡ false → In t xs → ⊥
not_In xs t e m = false≢true (sym e ∙ In-among xs t m)

-- lists with the same texts answer the same
pub among-same : (xs ys : List Text) (t : Text) → (In t xs → In t ys) → (In t ys → In t xs) → among xs t ≡ among ys t
among-same xs ys t f g = elim (cases_Bool (among xs t)) [
  | inl e ↦ e ∙ sym (In-among ys t (f (among-In xs t e)))
  | inr e ↦ e ∙ sym (not_among ys t (λ m. not_In xs t e (g m)))
]
