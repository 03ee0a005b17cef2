use Rattle.std.proofs.Common.{◌≡◌, ℕ, suc, ◌+◌, ◌<◌, ◌≤◌, ◌≢◌, Bool, true, false, not, ◌||◌, cond, List, [], ◌∷◌, ◌++◌, length, filter, flat_map, sum_by, bytes_eq, refl, sym, ap, ◌∙◌, inl, inr, arith, append-nil}
use Rattle.std.proofs.lemmas.Bool.{cases_Bool, cond-true, cond-false, cond_both, false≢true, false_from_ne_true, or_left, or_right, not_from_false, not_from_true, not-true}
use Rattle.std.proofs.lemmas.List.Elements.{filter-append}
use Rattle.std.proofs.lemmas.List.Sums.{sum_by-cons, sum_by-append, count_by-le-length, length-filter}
use Rattle.house_base.specs.Text.{Text, among}
use Rattle.house_base.proofs.AmongLemmas.{same_text, bytes_eq-same, bytes_eq-other, cases_text, among-cons, among-In, In-among, not_among, not_In, among-same}
use Rattle.house_base.proofs.InOrderLemmas.{In, Apart, In-filter, filter-In, InOrder-filter}
use Rattle.house_model.specs.Register.{firsts}

-- The first of each text, and elements grouped by a text.

pub firsts-In : (xs : List Text) (t : Text) → In t (firsts xs) → In t xs
firsts-In [] t h = absurd h
firsts-In (x ∷ xs) t h =
    elim h [ inl e ↦ inl e | inr m ↦ inr (firsts-In xs t (filter-In (λ y. not (bytes_eq x y)) t (firsts xs) m).0) ]

pub In-firsts : (xs : List Text) (t : Text) → In t xs → In t (firsts xs)
In-firsts [] t h = absurd h
In-firsts (x ∷ xs) t h = elim (cases_text x t) [
  | inl e ↦ inl (sym e)
  | inr ne ↦ elim h [
    | inl e ↦ inl e
    | inr m ↦ inr (In-filter (λ y. not (bytes_eq x y)) t (firsts xs) (In-firsts xs t m) (not_from_false (bytes_eq x t) (bytes_eq-other x t ne)))
  ]
]

pub among-firsts : (xs : List Text) (t : Text) → among (firsts xs) t ≡ among xs t
among-firsts xs t = among-same (firsts xs) xs t (firsts-In xs t) (In-firsts xs t)

pub Apart-firsts : (xs : List Text) → Apart (firsts xs)
Apart-firsts [] = tt
Apart-firsts (x ∷ xs) = (
  λ y m e. let r = filter-In (λ z. not (bytes_eq x z)) y (firsts xs) m in false≢true (sym (not-true (bytes_eq x y) r.1) ∙ bytes_eq-same x y e),
  InOrder-filter (λ a b. a ≢ b) (λ y. not (bytes_eq x y)) (firsts xs) (Apart-firsts xs),
)

pub firsts-push_new : (xs : List Text) (y : Text) → (In y xs → ⊥) → firsts (xs ++ y ∷ []) ≡ firsts xs ++ y ∷ []
firsts-push_new [] y h = refl
firsts-push_new (x ∷ xs) y h =
    ap (λ l. x ∷ l)
    (ap (filter (λ z. not (bytes_eq x z))) (firsts-push_new xs y (λ m. h (inr m)))
    ∙ (filter-append (λ z. not (bytes_eq x z)) (firsts xs) (y ∷ [])
    ∙ ap (λ b. filter (λ z. not (bytes_eq x z)) (firsts xs) ++ cond b (y ∷ []) []) (not_from_false (bytes_eq x y) (bytes_eq-other x y (λ e. h (inl (sym e)))))))

pub firsts-push_known : (xs : List Text) (y : Text) → In y xs → firsts (xs ++ y ∷ []) ≡ firsts xs
firsts-push_known [] y h = absurd h
firsts-push_known (x ∷ xs) y h = elim (cases_Bool (among xs y)) [
  | inl e ↦ ap (λ l. x ∷ filter (λ z. not (bytes_eq x z)) l) (firsts-push_known xs y (among-In xs y e))
  | inr e ↦ elim h [
    | inl same ↦ ap (λ l. x ∷ l)
        (ap (filter (λ z. not (bytes_eq x z))) (firsts-push_new xs y (not_In xs y e))
        ∙ (filter-append (λ z. not (bytes_eq x z)) (firsts xs) (y ∷ [])
        ∙ (ap (λ b. filter (λ z. not (bytes_eq x z)) (firsts xs) ++ cond b (y ∷ []) []) (not_from_true (bytes_eq x y) (bytes_eq-same x y (sym same)))
        ∙ append-nil (filter (λ z. not (bytes_eq x z)) (firsts xs)))))
    | inr m ↦ absurd (not_In xs y e m)
  ]
]

-- how often tests pass

pub length-filter-le : {X : Type 0} (p : X → Bool) (xs : List X) → length (filter p xs) ≤ length xs
length-filter-le p xs = omega (arith, length-filter p xs, count_by-le-length p xs)

pub length-firsts : (xs : List Text) → length (firsts xs) ≤ length xs
length-firsts [] = omega arith
length-firsts (x ∷ xs) = omega (arith, length-firsts xs, length-filter-le (λ y. not (bytes_eq x y)) (firsts xs))

-- a filter that drops an element is shorter
shorter : {X : Type 0} (p : X → Bool) (x : X) (xs : List X) → In x xs → p x ≡ false → length (filter p xs) < length xs
shorter p x [] h e = absurd h
shorter p x (z ∷ xs) h e =
    cond_both (p z) (z ∷ filter p xs) (filter p xs) (λ l. length l < suc (length xs))
    (λ passes. elim h [ inl same ↦ absurd (false≢true (sym e ∙ (ap p same ∙ passes))) | inr m ↦ omega (arith, shorter p x xs m e) ])
    (λ fails. omega (arith, length-filter-le p xs))

-- texts that differ and all stand in a list are at most as many
pub length-Apart : (xs ys : List Text) → Apart xs → ((t : Text) → In t xs → In t ys) → length xs ≤ length ys
length-Apart [] ys o h = omega arith
length-Apart (x ∷ xs) ys o h =
    let others = λ (y : Text). not (bytes_eq x y) in
    let dropped = shorter others x ys (h x (inl refl)) (not_from_true (bytes_eq x x) (bytes_eq-same x x refl)) in
    omega (
      arith,
      dropped,
      length-Apart xs (filter others ys) o.1
          (λ t m. In-filter others t ys (h t (inr m)) (not_from_false (bytes_eq x t) (bytes_eq-other x t (o.0 t m)))),
    )

-- Elements grouped by a text.

-- the elements whose key is this text
abbrev pub group : {X : Type 0} → (X → Text) → List X → Text → List X
group key xs t = filter (λ x. bytes_eq (key x) t) xs

pub In-group : {X : Type 0} (key : X → Text) (xs : List X) (t : Text) (x : X) → In x (group key xs t) → In x xs × (key x ≡ t)
In-group key xs t x m = let r = filter-In (λ y. bytes_eq (key y) t) x xs m in (r.0, same_text (key x) t r.1)

-- the parts of a list that pass one of two tests that never pass together
sum_by-either : {X : Type 0} (w : X → ℕ) (p q : X → Bool) (xs : List X) → ((x : X) → p x ≡ true → q x ≡ true → ⊥)
    → sum_by w (filter p xs) + sum_by w (filter q xs) ≡ sum_by w (filter (λ x. p x || q x) xs)
sum_by-either w p q [] h = refl
sum_by-either w p q (x ∷ xs) h = elim (cases_Bool (p x)) [
  | inl passes ↦
      let fails = false_from_ne_true (q x) (h x passes) in
      let left = ap (sum_by w) (cond-true (p x) (x ∷ filter p xs) (filter p xs) passes) ∙ sum_by-cons w x (filter p xs) in
      let right = ap (sum_by w) (cond-false (q x) (x ∷ filter q xs) (filter q xs) fails) in
      let both = ap (sum_by w) (cond-true (p x || q x) (x ∷ filter (λ y. p y || q y) xs) (filter (λ y. p y || q y) xs) (or_left (p x) (q x) passes)) ∙ sum_by-cons w x (filter (λ y. p y || q y) xs) in
      omega (arith, left, right, both, sum_by-either w p q xs h)
  | inr fails ↦ elim (cases_Bool (q x)) [
    | inl passes ↦
        let left = ap (sum_by w) (cond-false (p x) (x ∷ filter p xs) (filter p xs) fails) in
        let right = ap (sum_by w) (cond-true (q x) (x ∷ filter q xs) (filter q xs) passes) ∙ sum_by-cons w x (filter q xs) in
        let both = ap (sum_by w) (cond-true (p x || q x) (x ∷ filter (λ y. p y || q y) xs) (filter (λ y. p y || q y) xs) (or_right (p x) (q x) passes)) ∙ sum_by-cons w x (filter (λ y. p y || q y) xs) in
        omega (arith, left, right, both, sum_by-either w p q xs h)
    | inr fails_too ↦
        let left = ap (sum_by w) (cond-false (p x) (x ∷ filter p xs) (filter p xs) fails) in
        let right = ap (sum_by w) (cond-false (q x) (x ∷ filter q xs) (filter q xs) fails_too) in
        let none = ap (λ b. b || q x) fails ∙ fails_too in
        let both = ap (sum_by w) (cond-false (p x || q x) (x ∷ filter (λ y. p y || q y) xs) (filter (λ y. p y || q y) xs) none) in
        omega (arith, left, right, both, sum_by-either w p q xs h)
  ]
]

pub filter-none : {X : Type 0} (p : X → Bool) (xs : List X) → ((x : X) → In x xs → p x ≡ false) → filter p xs ≡ []
filter-none p [] h = refl
filter-none p (x ∷ xs) h = cond-false (p x) (x ∷ filter p xs) (filter p xs) (h x (inl refl)) ∙ filter-none p xs (λ y m. h y (inr m))

pub filter-all : {X : Type 0} (p : X → Bool) (xs : List X) → ((x : X) → In x xs → p x ≡ true) → filter p xs ≡ xs
filter-all p [] h = refl
filter-all p (x ∷ xs) h = cond-true (p x) (x ∷ filter p xs) (filter p xs) (h x (inl refl)) ∙ ap (λ l. x ∷ l) (filter-all p xs (λ y m. h y (inr m)))

grouped : {X : Type 0} (w : X → ℕ) (key : X → Text) (xs : List X) (ts : List Text) → Apart ts
    → sum_by w (flat_map (group key xs) ts) ≡ sum_by w (filter (λ x. among ts (key x)) xs)
grouped w key xs [] o = sym (ap (sum_by w) (filter-none (λ x. among [] (key x)) xs (λ x m. not_among [] (key x) (λ n. n))))
grouped w key xs (t ∷ ts) o =
    let one = sum_by-append w (group key xs t) (flat_map (group key xs) ts) in
    let rest = grouped w key xs ts o.1 in
    let both = sum_by-either w (λ x. bytes_eq (key x) t) (λ x. among ts (key x)) xs (λ x a b. o.0 (key x) (among-In ts (key x) b) (sym (same_text (key x) t a))) in
    let whole : sum_by w (filter (λ x. among (t ∷ ts) (key x)) xs) ≡ sum_by w (filter (λ x. bytes_eq (key x) t || among ts (key x)) xs) = simp (among-cons) in
    omega (arith, one, rest, both, whole)

-- the groups of all keys together weigh what the list weighs
pub sum_by-groups : {X : Type 0} (w : X → ℕ) (key : X → Text) (xs : List X) (ts : List Text) → Apart ts → ((x : X) → In x xs → In (key x) ts)
    → sum_by w (flat_map (group key xs) ts) ≡ sum_by w xs
sum_by-groups w key xs ts o h =
    grouped w key xs ts o ∙ ap (sum_by w) (filter-all (λ x. among ts (key x)) xs (λ x m. In-among ts (key x) (h x m)))
