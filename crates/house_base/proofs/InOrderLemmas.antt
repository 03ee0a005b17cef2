use Rattle.std.proofs.Common.{◌≡◌, ℕ, zero, suc, ◌<◌, ◌≢◌, Bool, true, false, cond, List, [], ◌∷◌, ◌++◌, length, get_or, map, filter, flat_map, All, AllPairs, Contains, ◌⊎◌, refl, sym, ap, ◌∙◌, subst, inl, inr, arith}
use Rattle.std.proofs.lemmas.Bool.{cond_both, false≢true}
use Rattle.std.proofs.lemmas.List.Elements.{All-contains}

-- What stands in a list, and in which order, by recursion on the list.

-- a value stands in a list
abbrev pub In : {X : Type 0} → X → List X → Type 0
In x [] = ⊥
In x (y ∷ ys) = (x ≡ y) ⊎ In x ys

-- each element stands in a relation to each one behind it
abbrev pub InOrder : {X : Type 0} → (X → X → Type 0) → List X → Type 0
InOrder R [] = Unit {0}
InOrder R (x ∷ xs) = ((y : _) → In y xs → R x y) × InOrder R xs

-- no two elements are equal
abbrev pub Apart : {X : Type 0} → List X → Type 0
Apart xs = InOrder (λ x y. x ≢ y) xs

-- Between these words and std's.

pub In-Contains : {X : Type 0} (x : X) (xs : List X) → In x xs → Contains xs x
In-Contains x [] h = absurd h
In-Contains x (y ∷ ys) h =
    elim h [ inl e ↦ (0, omega arith, sym e) | inr m ↦ let c = In-Contains x ys m in (suc c.0, omega (arith, c.1), c.2) ]

pub In-get_or : {X : Type 0} (xs : List X) (k : ℕ) (d : X) → k < length xs → In (get_or xs k d) xs
In-get_or [] k d h = absurd (omega arith)
In-get_or (x ∷ xs) zero d h = inl refl
In-get_or (x ∷ xs) (suc k) d h = inr (In-get_or xs k d (omega arith))

pub In-from_Contains : {X : Type 0} (x : X) (xs : List X) → Contains xs x → In x xs
In-from_Contains x xs c = subst (λ y. In y xs) c.2 (In-get_or xs c.0 x c.1)

pub All-In : {X : Type 0} (P : X → Type 0) (xs : List X) (x : X) → All P xs → In x xs → P x
All-In P xs x all m = All-contains P xs x all (In-Contains x xs m)

pub All-from_In : {X : Type 0} (P : X → Type 0) (xs : List X) → ((x : X) → In x xs → P x) → All P xs
All-from_In P xs h k d l = h (get_or xs k d) (In-get_or xs k d l)

pub AllPairs-from_InOrder : {X : Type 0} (R : X → X → Type 0) (xs : List X) → InOrder R xs → AllPairs R xs
AllPairs-from_InOrder R [] o i j d below l = absurd (omega arith)
AllPairs-from_InOrder R (x ∷ xs) o zero zero d below l = absurd (omega arith)
AllPairs-from_InOrder R (x ∷ xs) o zero (suc j) d below l = o.0 (get_or xs j d) (In-get_or xs j d (omega arith))
AllPairs-from_InOrder R (x ∷ xs) o (suc i) zero d below l = absurd (omega arith)
AllPairs-from_InOrder R (x ∷ xs) o (suc i) (suc j) d below l = AllPairs-from_InOrder R xs o.1 i j d (omega arith) (omega arith)

pub InOrder-from_AllPairs : {X : Type 0} (R : X → X → Type 0) (xs : List X) → AllPairs R xs → InOrder R xs
InOrder-from_AllPairs R [] h = tt
InOrder-from_AllPairs {X} R (x ∷ xs) h = (
  λ y m. let c = In-Contains y xs m in let P : X → Type 0 = λ z. R x z in subst P c.2 (h 0 (suc c.0) y (omega arith) (omega (arith, c.1))),
  InOrder-from_AllPairs R xs (λ i j d below l. h (suc i) (suc j) d (omega arith) (omega arith)),
)

-- What stands in a list made of others.

pub In-append_left : {X : Type 0} (x : X) (xs ys : List X) → In x xs → In x (xs ++ ys)
In-append_left x [] ys h = absurd h
In-append_left x (z ∷ xs) ys h = elim h [ inl e ↦ inl e | inr m ↦ inr (In-append_left x xs ys m) ]

pub In-append_right : {X : Type 0} (x : X) (xs ys : List X) → In x ys → In x (xs ++ ys)
In-append_right x [] ys h = h
In-append_right x (z ∷ xs) ys h = inr (In-append_right x xs ys h)

pub In-append : {X : Type 0} (x : X) (xs ys : List X) → In x (xs ++ ys) → In x xs ⊎ In x ys
In-append x [] ys h = inr h
In-append x (z ∷ xs) ys h =
    elim h [ inl e ↦ inl (inl e) | inr m ↦ elim (In-append x xs ys m) [ inl a ↦ inl (inr a) | inr b ↦ inr b ] ]

pub In-map : {X Y : Type 0} (f : X → Y) (x : X) (xs : List X) → In x xs → In (f x) (map f xs)
In-map f x [] h = absurd h
In-map f x (z ∷ xs) h = elim h [ inl e ↦ inl (ap f e) | inr m ↦ inr (In-map f x xs m) ]

pub map-In : {X Y : Type 0} (f : X → Y) (y : Y) (xs : List X) → In y (map f xs) → (x : X) × In x xs × (y ≡ f x)
map-In f y [] h = absurd h
map-In f y (z ∷ xs) h = elim h [ inl e ↦ (z, inl refl, e) | inr m ↦ let r = map-In f y xs m in (r.0, inr r.1, r.2) ]

pub In-filter : {X : Type 0} (p : X → Bool) (x : X) (xs : List X) → In x xs → p x ≡ true → In x (filter p xs)
In-filter p x [] h t = absurd h
In-filter p x (z ∷ xs) h t =
    cond_both (p z) (z ∷ filter p xs) (filter p xs) (λ l. In x l)
    (λ passes. elim h [ inl e ↦ inl e | inr m ↦ inr (In-filter p x xs m t) ])
    (λ fails. elim h [ inl e ↦ absurd (false≢true (sym fails ∙ (ap p (sym e) ∙ t))) | inr m ↦ In-filter p x xs m t ])

pub filter-In : {X : Type 0} (p : X → Bool) (x : X) (xs : List X) → In x (filter p xs) → In x xs × (p x ≡ true)
filter-In p x [] h = absurd h
filter-In {X} p x (z ∷ xs) h = filtered (p z) refl (filter-In p x xs) h
  where
    filtered : (b : Bool) → p z ≡ b → (In x (filter p xs) → In x xs × (p x ≡ true)) → In x (cond b (z ∷ filter p xs) (filter p xs)) → In x (z ∷ xs) × (p x ≡ true)
    filtered true e step m =
        elim m [ inl same ↦ (inl same, ap p same ∙ e) | inr rest ↦ let r = step rest in (inr r.0, r.1) ]
    filtered false e step m = let r = step m in (inr r.0, r.1)

pub In-flat_map : {X Y : Type 0} (f : X → List Y) (x : X) (y : Y) (xs : List X) → In x xs → In y (f x) → In y (flat_map f xs)
In-flat_map f x y [] h m = absurd h
In-flat_map f x y (z ∷ xs) h m =
    elim h [
      | inl e ↦ In-append_left y (f z) (flat_map f xs) (subst (λ w. In y (f w)) e m)
      | inr rest ↦ In-append_right y (f z) (flat_map f xs) (In-flat_map f x y xs rest m)
    ]

pub flat_map-In : {X Y : Type 0} (f : X → List Y) (y : Y) (xs : List X) → In y (flat_map f xs) → (x : X) × In x xs × In y (f x)
flat_map-In f y [] h = absurd h
flat_map-In f y (z ∷ xs) h =
    elim (In-append y (f z) (flat_map f xs) h) [
      | inl here ↦ (z, inl refl, here)
      | inr there ↦ let r = flat_map-In f y xs there in (r.0, inr r.1, r.2)
    ]

-- The order of a list made of others.

pub InOrder-weaker : {X : Type 0} (R S : X → X → Type 0) (xs : List X) → ((x y : X) → In x xs → In y xs → R x y → S x y) → InOrder R xs → InOrder S xs
InOrder-weaker R S [] h o = tt
InOrder-weaker R S (x ∷ xs) h o =
    (λ y m. h x y (inl refl) (inr m) (o.0 y m), InOrder-weaker R S xs (λ a b am bm r. h a b (inr am) (inr bm) r) o.1)

pub InOrder-append : {X : Type 0} (R : X → X → Type 0) (xs ys : List X) → InOrder R xs → InOrder R ys → ((x y : X) → In x xs → In y ys → R x y) → InOrder R (xs ++ ys)
InOrder-append R [] ys o q h = q
InOrder-append R (x ∷ xs) ys o q h = (
  λ y m. elim (In-append y xs ys m) [ inl a ↦ o.0 y a | inr b ↦ h x y (inl refl) b ],
  InOrder-append R xs ys o.1 q (λ a b am bm. h a b (inr am) bm),
)

pub InOrder-push : {X : Type 0} (R : X → X → Type 0) (xs : List X) (y : X) → InOrder R xs → ((x : X) → In x xs → R x y) → InOrder R (xs ++ y ∷ [])
InOrder-push {X} R xs y o h =
    InOrder-append R xs (y ∷ []) o (λ z m. absurd m, tt)
    (λ x z xm zm. elim zm [ inl e ↦ let P : X → Type 0 = λ w. R x w in subst P (sym e) (h x xm) | inr none ↦ absurd none ])

pub InOrder-filter : {X : Type 0} (R : X → X → Type 0) (p : X → Bool) (xs : List X) → InOrder R xs → InOrder R (filter p xs)
InOrder-filter R p [] o = tt
InOrder-filter R p (x ∷ xs) o =
    cond_both (p x) (x ∷ filter p xs) (filter p xs) (λ l. InOrder R l)
    (λ passes. (λ y m. o.0 y (filter-In p y xs m).0, InOrder-filter R p xs o.1))
    (λ fails. InOrder-filter R p xs o.1)

pub InOrder-map : {X Y : Type 0} (R : Y → Y → Type 0) (f : X → Y) (xs : List X) → InOrder (λ a b. R (f a) (f b)) xs → InOrder R (map f xs)
InOrder-map R f [] o = tt
InOrder-map {X} {Y} R f (x ∷ xs) o =
    (λ y m. let r = map-In f y xs m in let P : Y → Type 0 = λ z. R (f x) z in subst P (sym r.2) (o.0 r.0 r.1), InOrder-map R f xs o.1)

pub map-InOrder : {X Y : Type 0} (R : Y → Y → Type 0) (f : X → Y) (xs : List X) → InOrder R (map f xs) → InOrder (λ a b. R (f a) (f b)) xs
map-InOrder R f [] o = tt
map-InOrder R f (x ∷ xs) o = (λ y m. o.0 (f y) (In-map f y xs m), map-InOrder R f xs o.1)

pub InOrder-flat_map : {X Y : Type 0} (R : Y → Y → Type 0) (f : X → List Y) (xs : List X)
    → ((x : X) → In x xs → InOrder R (f x))
    → InOrder (λ p q. (a b : Y) → In a (f p) → In b (f q) → R a b) xs
    → InOrder R (flat_map f xs)
InOrder-flat_map R f [] each o = tt
InOrder-flat_map R f (x ∷ xs) each o =
    InOrder-append R (f x) (flat_map f xs) (each x (inl refl)) (InOrder-flat_map R f xs (λ y m. each y (inr m)) o.1)
    (λ a b am bm. let r = flat_map-In f b xs bm in o.0 r.0 r.1 a b am r.2)

-- two elements with equal values are one, where the values are apart
pub same_element : {X Y : Type 0} (f : X → Y) (xs : List X) (x y : X) → Apart (map f xs) → In x xs → In y xs → f x ≡ f y → x ≡ y
same_element f [] x y o xm ym e = absurd xm
same_element f (z ∷ xs) x y o xm ym e =
    elim xm [
      | inl xz ↦ elim ym [ inl yz ↦ xz ∙ sym yz | inr yr ↦ absurd (o.0 (f y) (In-map f y xs yr) (ap f (sym xz) ∙ e)) ]
      | inr xr ↦ elim ym [ inl yz ↦ absurd (o.0 (f x) (In-map f x xs xr) (ap f (sym yz) ∙ sym e)) | inr yr ↦ same_element f xs x y o.1 xr yr e ]
    ]
