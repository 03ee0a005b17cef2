use Rattle.std.proofs.Common.{◌≡◌, ◌≢◌, ℕ, suc, ◌+◌, ◌-◌, ◌%◌, ◌<◌, Bool, true, false, cond, eqb, ltb, List, [], ◌∷◌, ◌++◌, length, map, take, drop, get_or, set, Some, None, refl, sym, ap, subst, ◌∙◌, inl, inr, arith, filter, position, All, AllPairs, ◌≤◌, zero, add-zero, add-suc, append_assoc}
use Rattle.std.specs.List.{position_or_len, position_from}
use Rattle.std.specs.Option.{option_map_or}
use Rattle.std.proofs.lemmas.Bool.{cond-true, cond-false, cases_Bool, cases_eq, ne_eqb, eq-eqb}
use Rattle.std.proofs.lemmas.List.{get_or-set_same, get_or-set_other, take_more, map-append, append-nil, take_all, take-append-le, take_more_set}
use Rattle.std.proofs.lemmas.List.Elements.{filter-append, All-push}
use Rattle.house_base.specs.declared.limits.TheConstants.{MOST_POINTS}
use Rattle.peer_selection.specs.Counting.{numbers_below}
use Rattle.peer_selection.proofs.CountingLemmas.{numbers_below-add_one}
use Rattle.std.proofs.lemmas.List.{length-take-le, get_or-take, length-set}
use Rattle.std.proofs.lemmas.Iterator.Adapters.{position_from-zero}
use Rattle.std.proofs.Math.Nat.{mod-eq_of_lt, add-mod_left}
use Rattle.seat_quota.specs.Totals.{among_places, row_among}
use borrow.Author.Tests.{ltb-true}

-- one more proposal of a row, taken or not
row_more : (t : ℕ → Bool) (g : ℕ → ℕ) (d : ℕ) → filter t (map g (numbers_below (d + 1))) ≡ filter t (map g (numbers_below d)) ++ filter t (g d ∷ [])
row_more t g d =
    ap (λ xs. filter t (map g xs)) (numbers_below-add_one d)
    ∙ (ap (filter t) (map-append g (numbers_below d) (d ∷ [])) ∙ filter-append t (map g (numbers_below d)) (g d ∷ []))

pub row_takes : (t : ℕ → Bool) (g : ℕ → ℕ) (d y : ℕ) (old new : List ℕ) → old ≡ filter t (map g (numbers_below d)) → y ≡ g d → t y ≡ true → new ≡ old ++ y ∷ [] →
    new ≡ filter t (map g (numbers_below (d + 1)))
row_takes t g d y old new h e pass is =
    is ∙ (ap (λ xs. xs ++ y ∷ []) h ∙ (ap (λ ys. filter t (map g (numbers_below d)) ++ ys) (sym (cond-true (t y) (y ∷ []) [] pass))
    ∙ (ap (λ z. filter t (map g (numbers_below d)) ++ filter t (z ∷ [])) e ∙ sym (row_more t g d))))

pub row_skips : (t : ℕ → Bool) (g : ℕ → ℕ) (d y : ℕ) (old new : List ℕ) → old ≡ filter t (map g (numbers_below d)) → y ≡ g d → t y ≡ false → new ≡ old →
    new ≡ filter t (map g (numbers_below (d + 1)))
row_skips t g d y old new h e fail is =
    is ∙ (h ∙ (sym (append-nil (filter t (map g (numbers_below d)))) ∙ (ap (λ ys. filter t (map g (numbers_below d)) ++ ys) (sym (cond-false (t y) (y ∷ []) [] fail))
    ∙ (ap (λ z. filter t (map g (numbers_below d)) ++ filter t (z ∷ [])) e ∙ sym (row_more t g d)))))

-- one more place behind those from one on, taken or not
pub between_takes : (t : ℕ → Bool) (from y n : ℕ) (front old new : List ℕ) → old ≡ front ++ among_places t from (y - from) → from ≤ y → t y ≡ true → n ≡ y + 1 - from →
    new ≡ old ++ y ∷ [] → new ≡ front ++ among_places t from n
between_takes t from y n front old new h l pass many is =
    let found = among_places t from (y - from) in
    is ∙ (ap (λ xs. xs ++ y ∷ []) h
    ∙ (append_assoc front found (y ∷ [])
    ∙ ap (λ xs. front ++ xs) (row_takes t (λ k. from + k) (y - from) y found (found ++ y ∷ []) refl (let e : y ≡ from + (y - from) = omega arith in e) pass refl
    ∙ ap (among_places t from) (let e : y - from + 1 ≡ n = omega arith in e))))

pub between_skips : (t : ℕ → Bool) (from y n : ℕ) (front old new : List ℕ) → old ≡ front ++ among_places t from (y - from) → from ≤ y → t y ≡ false → n ≡ y + 1 - from →
    new ≡ old → new ≡ front ++ among_places t from n
between_skips t from y n front old new h l fail many is =
    let found = among_places t from (y - from) in
    is ∙ (h
    ∙ ap (λ xs. front ++ xs) (row_skips t (λ k. from + k) (y - from) y found found refl (let e : y ≡ from + (y - from) = omega arith in e) fail refl
    ∙ ap (among_places t from) (let e : y - from + 1 ≡ n = omega arith in e)))

between_skips_by : (t : ℕ → Bool) (from y k : ℕ) (front old : List ℕ) → old ≡ front ++ among_places t from (y - from) → from ≤ y
    → ((q : ℕ) → y ≤ q → q < y + k → t q ≡ false) → old ≡ front ++ among_places t from (y + k - from)
between_skips_by t from y zero front old h l none = h ∙ ap (λ n. front ++ among_places t from n) (let e : y - from ≡ y + 0 - from = omega arith in e)
between_skips_by t from y (suc k) front old h l none =
    between_skips t from (y + k) (y + suc k - from) front old old (between_skips_by t from y k front old h l (λ q above below. none q above (omega (arith, below)))) (omega arith)
    (none (y + k) (omega arith) (omega arith)) (omega (arith, l)) refl

-- many places more that are not taken
pub between_run : (t : ℕ → Bool) (from y to : ℕ) (front old : List ℕ) → old ≡ front ++ among_places t from (y - from) → from ≤ y → y ≤ to
    → ((q : ℕ) → y ≤ q → q < to → t q ≡ false) → old ≡ front ++ among_places t from (to - from)
between_run t from y to front old h l on none =
    between_skips_by t from y (to - y) front old h l (λ q above below. none q above (omega (arith, below, on)))
    ∙ ap (λ n. front ++ among_places t from n) (let e : y + (to - y) - from ≡ to - from = omega (arith, on) in e)

-- the places round a reviewer are those behind it and those up to it

numbers_below-plus : (a b : ℕ) → numbers_below (a + b) ≡ numbers_below a ++ map (λ k. a + k) (numbers_below b)
unfolding numbers_below
numbers_below-plus a zero = ap numbers_below (add-zero a) ∙ sym (append-nil (numbers_below a))
numbers_below-plus a (suc b) =
    ap numbers_below (add-suc a b)
    ∙ (ap (λ xs. xs ++ (a + b) ∷ []) (numbers_below-plus a b)
    ∙ (append_assoc (numbers_below a) (map (λ k. a + k) (numbers_below b)) ((a + b) ∷ [])
    ∙ ap (λ xs. numbers_below a ++ xs) (sym (map-append (λ k. a + k) (numbers_below b) (b ∷ [])))))

map-below : (f g : ℕ → ℕ) (n : ℕ) → ((k : ℕ) → k < n → f k ≡ g k) → map f (numbers_below n) ≡ map g (numbers_below n)
unfolding numbers_below
map-below f g zero h = refl
map-below f g (suc n) h =
    map-append f (numbers_below n) (n ∷ [])
    ∙ (ap (λ xs. xs ++ f n ∷ []) (map-below f g n (λ k l. h k (omega arith)))
    ∙ (ap (λ x. map g (numbers_below n) ++ x ∷ []) (h n (omega arith)) ∙ sym (map-append g (numbers_below n) (n ∷ []))))

map-after : (f : ℕ → ℕ) (a n : ℕ) → map f (map (λ k. a + k) (numbers_below n)) ≡ map (λ k. f (a + k)) (numbers_below n)
unfolding numbers_below
map-after f a zero = refl
map-after f a (suc n) =
    ap (map f) (map-append (λ k. a + k) (numbers_below n) (n ∷ []))
    ∙ (map-append f (map (λ k. a + k) (numbers_below n)) ((a + n) ∷ [])
    ∙ (ap (λ xs. xs ++ f (a + n) ∷ []) (map-after f a n) ∙ sym (map-append (λ k. f (a + k)) (numbers_below n) (n ∷ []))))

round_twice : (n r : ℕ) → r < n → map (λ d. (r + 1 + d) % n) (numbers_below n)
    ≡ map (λ k. r + 1 + k) (numbers_below (n - (r + 1))) ++ map (λ k. 0 + k) (numbers_below (r + 1 - 0))
round_twice n r l =
    let a = n - (r + 1) in
    let g : ℕ → ℕ = λ d. (r + 1 + d) % n in
    ap (λ m. map g (numbers_below m)) (let e : n ≡ a + (r + 1) = omega arith in e)
    ∙ (ap (map g) (numbers_below-plus a (r + 1))
    ∙ (map-append g (numbers_below a) (map (λ k. a + k) (numbers_below (r + 1)))
    ∙ (ap (λ xs. xs ++ map g (map (λ k. a + k) (numbers_below (r + 1))))
    (map-below g (λ k. r + 1 + k) a (λ k kl. mod-eq_of_lt {n = r + 1 + k} {m = n} (omega arith)))
    ∙ ap (λ xs. map (λ k. r + 1 + k) (numbers_below a) ++ xs)
    (map-after g a (r + 1)
    ∙ (map-below (λ k. g (a + k)) (λ k. 0 + k) (r + 1)
    (λ k kl. ap (λ x. x % n) (let e : r + 1 + (a + k) ≡ n + k = omega arith in e)
    ∙ (add-mod_left n k ∙ (mod-eq_of_lt {n = k} {m = n} (omega arith) ∙ (let e : k ≡ 0 + k = omega arith in e))))
    ∙ ap (λ m. map (λ k. 0 + k) (numbers_below m)) (let e : r + 1 ≡ r + 1 - 0 = omega arith in e))))))

pub row_twice : (n r : ℕ) (f : ℕ → ℕ → Bool) → r < n → row_among n f r ≡ among_places (f r) (r + 1) (n - (r + 1)) ++ among_places (f r) 0 (r + 1 - 0)
unfolding row_among
row_twice n r f l =
    ap (filter (f r)) (round_twice n r l)
    ∙ filter-append (f r) (map (λ k. r + 1 + k) (numbers_below (n - (r + 1)))) (map (λ k. 0 + k) (numbers_below (r + 1 - 0)))

-- what a search finds in a list with one more element
found_other : (c : ℕ → ℕ) (x y k : ℕ) (xs : List ℕ) → eqb y x ≡ false →
    option_map_or c (position_from (λ q. eqb q x) k (xs ++ y ∷ [])) 0 ≡ option_map_or c (position_from (λ q. eqb q x) k xs) 0
found_other c x y k [] h = ap (λ b. option_map_or c (cond b (Some k) None) 0) h
found_other c x y k (z ∷ xs) h =
    elim (eqb z x) as (λ b. option_map_or c (cond b (Some k) (position_from (λ q. eqb q x) (k + 1) (xs ++ y ∷ []))) 0 ≡ option_map_or c (cond b (Some k) (position_from (λ q. eqb q x) (k + 1) xs)) 0) [
      | true ↦ refl
      | false ↦ found_other c x y (k + 1) xs h
    ]

found_none : (x k : ℕ) (xs : List ℕ) → ((j : ℕ) → j < length xs → get_or xs j 0 ≢ x) → position_from (λ q. eqb q x) k xs ≡ None
found_none x k [] h = refl
found_none x k (y ∷ ys) h =
    cond-false (eqb y x) (Some k) (position_from (λ q. eqb q x) (k + 1) ys) (ne_eqb y x (h 0 (omega arith)))
    ∙ found_none x (k + 1) ys (λ j l. h (suc j) (omega arith))

found_last : (x y k : ℕ) (xs : List ℕ) → ((j : ℕ) → j < length xs → get_or xs j 0 ≢ x) → y ≡ x → position_from (λ q. eqb q x) k (xs ++ y ∷ []) ≡ Some (k + length xs)
found_last x y k [] h e =
    cond-true (eqb y x) (Some k) None (eq-eqb y x e) ∙ ap Some (let same : k ≡ k + 0 = omega arith in same)
found_last x y k (z ∷ zs) h e =
    cond-false (eqb z x) (Some k) (position_from (λ q. eqb q x) (k + 1) (zs ++ y ∷ [])) (ne_eqb z x (h 0 (omega arith)))
    ∙ (found_last x y (k + 1) zs (λ j l. h (suc j) (omega arith)) e ∙ ap Some (let same : k + 1 + length zs ≡ k + suc (length zs) = omega arith in same))

-- what is found among the first so many elements
abbrev pub found : (ℕ → ℕ) → List ℕ → ℕ → ℕ → ℕ
found c row i p = option_map_or c (position (λ q. eqb q p) (take i row)) 0

found-from : (c : ℕ → ℕ) (row : List ℕ) (i p : ℕ) → found c row i p ≡ option_map_or c (position_from (λ q. eqb q p) 0 (take i row)) 0
found-from c row i p = ap (λ o. option_map_or c o 0) (position_from-zero (λ q. eqb q p) (take i row))

before_apart : (row : List ℕ) (i : ℕ) → AllPairs (λ x y. x ≢ y) row → i < length row → (j : ℕ) → j < length (take i row) → get_or (take i row) j 0 ≢ get_or row i 0
before_apart row i apart l j jl e =
    let short : length (take i row) ≡ i = length-take-le i row (omega arith) in
    apart j i 0 (omega arith) l (sym (get_or-take i row j 0 (omega arith)) ∙ e)

pub found_here : (c : ℕ → ℕ) (row : List ℕ) (i : ℕ) → AllPairs (λ x y. x ≢ y) row → i < length row →
    (found c row i (get_or row i 0) ≡ 0) × (found c row (i + 1) (get_or row i 0) ≡ c i)
found_here c row i apart l =
    let x = get_or row i 0 in
    let short : length (take i row) ≡ i = length-take-le i row (omega arith) in
    let none = found_none x 0 (take i row) (before_apart row i apart l) in
    let last = found_last x x 0 (take i row) (before_apart row i apart l) refl in (
      found-from c row i x ∙ ap (λ o. option_map_or c o 0) none,
      found-from c row (i + 1) x ∙ (ap (λ xs. option_map_or c (position_from (λ q. eqb q x) 0 xs) 0) (take_more row i 0 l)
          ∙ (ap (λ o. option_map_or c o 0) last ∙ ap c (let e : 0 + length (take i row) ≡ i = omega arith in e))),
    )

pub found_elsewhere : (c : ℕ → ℕ) (row : List ℕ) (i p : ℕ) → i < length row → get_or row i 0 ≢ p → found c row (i + 1) p ≡ found c row i p
found_elsewhere c row i p l ne =
    found-from c row (i + 1) p ∙ (ap (λ xs. option_map_or c (position_from (λ q. eqb q p) 0 xs) 0) (take_more row i 0 l)
    ∙ (found_other c p (get_or row i 0) 0 (take i row) (ne_eqb (get_or row i 0) p ne) ∙ sym (found-from c row i p)))

-- one more proposal gets its cents
pub give_more : (row scores initial : List ℕ) (c : ℕ → ℕ) (i v : ℕ) → AllPairs (λ x y. x ≢ y) row → i < length row → get_or row i 0 < length scores →
    v ≡ get_or scores (get_or row i 0) 0 + c i →
    ((p : ℕ) → p < length scores → get_or scores p 0 ≡ get_or initial p 0 + found c row i p) →
    (p : ℕ) → p < length (set scores (get_or row i 0) v) → get_or (set scores (get_or row i 0) v) p 0 ≡ get_or initial p 0 + found c row (i + 1) p
give_more row scores initial c i v apart l within is h p pl =
    let x = get_or row i 0 in
    let len = length-set scores x v in
    elim (cases_eq x p) [
      | inl e ↦
          let here = found_here c row i apart l in
          let old = h x within in
          let P : ℕ → Type 0 = λ p. get_or (set scores x v) p 0 ≡ get_or initial p 0 + found c row (i + 1) p in
          subst P e (get_or-set_same scores x v 0 within ∙ omega (arith, here.0, here.1))
      | inr ne ↦
          let other : p ≢ x = λ e. ne (sym e) in
          omega (arith, get_or-set_other scores x p v 0 other, h p (omega arith), found_elsewhere c row i p l ne)
    ]

-- a number that a list gives at each index, read at what a search finds
pub cents_found : (t : ℕ → Bool) (row cs : List ℕ) (c : ℕ → ℕ) → ((i : ℕ) → i < length row → get_or cs i 0 ≡ c i) →
    option_map_or (λ i. get_or cs i 0) (position t row) 0 ≡ option_map_or c (position t row) 0
cents_found t row cs c h =
    let at = position_or_len t row in
    elim (cases_Bool (ltb at (length row))) [
      | inl b ↦ ap (λ o. option_map_or (λ i. get_or cs i 0) o 0) (cond-true (ltb at (length row)) (Some at) None b)
          ∙ (h at (ltb-true at (length row) b) ∙ sym (ap (λ o. option_map_or c o 0) (cond-true (ltb at (length row)) (Some at) None b)))
      | inr b ↦ ap (λ o. option_map_or (λ i. get_or cs i 0) o 0) (cond-false (ltb at (length row)) (Some at) None b)
          ∙ sym (ap (λ o. option_map_or c o 0) (cond-false (ltb at (length row)) (Some at) None b))
    ]

-- a slice of a whole vector, written back
pub written_back : (new items : List ℕ) (len : ℕ) → length new ≡ len → length items ≡ len → take len (new ++ drop (length new) items) ≡ new
written_back new items len e h = take-append-le len new (drop (length new) items) (omega arith) ∙ take_all len new (omega arith)

-- the points of one more proposal
pub points_more : (f : ℕ → ℕ) (points row : List ℕ) (i v : ℕ) → i < length points → i < length row → take i points ≡ map f (take i row) → v ≡ f (get_or row i 0) →
    take (i + 1) (set points i v) ≡ map f (take (i + 1) row)
points_more f points row i v inside l h e =
    take_more_set points i v inside
    ∙ (ap (λ xs. xs ++ v ∷ []) h
    ∙ (ap (λ x. map f (take i row) ++ x ∷ []) e
    ∙ (sym (map-append f (take i row) (get_or row i 0 ∷ [])) ∙ ap (map f) (sym (take_more row i 0 l)))))

pub points_most : (points : List ℕ) (i v : ℕ) → i < length points → All (λ x. x ≤ MOST_POINTS) (take i points) → v ≤ MOST_POINTS →
    All (λ x. x ≤ MOST_POINTS) (take (i + 1) (set points i v))
points_most points i v inside h few =
    let P : List ℕ → Type 0 = λ xs. All (λ x. x ≤ MOST_POINTS) xs in
    subst P (sym (take_more_set points i v inside)) (All-push (λ x. x ≤ MOST_POINTS) (take i points) v h few)
