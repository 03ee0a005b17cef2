-- Numbers below a bound that pass a test, in their order.
use Rattle.std.proofs.Common.{◌≡◌, ℕ, zero, suc, ◌+◌, ◌<◌, ◌&&◌, ◌||◌, Bool, true, false, cond, eqb, ltb, List, [], ◌∷◌, ◌++◌, length, filter, get_or, Some, None, refl, sym, ap, ◌∙◌, subst, append-nil, arith, inl, inr}
use Rattle.std.specs.List.{AllByRecursion, list_any, position_from, sum_by}
use Rattle.std.proofs.lemmas.Bool.{cases_Bool, cases_lt, cond-true, cond-false, eq-eqb, le-ltb, lt-ltb, ne_eqb}
use Rattle.std.proofs.lemmas.List.{get_or_append_left, get_or_push}
use Rattle.std.proofs.lemmas.List.Elements.{filter-append}
use Rattle.std.proofs.lemmas.List.Sums.{length-filter, sum_by_push}
use Rattle.peer_selection.specs.Counting.{count_below, numbers_below, sum_below}
use Rattle.peer_selection.proofs.CountingLemmas.{one_if, count_below-add_one, count_below-longer, count_below-suc, count_below-zero, count_by-numbers_below, sum_below-suc, sum_below-zero}

-- those of the numbers below n that pass
abbrev pub kept : (ℕ → Bool) → ℕ → List ℕ
kept m n = filter m (numbers_below n)

kept_more : (m : ℕ → Bool) (n : ℕ) → kept m (suc n) ≡ kept m n ++ filter m (n ∷ [])
unfolding numbers_below
kept_more m n = filter-append m (numbers_below n) (n ∷ [])

kept_takes : (m : ℕ → Bool) (n : ℕ) → m n ≡ true → kept m (suc n) ≡ kept m n ++ n ∷ []
kept_takes m n h = kept_more m n ∙ ap (λ ys. kept m n ++ ys) (cond-true (m n) (n ∷ []) [] h)

kept_skips : (m : ℕ → Bool) (n : ℕ) → m n ≡ false → kept m (suc n) ≡ kept m n
kept_skips m n h = kept_more m n ∙ ap (λ ys. kept m n ++ ys) (cond-false (m n) (n ∷ []) [] h) ∙ append-nil (kept m n)

kept_none : (m : ℕ → Bool) → kept m 0 ≡ []
unfolding numbers_below
kept_none m = refl

pub length_kept : (m : ℕ → Bool) (n : ℕ) → length (kept m n) ≡ count_below m n
length_kept m n = length-filter m (numbers_below n) ∙ count_by-numbers_below m n

-- fewer pass below one that passes than below a greater number
pub earlier : (m : ℕ → Bool) (q n : ℕ) → q < n → m q ≡ true → count_below m q < count_below m n
earlier m q n l h = omega (arith, count_below-suc m q, ap one_if h, count_below-longer m (suc q) n (omega arith))

-- their indices are in their order
pub order_kept : (m : ℕ → Bool) (q p : ℕ) → m q ≡ true → ltb (count_below m q) (count_below m p) ≡ ltb q p
order_kept m q p h = elim (cases_lt q p) [
  | inl l ↦ lt-ltb (count_below m q) (count_below m p) (earlier m q p l h) ∙ sym (lt-ltb q p l)
  | inr l ↦ le-ltb (count_below m q) (count_below m p) (count_below-longer m p q l) ∙ sym (le-ltb q p l)
]

-- one that passes stands behind as many as pass below it
pub kept_at : (m : ℕ → Bool) (n q d : ℕ) → q < n → m q ≡ true → get_or (kept m n) (count_below m q) d ≡ q
kept_at m zero q d l h = absurd (omega arith)
kept_at m (suc n) q d l h = elim (cases_lt q n) [
  | inl before ↦ elim (cases_Bool (m n)) [
    | inl here ↦
        ap (λ ys. get_or ys (count_below m q) d) (kept_takes m n here)
        ∙ get_or_append_left (kept m n) (n ∷ []) d (count_below m q) (omega (arith, length_kept m n, earlier m q n before h))
        ∙ kept_at m n q d before h
    | inr other ↦ ap (λ ys. get_or ys (count_below m q) d) (kept_skips m n other) ∙ kept_at m n q d before h
  ]
  | inr last ↦
      let same : q ≡ n = omega arith in
      ap (λ x. get_or (kept m (suc n)) (count_below m x) d) same
      ∙ ap (λ ys. get_or ys (count_below m n) d) (kept_takes m n (ap m (sym same) ∙ h))
      ∙ get_or_push (kept m n) n d (count_below m n) (length_kept m n)
      ∙ sym same
]

-- a count over their indices is a count over them
pub count_kept : (m U : ℕ → Bool) (n : ℕ) → count_below U (count_below m n) ≡ count_below (λ q. m q && U (count_below m q)) n
count_kept m U zero = ap (count_below U) (count_below-zero m) ∙ count_below-zero U ∙ sym (count_below-zero (λ q. m q && U (count_below m q)))
count_kept m U (suc n) =
    let both = λ (q : ℕ). m q && U (count_below m q) in
    elim (cases_Bool (m n)) [
      | inl here ↦
          let more : count_below m (suc n) ≡ count_below m n + 1 = omega (arith, count_below-suc m n, ap one_if here) in
          ap (count_below U) more ∙ count_below-add_one U (count_below m n)
          ∙ ap (λ x. x + one_if (U (count_below m n))) (count_kept m U n)
          ∙ ap (λ b. count_below both n + one_if (b && U (count_below m n))) (sym here)
          ∙ sym (count_below-suc both n)
      | inr other ↦
          let same : count_below m (suc n) ≡ count_below m n = omega (arith, count_below-suc m n, ap one_if other) in
          let nothing : one_if (both n) ≡ 0 = ap (λ b. one_if (b && U (count_below m n))) other in
          omega (arith, ap (count_below U) same, count_kept m U n, count_below-suc both n, nothing)
    ]

-- a sum over them
pub sum_kept : (m : ℕ → Bool) (g : ℕ → ℕ) (n : ℕ) → sum_by g (kept m n) ≡ sum_below (λ q. cond (m q) (g q) 0) n
sum_kept m g zero = ap (sum_by g) (kept_none m) ∙ sym (sum_below-zero (λ q. cond (m q) (g q) 0))
sum_kept m g (suc n) =
    let term = λ (q : ℕ). cond (m q) (g q) 0 in
    elim (cases_Bool (m n)) [
      | inl here ↦ omega (arith, ap (sum_by g) (kept_takes m n here), sum_by_push g (kept m n) n, sum_kept m g n, sum_below-suc term n, cond-true (m n) (g n) 0 here)
      | inr other ↦ omega (arith, ap (sum_by g) (kept_skips m n other), sum_kept m g n, sum_below-suc term n, cond-false (m n) (g n) 0 other)
    ]

all_push : (P : ℕ → Type 0) (xs : List ℕ) (x : ℕ) → AllByRecursion P xs → P x → AllByRecursion P (xs ++ x ∷ [])
all_push P [] x all h = (h, tt)
all_push P (y ∷ ys) x all h = (all.0, all_push P ys x all.1 h)

-- what holds of each number below n that passes, holds of them
pub all_kept : (P : ℕ → Type 0) (m : ℕ → Bool) (n : ℕ) → ((q : ℕ) → q < n → m q ≡ true → P q) → AllByRecursion P (kept m n)
all_kept P m zero h = subst (AllByRecursion P) (sym (kept_none m)) tt
all_kept P m (suc n) h = elim (cases_Bool (m n)) [
  | inl here ↦ subst (AllByRecursion P) (sym (kept_takes m n here)) (all_push P (kept m n) n (all_kept P m n (λ q l. h q (omega arith))) (h n (omega arith) here))
  | inr other ↦ subst (AllByRecursion P) (sym (kept_skips m n other)) (all_kept P m n (λ q l. h q (omega arith)))
]

none_of : (test : ℕ → Bool) (xs : List ℕ) → AllByRecursion (λ x. test x ≡ false) xs → list_any test xs ≡ false
none_of test [] all = refl
none_of test (x ∷ xs) all = ap (λ b. b || list_any test xs) all.0 ∙ none_of test xs all.1

-- where none of them passes another test
pub none_kept : (m test : ℕ → Bool) (n : ℕ) → ((q : ℕ) → q < n → m q ≡ true → test q ≡ false) → list_any test (kept m n) ≡ false
none_kept m test n h = none_of test (kept m n) (all_kept (λ q. test q ≡ false) m n h)

-- Where one of them is found.

found_left : (test : ℕ → Bool) (k i : ℕ) (xs ys : List ℕ) → position_from test k xs ≡ Some i → position_from test k (xs ++ ys) ≡ Some i
found_left test k i [] ys h = cc
found_left test k i (x ∷ xs) ys h = elim (cases_Bool (test x)) [
  | inl here ↦ cond-true (test x) (Some k) (position_from test (k + 1) (xs ++ ys)) here ∙ sym (cond-true (test x) (Some k) (position_from test (k + 1) xs) here) ∙ h
  | inr other ↦
      cond-false (test x) (Some k) (position_from test (k + 1) (xs ++ ys)) other
      ∙ found_left test (k + 1) i xs ys (sym (cond-false (test x) (Some k) (position_from test (k + 1) xs) other) ∙ h)
]

found_last : (test : ℕ → Bool) (k : ℕ) (xs : List ℕ) (y : ℕ) → AllByRecursion (λ x. test x ≡ false) xs → test y ≡ true → position_from test k (xs ++ y ∷ []) ≡ Some (k + length xs)
found_last test k [] y all h = cond-true (test y) (Some k) None h ∙ ap Some (let e : k ≡ k + 0 = omega arith in e)
found_last test k (x ∷ xs) y all h =
    cond-false (test x) (Some k) (position_from test (k + 1) (xs ++ y ∷ [])) all.0
    ∙ found_last test (k + 1) xs y all.1 h
    ∙ ap Some (let e : k + 1 + length xs ≡ k + suc (length xs) = omega arith in e)

-- one of them is found behind as many as pass below it
pub found_kept : (m : ℕ → Bool) (n p : ℕ) → p < n → m p ≡ true → position_from (λ x. eqb x p) 0 (kept m n) ≡ Some (count_below m p)
found_kept m zero p l h = absurd (omega arith)
found_kept m (suc n) p l h =
    let is = λ (x : ℕ). eqb x p in
    elim (cases_lt p n) [
      | inl before ↦ elim (cases_Bool (m n)) [
        | inl here ↦ ap (position_from is 0) (kept_takes m n here) ∙ found_left is 0 (count_below m p) (kept m n) (n ∷ []) (found_kept m n p before h)
        | inr other ↦ ap (position_from is 0) (kept_skips m n other) ∙ found_kept m n p before h
      ]
      | inr last ↦
          let same : p ≡ n = omega arith in
          ap (position_from is 0) (kept_takes m n (ap m (sym same) ∙ h))
          ∙ found_last is 0 (kept m n) n (all_kept (λ x. is x ≡ false) m n (λ q below _. ne_eqb q p (λ e. absurd (omega arith)))) (eq-eqb n p (sym same))
          ∙ ap Some (let e : 0 + length (kept m n) ≡ count_below m n = omega (arith, length_kept m n) in e)
          ∙ ap (λ x. Some (count_below m x)) (sym same)
    ]
