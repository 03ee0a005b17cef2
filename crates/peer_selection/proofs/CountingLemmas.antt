use Rattle.std.proofs.Common.{◌≡◌, ℕ, zero, suc, ◌+◌, ◌-◌, ◌*◌, ◌<◌, ◌≤◌, ◌≢◌, Bool, true, false, ◌&&◌, not, cond, ltb, [], ◌∷◌, ◌++◌, length, get_or, map, Some, zero-add, IsTrue, ◌↔◌, refl, ◌⊎◌, sym, ap, ◌∙◌, inl, inr, add-one, arith, length-append}
use Rattle.std.specs.List.{count_by, sum_by, list_all, range_with_len, slice_get}
use Rattle.std.proofs.lemmas.List.{map-append}
use Rattle.std.proofs.lemmas.List.Sums.{sum_by_push}
use Rattle.std.proofs.lemmas.List.Folds.{list_all-append}
use Rattle.std.proofs.lemmas.List.FromFn.{map-range_with_len_more}
use Rattle.std.proofs.lemmas.Option.{slice_get-get_or}
use Rattle.std.proofs.lemmas.Bool.{cases_Bool, cases_eq, and_parts, and_from, both_ways}
use Rattle.std.proofs.Math.ListN.{get_or-append}
use Rattle.std.proofs.Math.Seq.{get_or-append_seam}
use Rattle.std.proofs.lemmas.Bool.Decides.{nat_tests}
use Rattle.peer_selection.specs.Counting.{count_below, sum_below, all_below, numbers_below}

-- Laws of the counting words. Each word is one more step at the successor.

-- what a test adds to a count
abbrev pub one_if : Bool → ℕ
one_if b = cond b 1 0

pub count_below-zero : (test : ℕ → Bool) → count_below test 0 ≡ 0
unfolding count_below
count_below-zero test = refl

pub count_below-suc : (test : ℕ → Bool) (n : ℕ) → count_below test (suc n) ≡ count_below test n + one_if (test n)
unfolding count_below
count_below-suc test n = refl

pub sum_below-zero : (f : ℕ → ℕ) → sum_below f 0 ≡ 0
unfolding sum_below
sum_below-zero f = refl

pub sum_below-suc : (f : ℕ → ℕ) (n : ℕ) → sum_below f (suc n) ≡ sum_below f n + f n
unfolding sum_below
sum_below-suc f n = refl

pub all_below-zero : (test : ℕ → Bool) → all_below test 0 ≡ true
unfolding all_below
all_below-zero test = refl

pub all_below-suc : (test : ℕ → Bool) (n : ℕ) → all_below test (suc n) ≡ (all_below test n && test n)
unfolding all_below
all_below-suc test n = refl

pub numbers_below-suc : (n : ℕ) → numbers_below (suc n) ≡ numbers_below n ++ n ∷ []
unfolding numbers_below
numbers_below-suc n = refl

-- The same steps as a loop writes them.

pub count_below-add_one : (test : ℕ → Bool) (n : ℕ) → count_below test (n + 1) ≡ count_below test n + one_if (test n)
count_below-add_one test n = ap (count_below test) (add-one n) ∙ count_below-suc test n

pub sum_below-add_one : (f : ℕ → ℕ) (n : ℕ) → sum_below f (n + 1) ≡ sum_below f n + f n
sum_below-add_one f n = ap (sum_below f) (add-one n) ∙ sum_below-suc f n

pub all_below-add_one : (test : ℕ → Bool) (n : ℕ) → all_below test (n + 1) ≡ (all_below test n && test n)
all_below-add_one test n = ap (all_below test) (add-one n) ∙ all_below-suc test n

pub numbers_below-add_one : (n : ℕ) → numbers_below (n + 1) ≡ numbers_below n ++ n ∷ []
numbers_below-add_one n = ap numbers_below (add-one n) ∙ numbers_below-suc n

-- a number below the successor is below, or the last one
pub below_suc : (i n : ℕ) → i < suc n → (i < n) ⊎ (i ≡ n)
below_suc i n h = elim (cases_eq i n) [ inl e ↦ inr e | inr ne ↦ inl (omega arith) ]

-- a number that passes counts, and another does not
pub count_below-passes : (test : ℕ → Bool) (n : ℕ) → test n ≡ true → count_below test (suc n) ≡ count_below test n + 1
count_below-passes test n h = omega (arith, count_below-suc test n, ap one_if h)

pub count_below-fails : (test : ℕ → Bool) (n : ℕ) → test n ≡ false → count_below test (suc n) ≡ count_below test n
count_below-fails test n h = omega (arith, count_below-suc test n, ap one_if h)

pub one_if-le : (b : Bool) → one_if b ≤ 1
one_if-le true = omega arith
one_if-le false = omega arith

pub one_if-mono : (a b : Bool) → (a ≡ true → b ≡ true) → one_if a ≤ one_if b
one_if-mono true b h = omega (arith, ap one_if (h refl))
one_if-mono false b h = omega arith

-- Bounds.

-- a count is at most the numbers counted
pub count_below-le : (test : ℕ → Bool) (n : ℕ) → count_below test n ≤ n
count_below-le test zero = omega (arith, count_below-zero test)
count_below-le test (suc n) = omega (arith, count_below-suc test n, count_below-le test n, one_if-le (test n))

pub count_below-all : (test : ℕ → Bool) (n : ℕ) → ((i : ℕ) → i < n → test i ≡ true) → count_below test n ≡ n
count_below-all test zero h = count_below-zero test
count_below-all test (suc n) h =
    omega (arith, count_below-passes test n (h n (omega arith)), count_below-all test n (λ i l. h i (omega arith)))

pub count_below-none : (test : ℕ → Bool) (n : ℕ) → ((i : ℕ) → i < n → test i ≡ false) → count_below test n ≡ 0
count_below-none test zero h = count_below-zero test
count_below-none test (suc n) h =
    omega (arith, count_below-fails test n (h n (omega arith)), count_below-none test n (λ i l. h i (omega arith)))

pub sum_below-none : (f : ℕ → ℕ) (n : ℕ) → ((i : ℕ) → i < n → f i ≡ 0) → sum_below f n ≡ 0
sum_below-none f zero h = sum_below-zero f
sum_below-none f (suc n) h =
    omega (arith, sum_below-suc f n, h n (omega arith), sum_below-none f n (λ i l. h i (omega arith)))

pub sum_below-le : (f : ℕ → ℕ) (most n : ℕ) → ((i : ℕ) → i < n → f i ≤ most) → sum_below f n ≤ n * most
sum_below-le f most zero h = omega (arith, sum_below-zero f)
sum_below-le f most (suc n) h =
    omega (arith, sum_below-suc f n, h n (omega arith), sum_below-le f most n (λ i l. h i (omega arith)))

pub sum_below-const : (c n : ℕ) → sum_below (λ i. c) n ≡ n * c
sum_below-const c zero = omega (arith, sum_below-zero (λ i. c))
sum_below-const c (suc n) = omega (arith, sum_below-suc (λ i. c) n, sum_below-const c n)

-- Congruence and monotony.

pub count_below-same : (f g : ℕ → Bool) (n : ℕ) → ((i : ℕ) → i < n → f i ≡ g i) → count_below f n ≡ count_below g n
count_below-same f g zero h = omega (arith, count_below-zero f, count_below-zero g)
count_below-same f g (suc n) h =
    omega (arith, count_below-suc f n, count_below-suc g n, ap one_if (h n (omega arith)), count_below-same f g n (λ i l. h i (omega arith)))

pub sum_below-same : (f g : ℕ → ℕ) (n : ℕ) → ((i : ℕ) → i < n → f i ≡ g i) → sum_below f n ≡ sum_below g n
sum_below-same f g zero h = omega (arith, sum_below-zero f, sum_below-zero g)
sum_below-same f g (suc n) h =
    omega (arith, sum_below-suc f n, sum_below-suc g n, h n (omega arith), sum_below-same f g n (λ i l. h i (omega arith)))

pub all_below-same : (f g : ℕ → Bool) (n : ℕ) → ((i : ℕ) → i < n → f i ≡ g i) → all_below f n ≡ all_below g n
all_below-same f g zero h = all_below-zero f ∙ sym (all_below-zero g)
all_below-same f g (suc n) h =
    all_below-suc f n ∙ (ap (λ b. b && f n) (all_below-same f g n (λ i l. h i (omega arith)))
    ∙ (ap (λ b. all_below g n && b) (h n (omega arith)) ∙ sym (all_below-suc g n)))

pub count_below-mono : (f g : ℕ → Bool) (n : ℕ) → ((i : ℕ) → i < n → f i ≡ true → g i ≡ true) → count_below f n ≤ count_below g n
count_below-mono f g zero h = omega (arith, count_below-zero f)
count_below-mono f g (suc n) h =
    omega (arith, count_below-suc f n, count_below-suc g n, one_if-mono (f n) (g n) (h n (omega arith)), count_below-mono f g n (λ i l. h i (omega arith)))

pub sum_below-mono : (f g : ℕ → ℕ) (n : ℕ) → ((i : ℕ) → i < n → f i ≤ g i) → sum_below f n ≤ sum_below g n
sum_below-mono f g zero h = omega (arith, sum_below-zero f)
sum_below-mono f g (suc n) h =
    omega (arith, sum_below-suc f n, sum_below-suc g n, h n (omega arith), sum_below-mono f g n (λ i l. h i (omega arith)))

-- a longer stretch counts no less
pub count_below-longer : (test : ℕ → Bool) (m n : ℕ) → m ≤ n → count_below test m ≤ count_below test n
count_below-longer test m zero h = omega (arith, ap (count_below test) (let e : m ≡ 0 = omega arith in e))
count_below-longer test m (suc n) h =
    elim (cases_eq m (suc n)) [
      | inl e ↦ omega (arith, ap (count_below test) e)
      | inr ne ↦ omega (arith, count_below-suc test n, count_below-longer test m n (omega arith))
    ]

-- a test that passes wherever another does, and at one number more, counts more
pub count_below-more : (f g : ℕ → Bool) (n at : ℕ) → ((i : ℕ) → i < n → f i ≡ true → g i ≡ true) → at < n → f at ≡ false → g at ≡ true → count_below f n < count_below g n
count_below-more f g zero at h l x y = absurd (omega arith)
count_below-more f g (suc n) at h l x y =
    elim (below_suc at n l) [
      | inl below ↦ omega (arith, count_below-suc f n, count_below-suc g n, one_if-mono (f n) (g n) (h n (omega arith)), count_below-more f g n at (λ i b. h i (omega arith)) below x y)
      | inr last ↦ omega (arith, count_below-fails f n (ap f (sym last) ∙ x), count_below-passes g n (ap g (sym last) ∙ y), count_below-mono f g n (λ i b. h i (omega arith)))
    ]

-- a longer stretch sums to no less
pub sum_below-longer : (f : ℕ → ℕ) (m n : ℕ) → m ≤ n → sum_below f m ≤ sum_below f n
sum_below-longer f m zero h = omega (arith, ap (sum_below f) (let e : m ≡ 0 = omega arith in e))
sum_below-longer f m (suc n) h =
    elim (cases_eq m (suc n)) [
      | inl e ↦ omega (arith, ap (sum_below f) e)
      | inr ne ↦ omega (arith, sum_below-suc f n, sum_below-longer f m n (omega arith))
    ]

-- a term is at most the sum
pub sum_below-term : (f : ℕ → ℕ) (i n : ℕ) → i < n → f i ≤ sum_below f n
sum_below-term f i n l = omega (arith, sum_below-suc f i, sum_below-longer f (suc i) n l)

-- a number that passes is counted, and where nothing is counted none passes
pub count_below-some : (test : ℕ → Bool) (i n : ℕ) → i < n → test i ≡ true → 0 < count_below test n
count_below-some test i n l h = omega (arith, count_below-passes test i h, count_below-longer test (suc i) n l)

pub count_below-zero_each : (test : ℕ → Bool) (n : ℕ) → count_below test n ≡ 0 → (i : ℕ) → i < n → test i ≡ false
count_below-zero_each test n h i l =
    elim (cases_Bool (test i)) [ inl passes ↦ absurd (omega (arith, count_below-some test i n l passes)) | inr fails ↦ fails ]

-- All.

pub all_below-each : (test : ℕ → Bool) (n : ℕ) → IsTrue (all_below test n) → (i : ℕ) → i < n → IsTrue (test i)
all_below-each test zero h i l = absurd (omega arith)
all_below-each test (suc n) h i l =
    let both = and_parts (all_below test n) (test n) (sym (all_below-suc test n) ∙ h) in
    elim (below_suc i n l) [ inl below ↦ all_below-each test n both.0 i below | inr last ↦ ap test last ∙ both.1 ]

pub all_below-from : (test : ℕ → Bool) (n : ℕ) → ((i : ℕ) → i < n → IsTrue (test i)) → IsTrue (all_below test n)
all_below-from test zero h = all_below-zero test
all_below-from test (suc n) h =
    all_below-suc test n ∙ and_from (all_below test n) (test n) (all_below-from test n (λ i l. h i (omega arith))) (h n (omega arith))

-- all pass exactly when each does
pub all_below-iff : (test : ℕ → Bool) (n : ℕ) → IsTrue (all_below test n) ↔ ((i : ℕ) → i < n → IsTrue (test i))
all_below-iff test n = (all_below-each test n, all_below-from test n)

-- one that fails
pub all_below-fails : (test : ℕ → Bool) (i n : ℕ) → i < n → test i ≡ false → all_below test n ≡ false
all_below-fails test i n l h =
    elim (cases_Bool (all_below test n)) [ inl all ↦ absurd (both_ways (test i) h (all_below-each test n all i l)) | inr none ↦ none ]

-- Sums of sums.

pub count_below-sum : (test : ℕ → Bool) (n : ℕ) → count_below test n ≡ sum_below (λ i. one_if (test i)) n
count_below-sum test zero = omega (arith, count_below-zero test, sum_below-zero (λ i. one_if (test i)))
count_below-sum test (suc n) = omega (arith, count_below-suc test n, sum_below-suc (λ i. one_if (test i)) n, count_below-sum test n)

pub sum_below-plus : (f g : ℕ → ℕ) (n : ℕ) → sum_below (λ i. f i + g i) n ≡ sum_below f n + sum_below g n
sum_below-plus f g zero = omega (arith, sum_below-zero (λ i. f i + g i), sum_below-zero f, sum_below-zero g)
sum_below-plus f g (suc n) = omega (arith, sum_below-suc (λ i. f i + g i) n, sum_below-suc f n, sum_below-suc g n, sum_below-plus f g n)

pub sum_below-times : (k : ℕ) (f : ℕ → ℕ) (n : ℕ) → sum_below (λ i. k * f i) n ≡ k * sum_below f n
sum_below-times k f zero = omega (arith, sum_below-zero (λ i. k * f i), ap (λ x. k * x) (sum_below-zero f))
sum_below-times k f (suc n) = omega (arith, sum_below-suc (λ i. k * f i) n, ap (λ x. k * x) (sum_below-suc f n), sum_below-times k f n)

-- one test that passes where either of two does, and never both, counts both
pub count_below-split : (whole f g : ℕ → Bool) (n : ℕ) → ((i : ℕ) → i < n → one_if (whole i) ≡ one_if (f i) + one_if (g i)) → count_below whole n ≡ count_below f n + count_below g n
count_below-split whole f g zero h = omega (arith, count_below-zero whole, count_below-zero f, count_below-zero g)
count_below-split whole f g (suc n) h =
    omega (arith, count_below-suc whole n, count_below-suc f n, count_below-suc g n, h n (omega arith), count_below-split whole f g n (λ i l. h i (omega arith)))

-- those that pass and those that do not are all
pub count_below-not : (test : ℕ → Bool) (n : ℕ) → count_below test n + count_below (λ i. not (test i)) n ≡ n
count_below-not test zero = omega (arith, count_below-zero test, count_below-zero (λ i. not (test i)))
count_below-not test (suc n) =
    elim (cases_Bool (test n)) [
      | inl h ↦ omega (arith, count_below-passes test n h, count_below-fails (λ i. not (test i)) n (ap not h), count_below-not test n)
      | inr h ↦ omega (arith, count_below-fails test n h, count_below-passes (λ i. not (test i)) n (ap not h), count_below-not test n)
    ]

-- the order of two sums is free
pub sum_below-exchange : (f : ℕ → ℕ → ℕ) (m n : ℕ) → sum_below (λ i. sum_below (λ j. f i j) m) n ≡ sum_below (λ j. sum_below (λ i. f i j) n) m
sum_below-exchange f m zero =
    sum_below-zero (λ i. sum_below (λ j. f i j) m) ∙ sym (sum_below-none (λ j. sum_below (λ i. f i j) 0) m (λ j l. sum_below-zero (λ i. f i j)))
sum_below-exchange f m (suc n) =
    let one_more = sum_below-suc (λ i. sum_below (λ j. f i j) m) n in
    let together = sum_below-plus (λ j. sum_below (λ i. f i j) n) (λ j. f n j) m in
    let each = sum_below-same (λ j. sum_below (λ i. f i j) (suc n)) (λ j. sum_below (λ i. f i j) n + f n j) m (λ j l. sum_below-suc (λ i. f i j) n) in
    omega (arith, one_more, together, each, sum_below-exchange f m n)

-- a sum with one place that is not 0
pub sum_below-only : (f : ℕ → ℕ) (n at : ℕ) → at < n → ((i : ℕ) → i < n → i ≢ at → f i ≡ 0) → sum_below f n ≡ f at
sum_below-only f zero at l h = absurd (omega arith)
sum_below-only f (suc n) at l h =
    elim (below_suc at n l) [
      | inl below ↦ omega (arith, sum_below-suc f n, h n (omega arith) (omega arith), sum_below-only f n at below (λ i b ne. h i (omega arith) ne))
      | inr last ↦ omega (arith, sum_below-suc f n, ap f last, sum_below-none f n (λ i b. h i (omega arith) (omega arith)))
    ]

-- a test that passes at one place alone counts 1
pub count_below-only : (test : ℕ → Bool) (n at : ℕ) → at < n → test at ≡ true → ((i : ℕ) → i < n → i ≢ at → test i ≡ false) → count_below test n ≡ 1
count_below-only test n at l here others =
    omega (arith, count_below-sum test n, sum_below-only (λ i. one_if (test i)) n at l (λ i b ne. ap one_if (others i b ne)), ap one_if here)

-- one stretch after another
pub sum_below-append : (f : ℕ → ℕ) (m n : ℕ) → sum_below f (m + n) ≡ sum_below f m + sum_below (λ i. f (m + i)) n
sum_below-append f m zero = omega (arith, sum_below-zero (λ i. f (m + i)), ap (sum_below f) (let e : m + 0 ≡ m = omega arith in e))
sum_below-append f m (suc n) =
    omega (arith, ap (sum_below f) (let e : m + suc n ≡ suc (m + n) = omega arith in e), sum_below-suc f (m + n), sum_below-suc (λ i. f (m + i)) n, sum_below-append f m n)

pub count_below-append : (test : ℕ → Bool) (m n : ℕ) → count_below test (m + n) ≡ count_below test m + count_below (λ i. test (m + i)) n
count_below-append test m n =
    omega (arith, count_below-sum test (m + n), count_below-sum test m, count_below-sum (λ i. test (m + i)) n, sum_below-append (λ i. one_if (test i)) m n)

-- the first number apart from the others
pub sum_below-first : (f : ℕ → ℕ) (n : ℕ) → sum_below f (suc n) ≡ f 0 + sum_below (λ i. f (suc i)) n
sum_below-first f zero = omega (arith, sum_below-suc f 0, sum_below-zero f, sum_below-zero (λ i. f (suc i)))
sum_below-first f (suc n) = omega (arith, sum_below-suc f (suc n), sum_below-suc (λ i. f (suc i)) n, sum_below-first f n)

-- how many of the numbers below n are below m
pub count_below-ltb : (m n : ℕ) → m ≤ n → count_below (λ i. ltb i m) n ≡ m
count_below-ltb m n h =
    let apart : m + (n - m) ≡ n = omega arith in
    let front = count_below-all (λ i. ltb i m) m (λ i l. grind (arith, nat_tests)) in
    let back = count_below-none (λ i. ltb (m + i) m) (n - m) (λ i l. grind (arith, nat_tests)) in
    omega (arith, ap (count_below (λ i. ltb i m)) apart, count_below-append (λ i. ltb i m) m (n - m), front, back)

-- the numbers below n, each at its own index

pub length-numbers_below : (n : ℕ) → length (numbers_below n) ≡ n
unfolding numbers_below
length-numbers_below zero = refl
length-numbers_below (suc n) = omega (arith, length-append (numbers_below n) (n ∷ []), length-numbers_below n)

pub get_or-numbers_below : (n i d : ℕ) → i < n → get_or (numbers_below n) i d ≡ i
unfolding numbers_below
get_or-numbers_below zero i d h = absurd (omega arith)
get_or-numbers_below (suc n) i d h =
    let whole = length-numbers_below n in
    elim (below_suc i n h) [
      | inl below ↦ get_or-append (numbers_below n) (n ∷ []) d i (omega arith) ∙ get_or-numbers_below n i d below
      | inr last ↦ ap (λ k. get_or (numbers_below n ++ n ∷ []) k d) (last ∙ sym whole) ∙ (get_or-append_seam (numbers_below n) n [] d ∙ sym last)
    ]

pub slice_get-numbers_below : (n i : ℕ) → i < n → slice_get (numbers_below n) i ≡ Some i
slice_get-numbers_below n i h = slice_get-get_or (numbers_below n) i 0 (omega (arith, length-numbers_below n)) ∙ ap Some (get_or-numbers_below n i 0 h)

-- the words over a list of the numbers

pub map-numbers_below : {X : Type 0} (f : ℕ → X) (n : ℕ) → map f (numbers_below n) ≡ map f (range_with_len 0 n)
unfolding numbers_below
map-numbers_below f zero = refl
map-numbers_below f (suc n) =
    map-append f (numbers_below n) (n ∷ [])
    ∙ (ap (λ xs. xs ++ f n ∷ []) (map-numbers_below f n)
    ∙ (sym (map-range_with_len_more f 0 n n (zero-add n)) ∙ ap (λ k. map f (range_with_len 0 k)) (add-one n)))

pub sum_by-numbers_below : (f : ℕ → ℕ) (n : ℕ) → sum_by f (numbers_below n) ≡ sum_below f n
unfolding numbers_below sum_below
sum_by-numbers_below f zero = refl
sum_by-numbers_below f (suc n) = sum_by_push f (numbers_below n) n ∙ ap (λ x. x + f n) (sum_by-numbers_below f n)

pub count_by-numbers_below : (test : ℕ → Bool) (n : ℕ) → count_by test (numbers_below n) ≡ count_below test n
count_by-numbers_below test n = sum_by-numbers_below (λ i. one_if (test i)) n ∙ sym (count_below-sum test n)

and_true : (b : Bool) → (b && true) ≡ b
and_true true = refl
and_true false = refl

pub list_all-numbers_below : (test : ℕ → Bool) (n : ℕ) → list_all test (numbers_below n) ≡ all_below test n
unfolding numbers_below all_below
list_all-numbers_below test zero = refl
list_all-numbers_below test (suc n) =
    list_all-append test (numbers_below n) (n ∷ []) ∙ (ap (λ b. b && (test n && true)) (list_all-numbers_below test n) ∙ ap (λ b. all_below test n && b) (and_true (test n)))
