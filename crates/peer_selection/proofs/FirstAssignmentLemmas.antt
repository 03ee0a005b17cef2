use Rattle.std.proofs.Common.{◌≡◌, ℕ, zero, suc, ◌+◌, ◌<◌, ◌≤◌, Bool, true, false, cond, List, [], ◌∷◌, length, map, filter, get_or, IsTrue, ◌⊎◌, refl, sym, ap, ◌∙◌, subst, inl, inr, arith}
use Rattle.std.specs.List.{range_with_len}
use Rattle.std.specs.Ordering.{nat_cmp, ordering_then, ordering_reverse}
use Rattle.std.specs.Cmp.{nat_cmp_is, nat_cmp_total}
use Rattle.std.specs.Cmp.Lexicographic.{slice_cmp, lists_total}
use Rattle.std.specs.FinMap.{nat_cmp-IsAntisymmetric, slice_cmp-IsAntisymmetric}
use Rattle.std.specs.declared.cmp.Ordering.{Ordering}
use Rattle.std.specs.declared.cmp.Ordering.TheVariants.{Less, Equal, Greater}
use Rattle.std.proofs.lemmas.Bool.{cases_eq, true≢false}
use Rattle.std.proofs.lemmas.List.{get_or-map}
use Rattle.std.proofs.lemmas.List.Sums.{length-filter}
use Rattle.house_base.specs.Setting.{Setting, size, need, distance}
use Rattle.peer_selection.specs.Counting.{count_below, numbers_below}
use Rattle.peer_selection.specs.FirstAssignment.{distances, distance_rows, ComesBefore, IsFirst}
use Rattle.peer_selection.specs.Profile.{Pairs, is_valid}
use Rattle.peer_selection.proofs.CountingLemmas.{one_if, count_below-sum, count_by-numbers_below, map-numbers_below, length-numbers_below, get_or-numbers_below}
use Rattle.peer_selection.proofs.DistanceLemmas.{round-distance, distance-below}
use Rattle.peer_selection.proofs.RowLemmas.{round, round-below, sum_below-round}
use Rattle.peer_selection.proofs.ValidLemmas.{is_valid-each}

-- The order of assignments, and that there is one first assignment at most.

same_number : (x : ℕ) → nat_cmp x x ≡ Equal
same_number x = sym (nat_cmp_is x x Equal refl)

greater_number : (x y : ℕ) → y < x → nat_cmp x y ≡ Greater
greater_number x y h = sym (nat_cmp_is x y Greater h)

same_row : (xs : List ℕ) → slice_cmp nat_cmp xs xs ≡ Equal
same_row [] = refl
same_row (x ∷ xs) = ap (λ o. ordering_then o (slice_cmp nat_cmp xs xs)) (same_number x) ∙ same_row xs

-- a list is empty or begins above a number
abbrev BeginsAbove : ℕ → List ℕ → Type 0
BeginsAbove a [] = Unit {0}
BeginsAbove a (x ∷ xs) = a < x

begins_above : (test : ℕ → Bool) (a b k : ℕ) → a < b → BeginsAbove a (filter test (range_with_len b k))
begins_above test a b zero h = tt
begins_above test a b (suc k) h =
    elim (test b) as (λ c. BeginsAbove a (cond c (b ∷ filter test (range_with_len (b + 1) k)) (filter test (range_with_len (b + 1) k)))) [
      | true ↦ h
      | false ↦ begins_above test a (b + 1) k (omega arith)
    ]

-- of two lists that are as long, the one that begins above is greater
above : (a : ℕ) (xs ys : List ℕ) → BeginsAbove a ys → length ys ≡ length (a ∷ xs) → slice_cmp nat_cmp ys (a ∷ xs) ≡ Greater
above a xs [] h l = absurd (omega (arith, l))
above a xs (y ∷ ys) h l = ap (λ o. ordering_then o (slice_cmp nat_cmp ys xs)) (greater_number y a h)

-- two tests answer alike for the numbers from a on, below b
abbrev pub SameWithin : (ℕ → Bool) → (ℕ → Bool) → ℕ → ℕ → Type 0
SameWithin f g a b = (d : ℕ) → a ≤ d → d < b → f d ≡ g d

same_more : (f g : ℕ → Bool) (a b : ℕ) → f a ≡ g a → SameWithin f g (a + 1) b → SameWithin f g a b
same_more f g a b e h d l k = elim (cases_eq d a) [ inl s ↦ ap f s ∙ (e ∙ ap g (sym s)) | inr ne ↦ h d (omega arith) k ]

compare_one : (Rest : Type 0) (b c : Bool) (a : ℕ) (xs ys : List ℕ) → (b ≡ c → length ys ≡ length xs → Rest ⊎ (slice_cmp nat_cmp ys xs ≡ Greater))
    → (c ≡ true → b ≡ true) → BeginsAbove a ys → length (cond c (a ∷ ys) ys) ≡ length (cond b (a ∷ xs) xs)
    → ((b ≡ c) × Rest) ⊎ (slice_cmp nat_cmp (cond c (a ∷ ys) ys) (cond b (a ∷ xs) xs) ≡ Greater)
compare_one Rest true true a xs ys later h l n =
    elim (later refl (omega (arith, n))) [
      | inl r ↦ inl (refl, r)
      | inr g ↦ inr (ap (λ o. ordering_then o (slice_cmp nat_cmp ys xs)) (same_number a) ∙ g)
    ]
compare_one Rest true false a xs ys later h l n = inr (above a xs ys l n)
compare_one Rest false true a xs ys later h l n = absurd (true≢false (sym (h refl)))
compare_one Rest false false a xs ys later h l n = elim (later refl n) [ inl r ↦ inl (refl, r) | inr g ↦ inr g ]

-- Of two tests that as many numbers pass, where at the first difference the first one passes, the second one's numbers
-- are greater; or there is no difference.
compare_passing : (f g : ℕ → Bool) (a k : ℕ) → ((d : ℕ) → a ≤ d → d < a + k → SameWithin f g a d → g d ≡ true → f d ≡ true)
    → length (filter g (range_with_len a k)) ≡ length (filter f (range_with_len a k))
    → SameWithin f g a (a + k) ⊎ (slice_cmp nat_cmp (filter g (range_with_len a k)) (filter f (range_with_len a k)) ≡ Greater)
compare_passing f g a zero h n = inl (λ d l m. absurd (omega arith))
compare_passing f g a (suc k) h n =
    elim (compare_one (SameWithin f g (a + 1) (a + 1 + k)) (f a) (g a) a (filter f (range_with_len (a + 1) k)) (filter g (range_with_len (a + 1) k))
    (λ same m. compare_passing f g (a + 1) k (λ d l b s. h d (omega arith) (omega arith) (same_more f g a d same s)) m)
    (h a (omega arith) (omega arith) (λ d l m. absurd (omega arith)))
    (begins_above g a (a + 1) k (omega arith)) n) [
      | inl r ↦ inl (λ d l m. same_more f g a (a + suc k) r.0 (λ e x y. r.1 e x (omega arith)) d l m)
      | inr greater ↦ inr greater
    ]

filter-same : (f g : ℕ → Bool) (a k : ℕ) → SameWithin f g a (a + k) → filter f (range_with_len a k) ≡ filter g (range_with_len a k)
filter-same f g a zero h = refl
filter-same f g a (suc k) h =
    ap (λ b. cond b (a ∷ filter f (range_with_len (a + 1) k)) (filter f (range_with_len (a + 1) k))) (h a (omega arith) (omega arith))
    ∙ ap (λ xs. cond (g a) (a ∷ xs) xs) (filter-same f g (a + 1) k (λ d l m. h d (omega arith) (omega arith)))

equal_less : Equal ≡ Less → ⊥
equal_less e = cc

greater_less : Greater ≡ Less → ⊥
greater_less e = cc

-- lists of rows, where the first row that is not the same is greater
compare_rows : (x y : ℕ → List ℕ) (Same : ℕ → Type 0) (i k : ℕ) → ((r : ℕ) → Same r → slice_cmp nat_cmp (y r) (x r) ≡ Equal)
    → ((r : ℕ) → i ≤ r → r < i + k → ((q : ℕ) → i ≤ q → q < r → Same q) → Same r ⊎ (slice_cmp nat_cmp (y r) (x r) ≡ Greater))
    → slice_cmp (slice_cmp nat_cmp) (map y (range_with_len i k)) (map x (range_with_len i k)) ≡ Less → ⊥
compare_rows x y Same i zero equal h less = equal_less less
compare_rows x y Same i (suc k) equal h less =
    let then : Ordering → Ordering = λ o. ordering_then o (slice_cmp (slice_cmp nat_cmp) (map y (range_with_len (i + 1) k)) (map x (range_with_len (i + 1) k))) in
    elim (h i (omega arith) (omega arith) (λ q l m. absurd (omega arith))) [
      | inl same ↦ compare_rows x y Same (i + 1) k equal
          (λ r l m before. h r (omega arith) (omega arith) (λ q ql qm. elim (cases_eq q i) [ inl e ↦ subst Same (sym e) same | inr ne ↦ before q (omega arith) qm ]))
          (sym (ap then (equal i same)) ∙ less)
      | inr greater ↦ greater_less (sym (ap then greater) ∙ less)
    ]

-- The rows of assignments.

map_same : (xs : List ℕ) → map (λ x. x) xs ≡ xs
map_same [] = refl
map_same (x ∷ xs) = ap (λ ys. x ∷ ys) (map_same xs)

pub numbers_range : (n : ℕ) → numbers_below n ≡ range_with_len 0 n
numbers_range n = sym (map_same (numbers_below n)) ∙ (map-numbers_below (λ x. x) n ∙ map_same (range_with_len 0 n))

-- whether a reviewer has the proposal at a distance
abbrev pub has_at : ℕ → Pairs → ℕ → ℕ → Bool
has_at n pairs r d = pairs r (round n (r + 1) d)

distances-range : (s : Setting) (pairs : Pairs) (r : ℕ) → distances s pairs r ≡ filter (has_at (size s) pairs r) (range_with_len 0 (size s))
unfolding distances
distances-range s pairs r = ap (filter (has_at (size s) pairs r)) (numbers_range (size s))

rows-range : (s : Setting) (pairs : Pairs) → distance_rows s pairs ≡ map (distances s pairs) (range_with_len 0 (size s))
unfolding distance_rows
rows-range s pairs = ap (map (distances s pairs)) (numbers_range (size s))

-- a reviewer has as many distances as proposals
pub count_at : (n : ℕ) (pairs : Pairs) (r : ℕ) → r < n → count_below (has_at n pairs r) n ≡ count_below (pairs r) n
count_at n pairs r l =
    count_below-sum (has_at n pairs r) n
    ∙ (sum_below-round (λ p. one_if (pairs r p)) n (r + 1) (omega arith) ∙ sym (count_below-sum (pairs r) n))

length-passing : (s : Setting) (pairs : Pairs) (r : ℕ) → IsTrue (is_valid s pairs) → r < size s
    → length (filter (has_at (size s) pairs r) (range_with_len 0 (size s))) ≡ need s r
length-passing s pairs r h l =
    let n = size s in
    ap (λ xs. length (filter (has_at n pairs r) xs)) (sym (numbers_range n))
    ∙ (length-filter (has_at n pairs r) (numbers_below n)
    ∙ (count_by-numbers_below (has_at n pairs r) n ∙ (count_at n pairs r l ∙ (is_valid-each s pairs h).owed r l)))

-- rows that are the same at each distance are the same at each place
pub same_row_at : (n : ℕ) (a b : Pairs) (r : ℕ) → r < n → ((d : ℕ) → d < n → has_at n a r d ≡ has_at n b r d) → (p : ℕ) → p < n → a r p ≡ b r p
same_row_at n a b r rl h p pl =
    let e = round-distance n r p rl pl in
    ap (a r) (sym e) ∙ (h (distance n r p) (distance-below n r p (omega arith)) ∙ ap (b r) e)

-- None comes before an assignment that has the pair wherever another one with the same pairs before it has it.
pub none_before : (s : Setting) (a b : Pairs) → IsTrue (is_valid s a) → IsTrue (is_valid s b)
    → ((r d : ℕ) → r < size s → d < size s → ((i p : ℕ) → i < r → p < size s → a i p ≡ b i p)
    → ((e : ℕ) → e < d → has_at (size s) a r e ≡ has_at (size s) b r e) → has_at (size s) b r d ≡ true → has_at (size s) a r d ≡ true)
    → ComesBefore s b a → ⊥
none_before s a b av bv h less =
    let n = size s in
    let rows = ap (λ xs. slice_cmp (slice_cmp nat_cmp) xs (distance_rows s a)) (rows-range s b)
    ∙ ap (slice_cmp (slice_cmp nat_cmp) (map (distances s b) (range_with_len 0 n))) (rows-range s a) in
    compare_rows (distances s a) (distances s b) (λ r. (p : ℕ) → p < n → a r p ≡ b r p) 0 n
    (λ r same.
    let alike = filter-same (has_at n b r) (has_at n a r) 0 n (λ d _ l. sym (same (round n (r + 1) d) (round-below n (r + 1) d (omega arith)))) in
    ap (λ xs. slice_cmp nat_cmp xs (distances s a r)) (distances-range s b r ∙ (alike ∙ sym (distances-range s a r))) ∙ same_row (distances s a r))
    (λ r _ l before.
    elim (compare_passing (has_at n a r) (has_at n b r) 0 n
    (λ d _ dl same. h r d (omega arith) (omega arith) (λ i p il. before i (omega arith) il p) (λ e el. same e (omega arith) el))
    (length-passing s b r bv (omega arith) ∙ sym (length-passing s a r av (omega arith)))) [
      | inl same ↦ inl (same_row_at n a b r (omega arith) (λ d dl. same d (omega arith) (omega arith)))
      | inr greater ↦ inr (ap (λ xs. slice_cmp nat_cmp xs (distances s a r)) (distances-range s b r)
          ∙ (ap (slice_cmp nat_cmp (filter (has_at n b r) (range_with_len 0 n))) (distances-range s a r) ∙ greater))
    ])
    (sym rows ∙ less)

-- Equal rows are rows of the same pairs.

behind : List ℕ → List ℕ
behind [] = []
behind (x ∷ xs) = xs

same_one : (b c : Bool) (a : ℕ) (xs ys : List ℕ) → BeginsAbove a xs → BeginsAbove a ys → cond b (a ∷ xs) xs ≡ cond c (a ∷ ys) ys → (b ≡ c) × (xs ≡ ys)
unfolding behind
same_one true true a xs ys h g e = (refl, ap behind e)
same_one true false a xs ys h g e = let low : a < a = subst (BeginsAbove a) (sym e) g in absurd (omega arith)
same_one false true a xs ys h g e = let low : a < a = subst (BeginsAbove a) e h in absurd (omega arith)
same_one false false a xs ys h g e = (refl, e)

same_passing : (f g : ℕ → Bool) (a k : ℕ) → filter f (range_with_len a k) ≡ filter g (range_with_len a k) → SameWithin f g a (a + k)
same_passing f g a zero e = λ d l m. absurd (omega arith)
same_passing f g a (suc k) e =
    let one = same_one (f a) (g a) a (filter f (range_with_len (a + 1) k)) (filter g (range_with_len (a + 1) k))
    (begins_above f a (a + 1) k (omega arith)) (begins_above g a (a + 1) k (omega arith)) e in
    λ d l m. same_more f g a (a + suc k) one.0 (λ i x y. same_passing f g (a + 1) k one.1 i x (omega arith)) d l m

row_at : (s : Setting) (pairs : Pairs) (r : ℕ) → r < size s → get_or (distance_rows s pairs) r [] ≡ distances s pairs r
unfolding distance_rows
row_at s pairs r l =
    get_or-map (distances s pairs) (numbers_below (size s)) r 0 [] (omega (arith, length-numbers_below (size s)))
    ∙ ap (distances s pairs) (get_or-numbers_below (size s) r 0 l)

same_rows : (s : Setting) (a b : Pairs) → distance_rows s a ≡ distance_rows s b → (r p : ℕ) → r < size s → p < size s → a r p ≡ b r p
same_rows s a b e r p rl pl =
    let n = size s in
    let row = sym (row_at s a r rl) ∙ (ap (λ xs. get_or xs r []) e ∙ row_at s b r rl) in
    let same = same_passing (has_at n a r) (has_at n b r) 0 n (sym (distances-range s a r) ∙ (row ∙ distances-range s b r)) in
    same_row_at n a b r rl (λ d dl. same d (omega arith) (omega arith)) p pl

by_order : (o : Ordering) → (o ≡ Less → ⊥) → (ordering_reverse o ≡ Less → ⊥) → o ≡ Equal
by_order Less h g = absurd (h refl)
by_order Equal h g = refl
by_order Greater h g = absurd (g refl)

-- there is at most one first assignment
pub first-determined : (s : Setting) (a b : Pairs) → IsFirst s a → IsFirst s b → (r p : ℕ) → r < size s → p < size s → a r p ≡ b r p
first-determined s a b x y =
    let order = slice_cmp (slice_cmp nat_cmp) (distance_rows s a) (distance_rows s b) in
    let turned = (lists_total (lists_total nat_cmp_total)).antisymm (distance_rows s b) (distance_rows s a) in
    same_rows s a b (slice_cmp-IsAntisymmetric (slice_cmp-IsAntisymmetric nat_cmp-IsAntisymmetric) (distance_rows s a) (distance_rows s b)
    (by_order order (y.least a x.valid) (λ e. x.least b y.valid (turned ∙ e))))
