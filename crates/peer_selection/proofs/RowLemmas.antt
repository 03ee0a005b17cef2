use Rattle.std.proofs.Common.{◌≡◌, ℕ, zero, suc, ◌+◌, ◌-◌, ◌%◌, ◌<◌, ◌≤◌, ◌≢◌, Bool, true, false, cond, eqb, List, [], ◌∷◌, length, map, filter, get_or, Option, Some, None, ◌⊎◌, refl, sym, ap, ◌∙◌, inl, inr, arith, zero-add, length-append}
use Rattle.std.specs.List.{All, AllByRecursion, AllPairs, IsDistinct, position_from}
use Rattle.std.specs.Option.{option_map_or}
use Rattle.std.proofs.lemmas.Bool.{cases_lt, cond-true, cond-false, eqb-true, eq-eqb, ne_eqb}
use Rattle.std.proofs.lemmas.Bool.Decides.{Decides-eqb, nat_tests}
use Rattle.std.proofs.lemmas.List.{get_or-map, map-append, length-map}
use Rattle.std.proofs.lemmas.List.Elements.{All-filter, All-map, recursion_from_All, filter-append}
use Rattle.std.proofs.lemmas.List.Kept.{AllPairs-filter}
use Rattle.std.proofs.lemmas.Map.Keys.{IsDistinct-head, IsDistinct-tail}
use Rattle.std.proofs.lemmas.Map.Made.{IsDistinct-from_AllPairs}
use Rattle.std.proofs.lemmas.Iterator.Adapters.{position_from-zero}
use Rattle.std.proofs.Math.Nat.{mod-eq_of_lt, mod-eq-sub-mod, mod-lt}
use Rattle.house_base.specs.declared.limits.TheConstants.{DOLLAR}
use Rattle.house_base.specs.Setting.{size}
use Rattle.peer_selection.specs.Counting.{count_below, sum_below, numbers_below}
use Rattle.peer_selection.specs.Profile.{Profile, row, row_points, cents}
use Rattle.peer_selection.specs.Split.{cents_at}
use Rattle.peer_selection.proofs.CountingLemmas.{one_if, count_below-zero, count_below-suc, count_below-sum, sum_below-zero, sum_below-none, sum_below-only, sum_below-same, sum_below-plus, sum_below-first, sum_below-append, numbers_below-suc, length-numbers_below, get_or-numbers_below}
use Rattle.peer_selection.proofs.SplitLemmas.{cents-sum}

-- The row of a reviewer: each proposal that it reviews stands in it once.

-- a place so many places on, round n places
abbrev pub round : ℕ → ℕ → ℕ → ℕ
round n a d = (a + d) % n

-- it is that many on, or that less a whole round
pub round_cases : (n a d : ℕ) → a ≤ n → d < n → ((round n a d ≡ a + d) × (a + d < n)) ⊎ ((round n a d + n ≡ a + d) × (n ≤ a + d))
round_cases n a d h l =
    elim (cases_lt (a + d) n) [
      | inl below ↦ inl (mod-eq_of_lt below, below)
      | inr past ↦ inr (let e = mod-eq-sub-mod {n = a + d} {m = n} past ∙ mod-eq_of_lt (let low : a + d - n < n = omega arith in low) in omega (arith, e), past)
    ]

pub round-below : (n a d : ℕ) → d < n → round n a d < n
round-below n a d l = mod-lt (a + d) (omega arith)

-- two places as far on are one
pub round-apart : (n a i j : ℕ) → a ≤ n → i < n → j < n → round n a i ≡ round n a j → i ≡ j
round-apart n a i j h il jl e =
    elim (round_cases n a i h il) [
      | inl x ↦ elim (round_cases n a j h jl) [ inl y ↦ omega (arith, e, x.0, y.0) | inr y ↦ absurd (omega (arith, e, x.0, x.1, y.0)) ]
      | inr x ↦ elim (round_cases n a j h jl) [ inl y ↦ absurd (omega (arith, e, x.0, y.0, y.1)) | inr y ↦ omega (arith, e, x.0, y.0) ]
    ]

-- a sum goes round: each place comes once
pub sum_below-round : (g : ℕ → ℕ) (n a : ℕ) → a ≤ n → sum_below (λ d. g (round n a d)) n ≡ sum_below g n
sum_below-round g n a h =
    let b = n - a in
    let turned = sum_below-append (λ d. g (round n a d)) b a in
    let straight = sum_below-append g a b in
    let front = sum_below-same (λ d. g (round n a d)) (λ d. g (a + d)) b (λ d l. ap g (mod-eq_of_lt (let low : a + d < n = omega arith in low))) in
    let back = sum_below-same (λ i. g (round n a (b + i))) g a (λ i l. ap g (elim (round_cases n a (b + i) h (omega arith)) [
      | inl x ↦ absurd (omega (arith, x.1))
      | inr x ↦ omega (arith, x.0)
    ])) in
    let whole = ap (sum_below (λ d. g (round n a d))) (let e : b + a ≡ n = omega arith in e) in
    let again = ap (sum_below g) (let e : a + b ≡ n = omega arith in e) in
    omega (arith, turned, straight, front, back, whole, again)

numbers_below-zero : numbers_below 0 ≡ []
unfolding numbers_below
numbers_below-zero = refl

length_one : (b : Bool) (x : ℕ) → length (cond b (x ∷ []) []) ≡ one_if b
length_one true x = refl
length_one false x = refl

-- how many of these places pass
passing : (test : ℕ → Bool) (at : ℕ → ℕ) (n : ℕ) → length (filter test (map at (numbers_below n))) ≡ count_below (λ d. test (at d)) n
passing test at zero = ap (λ xs. length (filter test (map at xs))) numbers_below-zero ∙ sym (count_below-zero (λ d. test (at d)))
passing test at (suc n) =
    let apart = ap (λ xs. length (filter test (map at xs))) (numbers_below-suc n)
    ∙ (ap (λ xs. length (filter test xs)) (map-append at (numbers_below n) (n ∷ []))
    ∙ (ap length (filter-append test (map at (numbers_below n)) (at n ∷ []))
    ∙ length-append (filter test (map at (numbers_below n))) (filter test (at n ∷ [])))) in
    omega (arith, apart, length_one (test (at n)) (at n), count_below-suc (λ d. test (at d)) n, passing test at n)

pick : (b : Bool) (o : Option ℕ) (c : ℕ → ℕ) (k : ℕ) → (b ≡ true → o ≡ None) → option_map_or c (cond b (Some k) o) 0 ≡ cond b (c k) 0 + option_map_or c o 0
pick true o c k h = omega (arith, ap (λ r. option_map_or c r 0) (h refl))
pick false o c k h = omega arith

eqb_turned : (x y : ℕ) → eqb x y ≡ false → eqb y x ≡ false
eqb_turned x y h = grind (arith, nat_tests)

not_among : (x k : ℕ) (xs : List ℕ) → AllByRecursion (λ y. eqb x y ≡ false) xs → position_from (λ q. eqb q x) k xs ≡ None
not_among x k [] h = refl
not_among x k (y ∷ ys) h = cond-false (eqb y x) (Some k) (position_from (λ q. eqb q x) (k + 1) ys) (eqb_turned x y h.0) ∙ not_among x (k + 1) ys h.1

-- a list of different numbers below n gives each of its indices once
pub sum_below-positions : (c : ℕ → ℕ) (k n : ℕ) (xs : List ℕ) → IsDistinct eqb xs → AllByRecursion (λ x. x < n) xs
    → sum_below (λ p. option_map_or c (position_from (λ q. eqb q p) k xs) 0) n ≡ sum_below (λ i. c (k + i)) (length xs)
sum_below-positions c k n [] d b =
    sum_below-none (λ p. option_map_or c (position_from (λ q. eqb q p) k []) 0) n (λ p l. refl) ∙ sym (sum_below-zero (λ i. c (k + i)))
sum_below-positions c k n (x ∷ xs) d b =
    let here = λ (p : ℕ). cond (eqb x p) (c k) 0 in
    let later = λ (p : ℕ). option_map_or c (position_from (λ q. eqb q p) (k + 1) xs) 0 in
    let each = sum_below-same (λ p. option_map_or c (position_from (λ q. eqb q p) k (x ∷ xs)) 0) (λ p. cond (eqb x p) (c k) 0 + option_map_or c (position_from (λ q. eqb q p) (k + 1) xs) 0) n
    (λ p l. pick (eqb x p) (position_from (λ q. eqb q p) (k + 1) xs) c k
    (λ e. ap (λ y. position_from (λ q. eqb q y) (k + 1) xs) (sym (eqb-true x p e)) ∙ not_among x (k + 1) xs (IsDistinct-head eqb x xs d))) in
    let parts = sum_below-plus here later n in
    let one = sum_below-only here n x b.0 (λ i l ne. cond-false (eqb x i) (c k) 0 (ne_eqb x i (λ e. ne (sym e)))) ∙ cond-true (eqb x x) (c k) 0 (eq-eqb x x refl) in
    let rest = sum_below-positions c (k + 1) n xs (IsDistinct-tail eqb x xs d) b.1 in
    let first = sum_below-first (λ i. c (k + i)) (length xs) in
    let shifted = sum_below-same (λ i. c (k + suc i)) (λ i. c (k + 1 + i)) (length xs) (λ i l. ap c (let e : k + suc i ≡ k + 1 + i = omega arith in e)) in
    let start = ap c (let e : k + 0 ≡ k = omega arith in e) in
    omega (arith, each, parts, one, rest, first, shifted, start)

-- The places round a reviewer, and its row among them.

places_apart : (n a : ℕ) → a ≤ n → AllPairs (λ x y. x ≢ y) (map (round n a) (numbers_below n))
places_apart n a h i j d ij jl e =
    let whole = length-numbers_below n in
    let mapped = length-map (numbers_below n) (round n a) in
    let jn : j < n = omega (arith, mapped, whole) in
    let il : i < length (numbers_below n) = omega (arith, whole) in
    let jl' : j < length (numbers_below n) = omega (arith, whole) in
    let at_i = get_or-map (round n a) (numbers_below n) i 0 d il ∙ ap (round n a) (get_or-numbers_below n i 0 (omega arith)) in
    let at_j = get_or-map (round n a) (numbers_below n) j 0 d jl' ∙ ap (round n a) (get_or-numbers_below n j 0 jn) in
    let same = round-apart n a i j h (omega arith) jn (sym at_i ∙ (e ∙ at_j)) in
    omega (arith, same)

-- no proposal stands in a row twice
pub row-distinct : (f : Profile) (r : ℕ) → r < size f.setting → IsDistinct eqb (row f r)
unfolding row
row-distinct f r l =
    IsDistinct-from_AllPairs Decides-eqb (row f r)
    (AllPairs-filter (λ x y. x ≢ y) (f.pairs r) (map (round (size f.setting) (r + 1)) (numbers_below (size f.setting))) (places_apart (size f.setting) (r + 1) (omega arith)))

-- each is an applicant's place
pub row-below : (f : Profile) (r : ℕ) → r < size f.setting → All (λ p. p < size f.setting) (row f r)
unfolding row
row-below f r l =
    All-filter (f.pairs r) (λ p. p < size f.setting) (map (round (size f.setting) (r + 1)) (numbers_below (size f.setting)))
    (All-map (λ p. p < size f.setting) (round (size f.setting) (r + 1)) (numbers_below (size f.setting)) (λ k d kl. mod-lt (r + 1 + get_or (numbers_below (size f.setting)) k d) (omega arith)))

-- there are as many as the reviewer has pairs
pub length-row : (f : Profile) (r : ℕ) → r < size f.setting → length (row f r) ≡ count_below (f.pairs r) (size f.setting)
unfolding row
length-row f r l =
    let n = size f.setting in
    passing (f.pairs r) (round n (r + 1)) n
    ∙ (count_below-sum (λ d. f.pairs r (round n (r + 1) d)) n
    ∙ (sum_below-round (λ p. one_if (f.pairs r p)) n (r + 1) (omega arith)
    ∙ sym (count_below-sum (f.pairs r) n)))

pub length-row_points : (f : Profile) (r : ℕ) → length (row_points f r) ≡ length (row f r)
unfolding row_points
length-row_points f r = length-map (row f r) (f.points r)

-- what a reviewer gives to all applicants is what it gives along its row
pub cents-row : (f : Profile) (r : ℕ) → r < size f.setting → sum_below (cents f r) (size f.setting) ≡ sum_below (cents_at (row_points f r)) (length (row_points f r))
unfolding cents
cents-row f r l =
    let n = size f.setting in
    let c = cents_at (row_points f r) in
    let searched = sum_below-same (cents f r) (λ p. option_map_or c (position_from (λ q. eqb q p) 0 (row f r)) 0) n
    (λ p _. ap (λ o. option_map_or c o 0) (position_from-zero (λ q. eqb q p) (row f r))) in
    let once = sum_below-positions c 0 n (row f r) (row-distinct f r l) (recursion_from_All (λ p. p < n) (row f r) (row-below f r l)) in
    let plain = sum_below-same (λ i. c (0 + i)) c (length (row f r)) (λ i _. ap c (zero-add i)) in
    searched ∙ (once ∙ (plain ∙ ap (sum_below c) (sym (length-row_points f r))))

-- a person that reviews some applicant gives its dollar away, whole, and another gives nothing
pub cents-dollar : (f : Profile) (r : ℕ) → r < size f.setting → 0 < count_below (f.pairs r) (size f.setting) → sum_below (cents f r) (size f.setting) ≡ DOLLAR
cents-dollar f r l some = cents-row f r l ∙ cents-sum (row_points f r) (omega (arith, length-row_points f r, length-row f r l))

pub cents-nothing : (f : Profile) (r : ℕ) → r < size f.setting → count_below (f.pairs r) (size f.setting) ≡ 0 → sum_below (cents f r) (size f.setting) ≡ 0
cents-nothing f r l none =
    cents-row f r l ∙ (ap (sum_below (cents_at (row_points f r))) (length-row_points f r ∙ (length-row f r l ∙ none)) ∙ sum_below-zero (cents_at (row_points f r)))
