use Rattle.std.proofs.Common.{◌≡◌, ℕ, suc, ◌+◌, ◌-◌, ◌<◌, ◌≤◌, Bool, true, false, not, ◌&&◌, ◌||◌, ◌==◌, ap, ◌∙◌, inl, inr, arith}
use Rattle.std.proofs.lemmas.Bool.{cases_lt, and_from, and_cases, and_left, and_right}
use Rattle.house_base.specs.Setting.{Setting, size, need, may}
use Rattle.peer_selection.specs.Counting.{count_below, all_below}
use Rattle.peer_selection.specs.Profile.{is_valid}
use Rattle.peer_selection.proofs.CountingLemmas.{all_below-suc, all_below-same, all_below-fails, all_below-each, all_below-from, count_below-append, count_below-none, count_below-passes, count_below-fails, count_below-same}

-- Steps of the tests and counts of an assignment.

pub all_more : (test : ℕ → Bool) (n : ℕ) → all_below test n ≡ true → test n ≡ true → all_below test (n + 1) ≡ true
all_more test n before here =
    ap (all_below test) (let e : n + 1 ≡ suc n = omega arith in e) ∙ (all_below-suc test n ∙ and_from (all_below test n) (test n) before here)

pub count_passes : (test : ℕ → Bool) (n : ℕ) → test n ≡ true → count_below test (n + 1) ≡ count_below test n + 1
count_passes test n h = omega (arith, ap (count_below test) (let e : n + 1 ≡ suc n = omega arith in e), count_below-passes test n h)

pub count_fails : (test : ℕ → Bool) (n : ℕ) → test n ≡ false → count_below test (n + 1) ≡ count_below test n
count_fails test n h = omega (arith, ap (count_below test) (let e : n + 1 ≡ suc n = omega arith in e), count_below-fails test n h)

-- Many steps at once, over numbers that pass or that fail.

pub all_run : (test : ℕ → Bool) (m n : ℕ) → all_below test m ≡ true → ((i : ℕ) → m ≤ i → i < n → test i ≡ true) → all_below test n ≡ true
all_run test m n before run =
    all_below-from test n (λ i l. elim (cases_lt i m) [ inl early ↦ all_below-each test m before i early | inr late ↦ run i late l ])

pub count_run : (test : ℕ → Bool) (m n : ℕ) → m ≤ n → ((i : ℕ) → m ≤ i → i < n → test i ≡ false) → count_below test n ≡ count_below test m
count_run test m n l run =
    omega (
      arith,
      ap (count_below test) (let e : n ≡ m + (n - m) = omega arith in e),
      count_below-append test m (n - m),
      count_below-none (λ i. test (m + i)) (n - m) (λ i il. run (m + i) (omega arith) (omega (arith, il, l))),
    )

-- An assignment is valid by its rows and the counts of its columns.

pub is_valid-row_fails : (s : Setting) (f : ℕ → ℕ → Bool) (row : ℕ) → row < size s
    → (all_below (λ p. not (f row p) || may s row p) (size s) && count_below (f row) (size s) == need s row) ≡ false → is_valid s f ≡ false
unfolding is_valid
is_valid-row_fails s f row below h =
    let may_be = all_below (λ r. all_below (λ p. not (f r p) || may s r p) (size s)) (size s) in
    let needs = all_below (λ r. count_below (f r) (size s) == need s r) (size s) in
    let reviews = all_below (λ p. count_below (λ r. f r p) (size s) == s.reviews) (size s) in
    elim (and_cases (all_below (λ p. not (f row p) || may s row p) (size s)) (count_below (f row) (size s) == need s row) h) [
      | inl bars ↦ and_left (may_be && needs) reviews (and_left may_be needs (all_below-fails _ row (size s) below bars))
      | inr differs ↦ and_left (may_be && needs) reviews (and_right may_be needs (all_below-fails _ row (size s) below differs))
    ]

pub is_valid-rows_hold : (s : Setting) (f : ℕ → ℕ → Bool) → all_below (λ r. all_below (λ p. not (f r p) || may s r p) (size s)) (size s) ≡ true
    → all_below (λ r. count_below (f r) (size s) == need s r) (size s) ≡ true → is_valid s f ≡ all_below (λ p. count_below (λ r. f r p) (size s) == s.reviews) (size s)
unfolding is_valid
is_valid-rows_hold s f may_be needs =
    let reviews = all_below (λ p. count_below (λ r. f r p) (size s) == s.reviews) (size s) in
    ap (λ b. b && all_below (λ r. count_below (f r) (size s) == need s r) (size s) && reviews) may_be ∙ ap (λ b. b && reviews) needs

-- An assignment is valid by its pairs below the number of applicants alone.

pub is_valid-agree : (s : Setting) (f g : ℕ → ℕ → Bool) → ((r p : ℕ) → r < size s → p < size s → f r p ≡ g r p) → is_valid s f ≡ is_valid s g
unfolding is_valid
is_valid-agree s f g h =
    let may_be = all_below-same (λ r. all_below (λ p. not (f r p) || may s r p) (size s)) (λ r. all_below (λ p. not (g r p) || may s r p) (size s)) (size s)
    (λ r rl. all_below-same (λ p. not (f r p) || may s r p) (λ p. not (g r p) || may s r p) (size s) (λ p pl. ap (λ b. not b || may s r p) (h r p rl pl))) in
    let needs = all_below-same (λ r. count_below (f r) (size s) == need s r) (λ r. count_below (g r) (size s) == need s r) (size s)
    (λ r rl. ap (λ k. k == need s r) (count_below-same (f r) (g r) (size s) (λ p pl. h r p rl pl))) in
    let reviews = all_below-same (λ p. count_below (λ r. f r p) (size s) == s.reviews) (λ p. count_below (λ r. g r p) (size s) == s.reviews) (size s)
    (λ p pl. ap (λ k. k == s.reviews) (count_below-same (λ r. f r p) (λ r. g r p) (size s) (λ r rl. h r p rl pl))) in
    ap (λ b. b && all_below (λ r. count_below (f r) (size s) == need s r) (size s) && all_below (λ p. count_below (λ r. f r p) (size s) == s.reviews) (size s)) may_be
    ∙ (ap (λ b. all_below (λ r. all_below (λ p. not (g r p) || may s r p) (size s)) (size s) && b && all_below (λ p. count_below (λ r. f r p) (size s) == s.reviews) (size s)) needs
    ∙ ap (λ b. all_below (λ r. all_below (λ p. not (g r p) || may s r p) (size s)) (size s) && all_below (λ r. count_below (g r) (size s) == need s r) (size s) && b) reviews)
