use Rattle.std.proofs.Common.{◌≡◌, ℕ, zero, suc, ◌+◌, ◌<◌, ◌≤◌, ◌≢◌, Bool, true, false, ◌&&◌, min, ltb, eqb, ◌⊎◌, refl, sym, ap, ◌∙◌, inl, inr, arith}
use Rattle.std.proofs.lemmas.Bool.{and_parts, and_from, and_right, cases_lt, lt-ltb, le-ltb, cases_Bool, cases_eq, eqb-true}
use Rattle.std.proofs.lemmas.Bool.Decides.{nat_tests}
use Rattle.peer_selection.specs.Counting.{count_below, sum_below}
use Rattle.peer_selection.proofs.CountingLemmas.{one_if, count_below-le, count_below-all, count_below-none, count_below-passes, count_below-fails, count_below-more, count_below-mono, count_below-same, count_below-split, sum_below-zero, sum_below-suc, sum_below-le}

-- Counting along a strict order: of the numbers below n, just m have fewer than m before them.

pub record IsStrictOrder (before : ℕ → ℕ → Bool) (n : ℕ) : Type 0 where
  pub irreflexive : (i : ℕ) → i < n → before i i ≡ false
  pub transitive : (i j k : ℕ) → i < n → j < n → k < n → before i j ≡ true → before j k ≡ true → before i k ≡ true
  pub total : (i j : ℕ) → i < n → j < n → i ≢ j → (before i j ≡ true) ⊎ (before j i ≡ true)

-- how many members below n come before a number
abbrev pub number_before : (ℕ → Bool) → (ℕ → ℕ → Bool) → ℕ → ℕ → ℕ
number_before member before n i = count_below (λ j. member j && before j i) n

pub number_before-less : (member : ℕ → Bool) (before : ℕ → ℕ → Bool) (n i k : ℕ) → IsStrictOrder before n → i < n → k < n → member i ≡ true → before i k ≡ true
    → number_before member before n i < number_before member before n k
number_before-less member before n i k o il kl mi h =
    count_below-more (λ j. member j && before j i) (λ j. member j && before j k) n i
    (λ j jl b. let both = and_parts (member j) (before j i) b in and_from (member j) (before j k) both.0 (o.transitive j i k jl il kl both.1 h)) il
    (and_right (member i) (before i i) (o.irreflexive i il)) (and_from (member i) (before i k) mi h)

-- a member has fewer members before it than there are
pub number_before-below : (member : ℕ → Bool) (before : ℕ → ℕ → Bool) (n i : ℕ) → IsStrictOrder before n → i < n → member i ≡ true → number_before member before n i < count_below member n
number_before-below member before n i o il mi =
    count_below-more (λ j. member j && before j i) member n i (λ j jl b. (and_parts (member j) (before j i) b).0) il (and_right (member i) (before i i) (o.irreflexive i il)) mi

-- two members with as many before them are one
pub number_before-apart : (member : ℕ → Bool) (before : ℕ → ℕ → Bool) (n i k : ℕ) → IsStrictOrder before n → i < n → k < n → member i ≡ true → member k ≡ true
    → number_before member before n i ≡ number_before member before n k → i ≡ k
number_before-apart member before n i k o il kl mi mk e =
    elim (cases_eq i k) [
      | inl same ↦ same
      | inr ne ↦ elim (o.total i k il kl ne) [
        | inl h ↦ absurd (omega (arith, number_before-less member before n i k o il kl mi h))
        | inr h ↦ absurd (omega (arith, number_before-less member before n k i o kl il mk h))
      ]
    ]

-- a test that no two numbers pass counts at most 1
pub count_below-one : (test : ℕ → Bool) (n : ℕ) → ((i k : ℕ) → i < n → k < n → test i ≡ true → test k ≡ true → i ≡ k) → count_below test n ≤ 1
count_below-one test zero h = omega (arith, count_below-le test 0)
count_below-one test (suc n) h =
    elim (cases_Bool (test n)) [
      | inl passes ↦ omega (
        arith,
        count_below-passes test n passes,
        count_below-none test n (λ i l. elim (cases_Bool (test i)) [
          | inl too ↦ absurd (let e : i ≡ n = h i n (omega arith) (omega arith) too passes in omega arith)
          | inr fails ↦ fails
        ]),
      )
      | inr fails ↦ omega (arith, count_below-fails test n fails, count_below-one test n (λ i k il kl. h i k (omega arith) (omega arith)))
    ]

-- terms of at most 1 that sum to their number are all 1
pub sum_below-full : (f : ℕ → ℕ) (m n : ℕ) → ((i : ℕ) → f i ≤ 1) → sum_below f n ≡ n → m ≤ n → sum_below f m ≡ m
sum_below-full f m zero h e l = let none : m ≡ 0 = omega arith in ap (sum_below f) none ∙ (sum_below-zero f ∙ sym none)
sum_below-full f m (suc n) h e l =
    elim (cases_eq m (suc n)) [
      | inl same ↦ ap (sum_below f) same ∙ (e ∙ sym same)
      | inr ne ↦ sum_below-full f m n h (omega (arith, sum_below-suc f n, h n, sum_below-le f 1 n (λ i _. h i))) (omega arith)
    ]

below_all : (member : Bool) (x n : ℕ) → (member ≡ true → x < n) → (member && ltb x n) ≡ member
below_all true x n h = lt-ltb x n (h refl)
below_all false x n h = refl

wider : (member : Bool) (x m n : ℕ) → m < n → (member && ltb x m) ≡ true → (member && ltb x n) ≡ true
wider member x m n l h = grind (arith, nat_tests)

one_more : (member : Bool) (x m : ℕ) → one_if (member && ltb x (suc m)) ≡ one_if (member && ltb x m) + one_if (member && eqb x m)
one_more member x m = grind (arith, nat_tests)

-- the members of a rank below m, rank by rank
by_rank : (member : ℕ → Bool) (rank : ℕ → ℕ) (n m : ℕ) → count_below (λ i. member i && ltb (rank i) m) n ≡ sum_below (λ r. count_below (λ i. member i && eqb (rank i) r) n) m
by_rank member rank n zero =
    count_below-none (λ i. member i && ltb (rank i) 0) n (λ i l. and_right (member i) (ltb (rank i) 0) (le-ltb (rank i) 0 (omega arith)))
    ∙ sym (sum_below-zero (λ r. count_below (λ i. member i && eqb (rank i) r) n))
by_rank member rank n (suc m) =
    omega (
      arith,
      count_below-split (λ i. member i && ltb (rank i) (suc m)) (λ i. member i && ltb (rank i) m) (λ i. member i && eqb (rank i) m) n (λ i l. one_more (member i) (rank i) m),
      sum_below-suc (λ r. count_below (λ i. member i && eqb (rank i) r) n) m,
      by_rank member rank n m,
    )

-- as many members have fewer than m members before them as m says, while there are that many
pub count_below-first_members : (member : ℕ → Bool) (before : ℕ → ℕ → Bool) (n m : ℕ) → IsStrictOrder before n → count_below (λ i. member i && ltb (number_before member before n i) m) n ≡ min m (count_below member n)
count_below-first_members member before n m o =
    let rank = number_before member before n in
    let size = count_below member n in
    let of_rank = λ (r : ℕ). count_below (λ i. member i && eqb (rank i) r) n in
    let at_most_one = λ (r : ℕ). count_below-one (λ i. member i && eqb (rank i) r) n (λ i k il kl a b.
    let mi = and_parts (member i) (eqb (rank i) r) a in
    let mk = and_parts (member k) (eqb (rank k) r) b in
    number_before-apart member before n i k o il kl mi.0 mk.0 (eqb-true (rank i) r mi.1 ∙ sym (eqb-true (rank k) r mk.1))) in
    let all = count_below-same (λ i. member i && ltb (rank i) size) member n (λ i il. below_all (member i) (rank i) size (number_before-below member before n i o il)) in
    elim (cases_lt size m) [
      | inl more ↦
          let most = count_below-mono (λ i. member i && ltb (rank i) m) member n (λ i il h. (and_parts (member i) (ltb (rank i) m) h).0) in
          let least = count_below-mono (λ i. member i && ltb (rank i) size) (λ i. member i && ltb (rank i) m) n (λ i il h. wider (member i) (rank i) size m more h) in
          omega (arith, most, least, all)
      | inr few ↦ omega (arith, by_rank member rank n m, sum_below-full of_rank m size at_most_one (sym (by_rank member rank n size) ∙ all) few)
    ]

-- just m of the numbers below n have fewer than m before them
pub count_below-first : (before : ℕ → ℕ → Bool) (n m : ℕ) → IsStrictOrder before n → m ≤ n → count_below (λ i. ltb (count_below (λ j. before j i) n) m) n ≡ m
count_below-first before n m o l =
    omega (arith, count_below-first_members (λ i. true) before n m o, count_below-all (λ i. true) n (λ i il. refl))
