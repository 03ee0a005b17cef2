use Rattle.std.proofs.Common.{◌≡◌, ◌≢◌, ℕ, ◌+◌, ◌*◌, ◌/◌, ◌%◌, ◌<◌, ◌≤◌, true, false, ◌&&◌, ◌||◌, eqb, ltb, leb, inl, inr, Bool, List, length, map, sum, get_or, set, refl, sym, ap, ◌∙◌, arith, below_more}
use Rattle.std.proofs.lemmas.Bool.{cond-true, cond-false, cases_lt, lt-ltb, le-ltb, ltb-true, le-leb, lt-leb, leb-true}
use Rattle.std.proofs.lemmas.Bool.Decides.{nat_tests}
use Rattle.std.proofs.lemmas.List.{get_or-map, get_or-set_same, get_or-set_other}
use mir.Val.{bool_byte}
use Rattle.house_base.specs.declared.limits.TheConstants.{DOLLAR, MOST_OWN, MOST_REVIEWS}
use Rattle.peer_selection.specs.Counting.{count_below, sum_below}
use Rattle.peer_selection.specs.Split.{weights, base_at, remainder_at, left_over, comes_before, cents_at}
use Rattle.peer_selection.proofs.CountingLemmas.{one_if, count_below-add_one, count_below-same, count_below-mono, count_below-more, sum_below-term, sum_below-same}
use Rattle.peer_selection.proofs.SplitLemmas.{left_over-less, cents-sum, sum_below-items}
use Rattle.dollar_split.specs.Weighed.{is_silent, priority_of, is_among_first, extra_at, count_reaching}

-- Weights and shares.

pub weight-silent : (points : List ℕ) (i : ℕ) → is_silent points ≡ true → i < length points → 1 ≡ get_or (weights points) i 0
unfolding weights
weight-silent points i h l =
    sym (ap (λ ws. get_or ws i 0) (cond-true (is_silent points) (map (λ x. 1) points) points h) ∙ get_or-map (λ x. 1) points i 0 0 l)

pub weight-given : (points : List ℕ) (i : ℕ) → is_silent points ≡ false → get_or points i 0 ≡ get_or (weights points) i 0
unfolding weights
weight-given points i h = sym (ap (λ ws. get_or ws i 0) (cond-false (is_silent points) (map (λ x. 1) points) points h))

pub base-read : (points : List ℕ) (i w total : ℕ) → w ≡ get_or (weights points) i 0 → total ≡ sum (weights points) → DOLLAR * w / total ≡ base_at points i
unfolding base_at
base-read points i w total is together = rw (is, together) refl

pub remainder-read : (points : List ℕ) (i w total : ℕ) → w ≡ get_or (weights points) i 0 → total ≡ sum (weights points) → DOLLAR * w % total ≡ remainder_at points i
unfolding remainder_at
remainder-read points i w total is together = rw (is, together) refl

-- no share is more than the dollar
pub base-less : (points : List ℕ) (i : ℕ) → i < length points → base_at points i ≤ DOLLAR
base-less points i l =
    let left = left_over-less points (omega arith) in
    omega (arith, left.0, sum_below-term (base_at points) i (length points) l)

-- the greater priority is that of the greater remainder, and of equal ones that of the one that stands first
pub priority-order : (own other i j : ℕ) → i < MOST_REVIEWS * MOST_OWN → j < MOST_REVIEWS * MOST_OWN →
    ltb (priority_of own i) (priority_of other j) ≡ (ltb own other || (eqb other own && ltb j i))
priority-order own other i j il jl = grind (arith, nat_tests)

-- one more number, which passes a test or not
pub counted : (test : ℕ → Bool) (n before after : ℕ) (b : Bool) → test n ≡ b → before ≡ count_below test n → after ≡ before + one_if b → after ≡ count_below test (n + 1)
counted test n before after b h e f = omega (arith, count_below-add_one test n, ap one_if h)

-- a truth value as a number
pub truth-counts : (b : Bool) → bool_byte b ≡ one_if b
truth-counts true = refl
truth-counts false = refl

-- a write behind a front that agrees with a function lengthens it
pub set_more : (xs : List ℕ) (i v : ℕ) (f : ℕ → ℕ) → i < length xs → ((k : ℕ) → k < i → get_or xs k 0 ≡ f k) → v ≡ f i → (k : ℕ) → k < i + 1 → get_or (set xs i v) k 0 ≡ f k
set_more xs i v f l h e =
    below_more (λ k. get_or (set xs i v) k 0 ≡ f k) i
    (λ k b. let ne : k ≢ i = omega arith in get_or-set_other xs i k v 0 ne ∙ h k b)
    (get_or-set_same xs i v 0 l ∙ e)

-- ... and leaves what stands behind it
pub set_later : (xs : List ℕ) (i v k : ℕ) → i + 1 ≤ k → get_or (set xs i v) k 0 ≡ get_or xs k 0
set_later xs i v k h = let ne : k ≢ i = omega arith in get_or-set_other xs i k v 0 ne

-- by their priorities the proposals of a split go first as by their remainders
pub among_first-read : (points priorities : List ℕ) (i : ℕ) → length priorities ≡ length points → length points ≤ MOST_REVIEWS * MOST_OWN → i < length points →
    ((k : ℕ) → k < length points → get_or priorities k 0 ≡ priority_of (remainder_at points k) k) →
    is_among_first priorities (left_over points) i ≡ ltb (count_below (λ j. comes_before points j i) (length points)) (left_over points)
unfolding is_among_first comes_before
among_first-read points priorities i same few l h =
    let n = length points in
    let own = get_or priorities i 0 in
    let each = count_below-same (λ j. ltb own (get_or priorities j 0)) (λ j. comes_before points j i) n
    (λ j jl. ap (λ x. ltb own x) (h j jl)
    ∙ (ap (λ x. ltb x (priority_of (remainder_at points j) j)) (h i l)
    ∙ priority-order (remainder_at points i) (remainder_at points j) i j (omega arith) (omega arith))) in
    ap (λ c. ltb c (left_over points)) (ap (count_below (λ j. ltb own (get_or priorities j 0))) same ∙ each)

-- a base with what is left over for it are the cents
pub cents-from : (points priorities : List ℕ) (i base left : ℕ) → length priorities ≡ length points → length points ≤ MOST_REVIEWS * MOST_OWN → i < length points →
    ((k : ℕ) → k < length points → get_or priorities k 0 ≡ priority_of (remainder_at points k) k) →
    base ≡ base_at points i → left ≡ left_over points → base + extra_at priorities left i ≡ cents_at points i
unfolding cents_at
cents-from points priorities i base left same few l h is e =
    ap (λ b. b + extra_at priorities left i) is
    ∙ (ap (λ n. base_at points i + extra_at priorities n i) e
    ∙ ap (λ b. base_at points i + one_if b) (among_first-read points priorities i same few l h))

-- the cents of a split sum to the dollar
pub cents-whole : (points cents : List ℕ) → length points ≡ length cents → 1 ≤ length points →
    ((i : ℕ) → i < length points → get_or cents i 0 ≡ cents_at points i) → sum cents ≡ DOLLAR
cents-whole points cents same some h =
    let n = length points in
    sym (sum_below-items cents)
    ∙ (ap (sum_below (λ i. get_or cents i 0)) (sym same)
    ∙ (sum_below-same (λ i. get_or cents i 0) (cents_at points) n h ∙ cents-sum points some))

-- where so many priorities reach a bound, just those are among the first so many
pub among_first-reaching : (priorities : List ℕ) (left bound i : ℕ) → i < length priorities → count_reaching priorities bound ≡ left
    → leb bound (get_or priorities i 0) ≡ is_among_first priorities left i
unfolding is_among_first
among_first-reaching priorities left bound i below many =
    let p = get_or priorities in
    let greater : ℕ → Bool = λ j. ltb (p i 0) (p j 0) in
    let reaches : ℕ → Bool = λ j. leb bound (p j 0) in
    elim (cases_lt (p i 0) bound) [
      | inl short ↦
          let fewer = count_below-mono reaches greater (length priorities) (λ j l r. lt-ltb (p i 0) (p j 0) (omega (arith, short, leb-true bound (p j 0) r))) in
          lt-leb bound (p i 0) short ∙ sym (le-ltb (count_below greater (length priorities)) left (omega (arith, many, fewer)))
      | inr reached ↦
          let fewer = count_below-more greater reaches (length priorities) i (λ j l g. le-leb bound (p j 0) (omega (arith, reached, ltb-true (p i 0) (p j 0) g))) below
          (le-ltb (p i 0) (p i 0) (omega arith)) (le-leb bound (p i 0) reached) in
          le-leb bound (p i 0) reached ∙ sym (lt-ltb (count_below greater (length priorities)) left (omega (arith, many, fewer)))
    ]
