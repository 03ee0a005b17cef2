use Rattle.std.proofs.Common.{◌≡◌, ◌≢◌, ℕ, ◌+◌, ◌-◌, ◌*◌, ◌/◌, ◌%◌, ◌^◌, ◌<◌, ◌≤◌, Bool, true, false, not, ◌&&◌, ◌||◌, cond, eqb, List, length, get_or, set, min, max, bit_and, bit_or, w64, refl, sym, ap, ◌∙◌, subst, inl, inr, arith}
use Rattle.std.specs.Int.{bit_at, bit_not}
use Rattle.std.proofs.lemmas.Bool.{cases_eq, cases_lt, eq-eqb, ne_eqb}
use Rattle.std.proofs.lemmas.List.{get_or_past, get_or-set_same, get_or-set_other}
use Rattle.std.proofs.lemmas.Nat.Bits.{bit_at-zero, bit_at-lt, bit_at_and, bit_at_or, bit_at_not, bit_at_set_same, bit_at_set_other, bit_at_clear_same, bit_at_clear_other}
use Rattle.house_base.specs.Rows.{has}
use Rattle.house_base.specs.declared.rows.TheConstants.{WORD_BITS, ROW_WORDS, ROW_BITS}

-- Bits of words.

pub one : ℕ → ℕ → Bool
one word i = eqb (bit_at word i) 1

one-min : (x y : ℕ) → x < 2 → y < 2 → eqb (min x y) 1 ≡ (eqb x 1 && eqb y 1)
one-min x y xl yl = elim (cases_eq x 1) [
  | inl e ↦ ap (λ n. eqb n 1) (let h : min x y ≡ y = omega arith in h) ∙ sym (ap (λ b. b && eqb y 1) (eq-eqb x 1 e))
  | inr ne ↦ ap (λ n. eqb n 1) (let h : min x y ≡ 0 = omega arith in h) ∙ sym (ap (λ b. b && eqb y 1) (ne_eqb x 1 ne))
]

one-max : (x y : ℕ) → x < 2 → y < 2 → eqb (max x y) 1 ≡ (eqb x 1 || eqb y 1)
one-max x y xl yl = elim (cases_eq x 1) [
  | inl e ↦ ap (λ n. eqb n 1) (let h : max x y ≡ 1 = omega arith in h) ∙ sym (ap (λ b. b || eqb y 1) (eq-eqb x 1 e))
  | inr ne ↦ ap (λ n. eqb n 1) (let h : max x y ≡ y = omega arith in h) ∙ sym (ap (λ b. b || eqb y 1) (ne_eqb x 1 ne))
]

one-less : (y : ℕ) → y < 2 → eqb (1 - y) 1 ≡ not (eqb y 1)
one-less y yl = elim (cases_eq y 1) [
  | inl e ↦ ap (λ n. eqb n 1) (let h : 1 - y ≡ 0 = omega arith in h) ∙ sym (ap not (eq-eqb y 1 e))
  | inr ne ↦ ap (λ n. eqb n 1) (let h : 1 - y ≡ 1 = omega arith in h) ∙ sym (ap not (ne_eqb y 1 ne))
]

pub one-and : (a b i : ℕ) → one (bit_and a b) i ≡ (one a i && one b i)
unfolding one
one-and a b i = ap (λ n. eqb n 1) (bit_at_and a b i) ∙ one-min (bit_at a i) (bit_at b i) (bit_at-lt a i) (bit_at-lt b i)

pub one-or : (a b i : ℕ) → one (bit_or a b) i ≡ (one a i || one b i)
unfolding one
one-or a b i = ap (λ n. eqb n 1) (bit_at_or a b i) ∙ one-max (bit_at a i) (bit_at b i) (bit_at-lt a i) (bit_at-lt b i)

pub one-without : (a b i : ℕ) → b < 2 ^ 64 → i < 64 → one (bit_and a (bit_not w64 b)) i ≡ (one a i && not (one b i))
unfolding one
one-without a b i fits within =
    one-and a (bit_not w64 b) i
    ∙ ap (λ c. eqb (bit_at a i) 1 && c) (ap (λ n. eqb n 1) (bit_at_not w64 b i fits within) ∙ one-less (bit_at b i) (bit_at-lt b i))

-- Rows of words.

-- a bit of a row
pub has-one : (words : List ℕ) (i : ℕ) → has words 0 i ≡ one (get_or words (i / WORD_BITS) 0) (i % WORD_BITS)
unfolding has one
has-one words i = ap (λ k. eqb (bit_at (get_or words k 0) (i % WORD_BITS)) 1) (let h : 0 * ROW_WORDS + i / WORD_BITS ≡ i / WORD_BITS = omega arith in h)

-- no bit stands past the end
pub has-past : (words : List ℕ) (i : ℕ) → length words ≡ ROW_WORDS → ROW_BITS ≤ i → has words 0 i ≡ false
unfolding one
has-past words i len past =
    has-one words i
    ∙ (ap (λ w. eqb (bit_at w (i % WORD_BITS)) 1) (get_or_past words (i / WORD_BITS) 0 (omega arith))
    ∙ ap (λ b. eqb b 1) (bit_at-zero (i % WORD_BITS)))

-- a row that is made of two others, word by word
pub has-joined : (op : Bool → Bool → Bool) (xs ys zs : List ℕ) → op false false ≡ false → length xs ≡ ROW_WORDS → length ys ≡ ROW_WORDS → length zs ≡ ROW_WORDS
    → ((k i : ℕ) → k < ROW_WORDS → i < WORD_BITS → one (get_or zs k 0) i ≡ op (one (get_or xs k 0) i) (one (get_or ys k 0) i))
    → (i : ℕ) → has zs 0 i ≡ op (has xs 0 i) (has ys 0 i)
has-joined op xs ys zs none xl yl zl h i = elim (cases_lt i ROW_BITS) [
  | inl below ↦
      has-one zs i
      ∙ (h (i / WORD_BITS) (i % WORD_BITS) (omega arith) (omega arith)
      ∙ (ap (λ b. op b (one (get_or ys (i / WORD_BITS) 0) (i % WORD_BITS))) (sym (has-one xs i))
      ∙ ap (op (has xs 0 i)) (sym (has-one ys i))))
  | inr past ↦
      has-past zs i zl past
      ∙ (sym none
      ∙ (ap (λ b. op b false) (sym (has-past xs i xl past))
      ∙ ap (op (has xs 0 i)) (sym (has-past ys i yl past))))
]

-- a row in which one word has another bit at one place
pub has-changed : (words : List ℕ) (place word : ℕ) (value : Bool) → length words ≡ ROW_WORDS → place < ROW_BITS
    → one word (place % WORD_BITS) ≡ value
    → ((i : ℕ) → i < WORD_BITS → i ≢ place % WORD_BITS → one word i ≡ one (get_or words (place / WORD_BITS) 0) i)
    → (i : ℕ) → (i ≡ place → has (set words (place / WORD_BITS) word) 0 i ≡ value) × (i ≢ place → has (set words (place / WORD_BITS) word) 0 i ≡ has words 0 i)
has-changed words place word value len below here others i = (
  λ e. has-one more i
      ∙ (ap (λ k. one (get_or more (k / WORD_BITS) 0) (k % WORD_BITS)) e
      ∙ (ap (λ w. one w (place % WORD_BITS)) (get_or-set_same words at word 0 (omega arith))
      ∙ here)),
  λ ne. elim (cases_eq (i / WORD_BITS) at) [
    | inl same ↦
        has-one more i
        ∙ (ap (λ k. one (get_or more k 0) (i % WORD_BITS)) same
        ∙ (ap (λ w. one w (i % WORD_BITS)) (get_or-set_same words at word 0 (omega arith))
        ∙ (others (i % WORD_BITS) (omega arith) (λ e. ne (omega arith))
        ∙ (ap (λ k. one (get_or words k 0) (i % WORD_BITS)) (sym same)
        ∙ sym (has-one words i)))))
    | inr other ↦
        has-one more i
        ∙ (ap (λ w. one w (i % WORD_BITS)) (get_or-set_other words at (i / WORD_BITS) word 0 other)
        ∙ sym (has-one words i))
  ],
)
  where
    at : ℕ
    at = place / WORD_BITS

    more : List ℕ
    more = set words (place / WORD_BITS) word

-- a place more
pub has-inserted : (words : List ℕ) (place : ℕ) → length words ≡ ROW_WORDS → place < ROW_BITS
    → (i : ℕ) → has (set words (place / WORD_BITS) (bit_or (get_or words (place / WORD_BITS) 0) (1 * 2 ^ (place % WORD_BITS) % 2 ^ 64))) 0 i ≡ (eqb i place || has words 0 i)
unfolding one
has-inserted words place len below i =
    let w = get_or words (place / WORD_BITS) 0 in
    let change = has-changed words place (bit_or w (1 * 2 ^ (place % WORD_BITS) % 2 ^ 64)) true len below
    (ap (λ n. eqb n 1) (bit_at_set_same w64 w (place % WORD_BITS) (omega arith)))
    (λ j jl ne. ap (λ n. eqb n 1) (bit_at_set_other w64 w (place % WORD_BITS) (omega arith) j ne)) i in
    elim (cases_eq i place) [
      | inl same ↦ change.0 same ∙ sym (ap (λ b. b || has words 0 i) (eq-eqb i place same))
      | inr other ↦ change.1 other ∙ sym (ap (λ b. b || has words 0 i) (ne_eqb i place other))
    ]

-- a place less
pub has-removed : (words : List ℕ) (place : ℕ) → length words ≡ ROW_WORDS → place < ROW_BITS
    → (i : ℕ) → has (set words (place / WORD_BITS) (bit_and (get_or words (place / WORD_BITS) 0) (bit_not w64 (1 * 2 ^ (place % WORD_BITS) % 2 ^ 64)))) 0 i ≡ (not (eqb i place) && has words 0 i)
unfolding one
has-removed words place len below i =
    let w = get_or words (place / WORD_BITS) 0 in
    let change = has-changed words place (bit_and w (bit_not w64 (1 * 2 ^ (place % WORD_BITS) % 2 ^ 64))) false len below
    (ap (λ n. eqb n 1) (bit_at_clear_same w64 w (place % WORD_BITS) (omega arith)))
    (λ j jl ne. ap (λ n. eqb n 1) (bit_at_clear_other w64 w (place % WORD_BITS) (omega arith) j jl ne)) i in
    elim (cases_eq i place) [
      | inl same ↦ change.0 same ∙ sym (ap (λ b. not b && has words 0 i) (eq-eqb i place same))
      | inr other ↦ change.1 other ∙ sym (ap (λ b. not b && has words 0 i) (ne_eqb i place other))
    ]

-- what holds of the bits of the words before one, and of its bits once it is set, holds of the words up to it
pub words-more : (P : ℕ → ℕ → Bool → Type 0) (words : List ℕ) (at word : ℕ) → at < length words
    → ((k i : ℕ) → k < at → i < WORD_BITS → P k i (one (get_or words k 0) i)) → ((i : ℕ) → i < WORD_BITS → P at i (one word i))
    → (k i : ℕ) → k < at + 1 → i < WORD_BITS → P k i (one (get_or (set words at word) k 0) i)
words-more P words at word below early here k i kl il = elim (cases_eq k at) [
  | inl same ↦
      subst (λ (j : ℕ). P j i (one (get_or (set words at word) j 0) i)) (sym same)
      (subst (λ (w : ℕ). P at i (one w i)) (sym (get_or-set_same words at word 0 below)) (here i il))
  | inr other ↦ subst (λ (w : ℕ). P k i (one w i)) (sym (get_or-set_other words at k word 0 other)) (early k i (omega arith) il)
]

pub one-clear : (word i : ℕ) → bit_at word i ≡ 0 → one word i ≡ false
unfolding one
one-clear word i clear = ap (λ n. eqb n 1) clear

pub one-is : (word i : ℕ) → one word i ≡ eqb (bit_at word i) 1
unfolding one
one-is word i = refl

-- a bit that is none yet is set where a test says so, and all others stay

pub bit-tested : (word i : ℕ) (b : Bool) → bit_at word i ≡ 0 → i < 64 → eqb (bit_at (bit_or word (cond b 1 0 * 2 ^ i % 2 ^ 64)) i) 1 ≡ b
bit-tested word i true clear within = ap (λ n. eqb n 1) (bit_at_set_same w64 word i within)
bit-tested word i false clear within =
    let none : 0 * 2 ^ i % 2 ^ 64 ≡ 0 = omega arith in
    ap (λ n. eqb (bit_at (bit_or word n) i) 1) none
    ∙ ap (λ n. eqb n 1) (let zero : bit_at (bit_or word 0) i ≡ 0 = omega (arith, bit_at_or word 0 i, bit_at-zero i, clear) in zero)

pub bit-untested : (word i j : ℕ) (b : Bool) → j ≢ i → i < 64 → bit_at (bit_or word (cond b 1 0 * 2 ^ i % 2 ^ 64)) j ≡ bit_at word j
bit-untested word i j true other within = bit_at_set_other w64 word i within j other
bit-untested word i j false other within =
    let none : 0 * 2 ^ i % 2 ^ 64 ≡ 0 = omega arith in
    ap (λ n. bit_at (bit_or word n) j) none
    ∙ (let same : bit_at (bit_or word 0) j ≡ bit_at word j = omega (arith, bit_at_or word 0 j, bit_at-zero j) in same)
