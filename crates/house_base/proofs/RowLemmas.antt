use Rattle.std.proofs.Common.{◌≡◌, ◌≢◌, ℕ, ◌+◌, ◌-◌, ◌*◌, ◌/◌, ◌%◌, ◌^◌, ◌<◌, ◌≤◌, Bool, true, false, ◌&&◌, cond, eqb, List, length, get_or, set, replicate, bit_and, w64, refl, sym, ap, ◌∙◌, inl, inr, arith}
use Rattle.std.specs.Prelude.{Option, Some, None, IfSome, IfNone}
use Rattle.std.specs.Int.{bit_at, trailing_zeros}
use Rattle.std.proofs.lemmas.Bool.{cases_lt, cases_eq, eq-eqb, ne_eqb, eqb-false, and_from, and_left, and_right}
use Rattle.std.proofs.lemmas.List.{get_or-replicate, get_or_past, length-replicate, get_or-set_same, get_or-set_other}
use Rattle.std.proofs.lemmas.Nat.{and_le_l}
use Rattle.std.proofs.lemmas.Nat.Bits.{bit_at-zero, bit_at-lt, bit_at_and, bit_at_mask_inside, bit_at_mask_below, bit_at-trailing_zeros, ones_shl}
use Rattle.house_base.specs.Rows.{has}
use Rattle.house_base.specs.declared.rows.TheConstants.{WORD_BITS, ROW_WORDS, ROW_BITS}

-- A word without its low bits.

high_bit : (word from i : ℕ) → from ≤ i → i < 64 → bit_at (bit_and word (2 ^ 64 - 2 ^ from)) i ≡ bit_at word i
high_bit word from i above below =
    omega (arith, bit_at_and word (2 ^ 64 - 2 ^ from) i, bit_at_mask_inside from 64 i above below, bit_at-lt word i)

low_bit : (word from i : ℕ) → i < from → bit_at (bit_and word (2 ^ 64 - 2 ^ from)) i ≡ 0
low_bit word from i below = omega (arith, bit_at_and word (2 ^ 64 - 2 ^ from) i, bit_at_mask_below from 64 i below)

-- a word has no bit from a place on where nothing is left without the bits below
pub none-left : (word from rest : ℕ) → rest ≡ bit_and word ((2 ^ 64 - 1) * 2 ^ from % 2 ^ 64) → from < 64 → rest ≡ 0
    → (i : ℕ) → from ≤ i → i < 64 → bit_at word i ≡ 0
none-left word from rest e within zero i above below =
    let masked : rest ≡ bit_and word (2 ^ 64 - 2 ^ from) = e ∙ ap (bit_and word) (ones_shl 64 from (omega arith)) in
    sym (high_bit word from i above below) ∙ (ap (λ n. bit_at n i) (sym masked ∙ zero) ∙ bit_at-zero i)

-- the first bit from a place on is the lowest of what is left without the bits below
pub record IsFirst (word from bit : ℕ) : Type 0 where
  pub above : from ≤ bit
  pub below : bit < 64
  pub set : bit_at word bit ≡ 1
  pub before : (i : ℕ) → from ≤ i → i < bit → bit_at word i ≡ 0

pub first-left : (word from rest : ℕ) → rest ≡ bit_and word ((2 ^ 64 - 1) * 2 ^ from % 2 ^ 64) → from < 64 → 0 < rest → word < 2 ^ 64
    → IsFirst word from (trailing_zeros w64 rest)
first-left word from rest e within some word_fits =
    let masked : rest ≡ bit_and word (2 ^ 64 - 2 ^ from) = e ∙ ap (bit_and word) (ones_shl 64 from (omega arith)) in
    let fits : rest < 2 ^ 64 = omega (arith, masked, word_fits, and_le_l word (2 ^ 64 - 2 ^ from)) in
    let t = trailing_zeros w64 rest in
    let lowest = bit_at-trailing_zeros w64 rest some fits in
    let here : bit_at (bit_and word (2 ^ 64 - 2 ^ from)) t ≡ 1 = sym (ap (λ n. bit_at n t) masked) ∙ lowest.1 in
    let above : from ≤ t = elim (cases_lt t from) [
      | inl low ↦ absurd (omega (arith, here, low_bit word from t low))
      | inr high ↦ high
    ] in
    record {
      above = above;
      below = lowest.0;
      set = sym (high_bit word from t above lowest.0) ∙ here;
      before = λ i from_i below. sym (high_bit word from i from_i (omega (arith, below, lowest.0)))
          ∙ (sym (ap (λ n. bit_at n i) masked) ∙ lowest.2 i below);
    }

-- Rows of bits.

get_or-zeros : (n i : ℕ) → ◌≡◌ {A = ℕ} (get_or (replicate n 0) i 0) 0
get_or-zeros n i = elim (cases_lt i n) [
  | inl below ↦ get_or-replicate n i 0 0 below
  | inr above ↦ get_or_past (replicate n 0) i 0 (omega (arith, length-replicate {A = ℕ} n 0))
]

-- words of zeros have no bit
pub has-zeros : (words : List ℕ) (n : ℕ) → words ≡ replicate n 0 → (row column : ℕ) → has words row column ≡ false
unfolding has
has-zeros words n e row column =
    ap (λ l. eqb (bit_at (get_or l (row * ROW_WORDS + column / WORD_BITS) 0) (column % WORD_BITS)) 1) e
    ∙ (ap (λ w. eqb (bit_at w (column % WORD_BITS)) 1) (get_or-zeros n (row * ROW_WORDS + column / WORD_BITS))
    ∙ ap (λ b. eqb b 1) (bit_at-zero (column % WORD_BITS)))

-- the bit at a column is a bit of the word there
has-word : (words : List ℕ) (row column at bit word : ℕ) → column / WORD_BITS ≡ at → column % WORD_BITS ≡ bit
    → word ≡ get_or words (row * ROW_WORDS + at) 0 → has words row column ≡ eqb (bit_at word bit) 1
unfolding has
has-word words row column at bit word here place read =
    ap (λ a. eqb (bit_at (get_or words (row * ROW_WORDS + a) 0) (column % WORD_BITS)) 1) here
    ∙ (ap (λ b. eqb (bit_at (get_or words (row * ROW_WORDS + at) 0) b) 1) place
    ∙ ap (λ w. eqb (bit_at w bit) 1) (sym read))

pub has-set_bit : (words : List ℕ) (row column at bit word : ℕ) → column / WORD_BITS ≡ at → column % WORD_BITS ≡ bit
    → word ≡ get_or words (row * ROW_WORDS + at) 0 → bit_at word bit ≡ 1 → has words row column ≡ true
has-set_bit words row column at bit word here place read one =
    has-word words row column at bit word here place read ∙ eq-eqb (bit_at word bit) 1 one

pub has-clear_bit : (words : List ℕ) (row column at bit word : ℕ) → column / WORD_BITS ≡ at → column % WORD_BITS ≡ bit
    → word ≡ get_or words (row * ROW_WORDS + at) 0 → bit_at word bit ≡ 0 → has words row column ≡ false
has-clear_bit words row column at bit word here place read zero =
    has-word words row column at bit word here place read ∙ ap (λ b. eqb b 1) zero

bit_value : (value : Bool) → eqb (cond value 1 0) 1 ≡ value
bit_value true = refl
bit_value false = refl

-- words with one bit changed
pub has-changed : (words : List ℕ) (row column more : ℕ) (value : Bool) → column < ROW_BITS → row * ROW_WORDS + column / WORD_BITS < length words
    → bit_at more (column % WORD_BITS) ≡ cond value 1 0
    → ((i : ℕ) → i < 64 → i ≢ column % WORD_BITS → bit_at more i ≡ bit_at (get_or words (row * ROW_WORDS + column / WORD_BITS) 0) i)
    → (r c : ℕ) → c < ROW_BITS → has (set words (row * ROW_WORDS + column / WORD_BITS) more) r c ≡ cond (eqb r row && eqb c column) value (has words r c)
unfolding has
has-changed words row column more value column_below below here others r c c_below =
    let at = row * ROW_WORDS + column / WORD_BITS in
    let place = r * ROW_WORDS + c / WORD_BITS in
    let old = eqb (bit_at (get_or words place 0) (c % WORD_BITS)) 1 in
    elim (cases_eq place at) [
      | inl same ↦
          let same_row : r ≡ row = omega (arith, same, c_below, column_below) in
          let moved = ap (λ j. eqb (bit_at (get_or (set words at more) j 0) (c % WORD_BITS)) 1) same
          ∙ ap (λ w. eqb (bit_at w (c % WORD_BITS)) 1) (get_or-set_same words at more 0 below) in
          elim (cases_eq (c % WORD_BITS) (column % WORD_BITS)) [
            | inl same_bit ↦
                let same_column : c ≡ column = omega (arith, same, same_row, same_bit) in
                moved
                ∙ (ap (λ b. eqb (bit_at more b) 1) same_bit
                ∙ (ap (λ b. eqb b 1) here
                ∙ (bit_value value
                ∙ sym (ap (λ b. cond b value old) (and_from (eqb r row) (eqb c column) (eq-eqb r row same_row) (eq-eqb c column same_column))))))
            | inr other_bit ↦
                let other : c ≢ column = λ e. other_bit (ap (λ k. k % WORD_BITS) e) in
                moved
                ∙ (ap (λ b. eqb b 1) (others (c % WORD_BITS) (omega arith) other_bit)
                ∙ (ap (λ j. eqb (bit_at (get_or words j 0) (c % WORD_BITS)) 1) (sym same)
                ∙ sym (ap (λ b. cond b value old) (and_right (eqb r row) (eqb c column) (ne_eqb c column other)))))
          ]
      | inr apart ↦
          let unchanged : eqb (bit_at (get_or (set words at more) place 0) (c % WORD_BITS)) 1 ≡ old
          = ap (λ w. eqb (bit_at w (c % WORD_BITS)) 1) (get_or-set_other words at place more 0 apart) in
          let off : (eqb r row && eqb c column) ≡ false = elim (cases_eq r row) [
            | inl same_row ↦ and_right (eqb r row) (eqb c column) (ne_eqb c column (λ e. apart (ap (λ j. j * ROW_WORDS + c / WORD_BITS) same_row ∙ ap (λ k. row * ROW_WORDS + k / WORD_BITS) e)))
            | inr other_row ↦ and_left (eqb r row) (eqb c column) (ne_eqb r row other_row)
          ] in
          unchanged ∙ sym (ap (λ b. cond b value old) off)
    ]

-- two tests in the other order
pub swapped : (a b value x : Bool) → cond (a && b) value x ≡ cond (b && a) value x
swapped true true value x = refl
swapped true false value x = refl
swapped false true value x = refl
swapped false false value x = refl

-- a bit of a word in its row
pub has-read : (words : List ℕ) (row at i : ℕ) → i < WORD_BITS → eqb (bit_at (get_or words (row * ROW_WORDS + at) 0) i) 1 ≡ has words row (at * WORD_BITS + i)
has-read words row at i below =
    sym (has-word words row (at * WORD_BITS + i) at i (get_or words (row * ROW_WORDS + at) 0) (omega arith) (omega arith) refl)

-- words with one word changed
pub has-written : (words : List ℕ) (row at word : ℕ) → at < ROW_WORDS → row * ROW_WORDS + at < length words
    → (r c : ℕ) → c < ROW_BITS → has (set words (row * ROW_WORDS + at) word) r c ≡ cond (eqb r row && eqb (c / WORD_BITS) at) (eqb (bit_at word (c % WORD_BITS)) 1) (has words r c)
unfolding has
has-written words row at word at_below below r c c_below =
    let here = row * ROW_WORDS + at in
    let place = r * ROW_WORDS + c / WORD_BITS in
    let old = eqb (bit_at (get_or words place 0) (c % WORD_BITS)) 1 in
    let new = eqb (bit_at word (c % WORD_BITS)) 1 in
    elim (cases_eq place here) [
      | inl same ↦
          let same_row : r ≡ row = omega (arith, same, c_below, at_below) in
          let same_word : c / WORD_BITS ≡ at = omega (arith, same, same_row) in
          ap (λ j. eqb (bit_at (get_or (set words here word) j 0) (c % WORD_BITS)) 1) same
          ∙ (ap (λ w. eqb (bit_at w (c % WORD_BITS)) 1) (get_or-set_same words here word 0 below)
          ∙ sym (ap (λ b. cond b new old) (and_from (eqb r row) (eqb (c / WORD_BITS) at) (eq-eqb r row same_row) (eq-eqb (c / WORD_BITS) at same_word))))
      | inr apart ↦
          let off : (eqb r row && eqb (c / WORD_BITS) at) ≡ false = elim (cases_eq r row) [
            | inl same_row ↦ and_right (eqb r row) (eqb (c / WORD_BITS) at) (ne_eqb (c / WORD_BITS) at (λ e. apart (omega (arith, same_row, e))))
            | inr other_row ↦ and_left (eqb r row) (eqb (c / WORD_BITS) at) (ne_eqb r row other_row)
          ] in
          ap (λ w. eqb (bit_at w (c % WORD_BITS)) 1) (get_or-set_other words here place word 0 apart)
          ∙ sym (ap (λ b. cond b new old) off)
    ]

-- a bit that is not one is zero
pub bit-zero : (word i : ℕ) → eqb (bit_at word i) 1 ≡ false → bit_at word i ≡ 0
bit-zero word i off = omega (arith, bit_at-lt word i, eqb-false (bit_at word i) 1 off)

-- what a bit that was found gives, and what it means that none was found
pub IfSome-map : {A : Type 0} (P Q : A → Type 0) (o : Option A) → ((x : A) → P x → Q x) → IfSome o P → IfSome o Q
IfSome-map P Q (Some x) f h = f x h
IfSome-map P Q None f h = tt

pub IfSome-both : {A : Type 0} (P Q : A → Type 0) (o : Option A) → IfSome o P → IfSome o Q → IfSome o (λ x. P x × Q x)
IfSome-both P Q (Some x) p q = (p, q)
IfSome-both P Q None p q = tt

pub IfNone-map : {A : Type 0} (P Q : Type 0) (o : Option A) → (P → Q) → IfNone o P → IfNone o Q
IfNone-map P Q (Some x) f h = tt
IfNone-map P Q None f h = f h
