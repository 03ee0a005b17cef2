use Rattle.std.proofs.Common.{◌≡◌, ◌≢◌, ℕ, ◌+◌, ◌-◌, ◌*◌, ◌/◌, ◌%◌, ◌^◌, ◌<◌, ◌≤◌, Bool, true, false, ◌&&◌, ◌||◌, eqb, ltb, List, [], ◌++◌, length, get_or, set, take, replicate, bit_and, bit_or, w64, refl, sym, ap, ◌∙◌, inl, inr, arith}
use Rattle.std.specs.Int.{bit_at}
use Rattle.std.proofs.lemmas.Bool.{cases_lt, cases_eq, false≢true, lt-ltb, le-ltb, eq-eqb, ne_eqb, and_from, and_left, and_right, or_right}
use Rattle.std.proofs.lemmas.List.{take_all, get_or_append_left, get_or-append_right, get_or-replicate, get_or_past, length-replicate, get_or-set_same, get_or-set_other}
use Rattle.std.proofs.lemmas.Nat.Bits.{shr_and_one, bit_at-zero, bit_at-lt, same_from_bits_below, bit_at_set_same, bit_at_set_other}
use Rattle.house_base.specs.Rows.{has}
use Rattle.register_book.specs.Rows.{is_set, holds}
use Rattle.register_book.specs.declared.rows.TheConstants.{WORD_BITS, ROW_WORDS, ROW_BITS}

-- Bits of a list of words.

pub or-false : (b : Bool) → (b || false) ≡ b
or-false true = refl
or-false false = refl

-- the test of a bit
pub is_set-test : (words : List ℕ) (k word : ℕ) → word ≡ get_or words (k / WORD_BITS) 0
    → eqb (bit_and (word / 2 ^ (k % WORD_BITS)) 1) 1 ≡ is_set words k
unfolding is_set
is_set-test words k word at =
    ap (λ n. eqb n 1) (shr_and_one word (k % WORD_BITS)) ∙ ap (λ w. eqb (bit_at w (k % WORD_BITS)) 1) at

pub is_set-past : (words : List ℕ) (k : ℕ) → length words ≤ k / WORD_BITS → is_set words k ≡ false
unfolding is_set
is_set-past words k past =
    ap (λ w. eqb (bit_at w (k % WORD_BITS)) 1) (get_or_past words (k / WORD_BITS) 0 past)
    ∙ ap (λ n. eqb n 1) (bit_at-zero (k % WORD_BITS))

-- words with one bit more
pub is_set-set : (words : List ℕ) (at word : ℕ) → word ≡ get_or words (at / WORD_BITS) 0 → at / WORD_BITS < length words
    → (k : ℕ) → is_set (set words (at / WORD_BITS) (bit_or word (1 * 2 ^ (at % WORD_BITS) % 2 ^ 64))) k ≡ (is_set words k || eqb k at)
unfolding is_set
is_set-set words at word read below k =
    let i = at / WORD_BITS in
    let b = at % WORD_BITS in
    let more = bit_or word (1 * 2 ^ b % 2 ^ 64) in
    let old : Bool = eqb (bit_at (get_or words (k / WORD_BITS) 0) (k % WORD_BITS)) 1 in
    elim (cases_eq k at) [
      | inl same ↦
          ap (λ j. eqb (bit_at (get_or (set words i more) (j / WORD_BITS) 0) (j % WORD_BITS)) 1) same
          ∙ (ap (λ w. eqb (bit_at w b) 1) (get_or-set_same words i more 0 below)
          ∙ (ap (λ n. eqb n 1) (bit_at_set_same w64 word b (omega arith))
          ∙ sym (or_right old (eqb k at) (eq-eqb k at same))))
      | inr other ↦
          let unchanged : eqb (bit_at (get_or (set words i more) (k / WORD_BITS) 0) (k % WORD_BITS)) 1 ≡ old
          = elim (cases_eq (k / WORD_BITS) i) [
            | inl here ↦
                ap (λ j. eqb (bit_at (get_or (set words i more) j 0) (k % WORD_BITS)) 1) here
                ∙ (ap (λ w. eqb (bit_at w (k % WORD_BITS)) 1) (get_or-set_same words i more 0 below)
                ∙ (ap (λ n. eqb n 1) (bit_at_set_other w64 word b (omega arith) (k % WORD_BITS) (λ e. other (omega arith)))
                ∙ ap (λ w. eqb (bit_at w (k % WORD_BITS)) 1) (read ∙ ap (λ j. get_or words j 0) (sym here))))
            | inr there ↦ ap (λ w. eqb (bit_at w (k % WORD_BITS)) 1) (get_or-set_other words i (k / WORD_BITS) more 0 there)
          ] in
          unchanged ∙ (sym (or-false old) ∙ ap (λ b. old || b) (sym (ne_eqb k at other)))
    ]

get_or-zeros : (n i : ℕ) → ◌≡◌ {A = ℕ} (get_or (replicate n 0) i 0) 0
get_or-zeros n i = elim (cases_lt i n) [
  | inl below ↦ get_or-replicate n i 0 0 below
  | inr above ↦ get_or_past (replicate n 0) i 0 (omega (arith, length-replicate {A = ℕ} n 0))
]

-- words with zeros behind them
pub get_or-append_zeros : (words : List ℕ) (n i : ℕ) → get_or (words ++ replicate n 0) i 0 ≡ get_or words i 0
get_or-append_zeros words n i = elim (cases_lt i (length words)) [
  | inl below ↦ get_or_append_left words (replicate n 0) 0 i below
  | inr above ↦
      get_or-append_right words (replicate n 0) (length words) i 0 refl above
      ∙ (get_or-zeros n (i - length words) ∙ sym (get_or_past words i 0 above))
]

pub is_set-append_zeros : (words : List ℕ) (n k : ℕ) → is_set (words ++ replicate n 0) k ≡ is_set words k
unfolding is_set
is_set-append_zeros words n k = ap (λ w. eqb (bit_at w (k % WORD_BITS)) 1) (get_or-append_zeros words n (k / WORD_BITS))

-- Rows of bits.

pub holds-within : (words : List ℕ) (row column : ℕ) → column < ROW_BITS → is_set words (row * ROW_BITS + column) ≡ holds words row column
unfolding holds
holds-within words row column below = sym (ap (λ b. b && is_set words (row * ROW_BITS + column)) (lt-ltb column ROW_BITS below))

-- the number of a row and a column
same_place : (r c row column : ℕ) → c < ROW_BITS → column < ROW_BITS → eqb (r * ROW_BITS + c) (row * ROW_BITS + column) ≡ (eqb r row && eqb c column)
same_place r c row column below column_below = elim (cases_eq r row) [
  | inl same_row ↦ elim (cases_eq c column) [
    | inl same_column ↦
        eq-eqb (r * ROW_BITS + c) (row * ROW_BITS + column) (omega arith)
        ∙ sym (and_from (eqb r row) (eqb c column) (eq-eqb r row same_row) (eq-eqb c column same_column))
    | inr other ↦
        ne_eqb (r * ROW_BITS + c) (row * ROW_BITS + column) (λ e. other (omega arith))
        ∙ sym (and_right (eqb r row) (eqb c column) (ne_eqb c column other))
  ]
  | inr other ↦
      ne_eqb (r * ROW_BITS + c) (row * ROW_BITS + column) (λ e. other (omega arith))
      ∙ sym (and_left (eqb r row) (eqb c column) (ne_eqb r row other))
]

pub holds-set : (words new : List ℕ) (row column : ℕ) → column < ROW_BITS
    → ((k : ℕ) → is_set new k ≡ (is_set words k || eqb k (row * ROW_BITS + column)))
    → (r c : ℕ) → holds new r c ≡ (holds words r c || (eqb r row && eqb c column))
unfolding holds
holds-set words new row column column_below h r c = elim (cases_lt c ROW_BITS) [
  | inl below ↦
      ap (λ b. b && is_set new (r * ROW_BITS + c)) (lt-ltb c ROW_BITS below)
      ∙ (h (r * ROW_BITS + c)
      ∙ (ap (λ b. is_set words (r * ROW_BITS + c) || b) (same_place r c row column below column_below)
      ∙ ap (λ b. (b && is_set words (r * ROW_BITS + c)) || (eqb r row && eqb c column)) (sym (lt-ltb c ROW_BITS below))))
  | inr above ↦
      ap (λ b. b && is_set new (r * ROW_BITS + c)) (le-ltb c ROW_BITS above)
      ∙ (sym (and_right (eqb r row) (eqb c column) (ne_eqb c column (λ e. omega arith)))
      ∙ ap (λ b. (b && is_set words (r * ROW_BITS + c)) || (eqb r row && eqb c column)) (sym (le-ltb c ROW_BITS above)))
]

pub holds-append_zeros : (words new : List ℕ) (n m : ℕ) → new ≡ take n words ++ replicate m 0 → length words ≤ n
    → (r c : ℕ) → holds new r c ≡ holds words r c
unfolding holds
holds-append_zeros words new n m e long r c =
    ap (λ l. ltb c ROW_BITS && is_set l (r * ROW_BITS + c)) (e ∙ ap (λ l. l ++ replicate m 0) (take_all n words long))
    ∙ ap (λ b. ltb c ROW_BITS && b) (is_set-append_zeros words m (r * ROW_BITS + c))

pub holds-past : (words : List ℕ) (row column : ℕ) → length words ≤ (row * ROW_BITS + column) / WORD_BITS → holds words row column ≡ false
unfolding holds
holds-past words row column past = and_right (ltb column ROW_BITS) (is_set words (row * ROW_BITS + column)) (is_set-past words (row * ROW_BITS + column) past)

pub holds-none : (row column : ℕ) → holds [] row column ≡ false
holds-none row column = holds-past [] row column (omega arith)

-- A row has no bit exactly where its words are 0.

pub holds-zero_words : (words : List ℕ) (row : ℕ) → ((k : ℕ) → row * ROW_WORDS ≤ k → k < row * ROW_WORDS + ROW_WORDS → get_or words k 0 ≡ 0)
    → (column : ℕ) → holds words row column ≡ false
unfolding holds is_set
holds-zero_words words row zeros column =
    let k = row * ROW_BITS + column in
    elim (cases_lt column ROW_BITS) [
      | inl below ↦
          and_right (ltb column ROW_BITS) (eqb (bit_at (get_or words (k / WORD_BITS) 0) (k % WORD_BITS)) 1)
          (ap (λ w. eqb (bit_at w (k % WORD_BITS)) 1) (zeros (k / WORD_BITS) (omega arith) (omega (arith, below)))
          ∙ ap (λ n. eqb n 1) (bit_at-zero (k % WORD_BITS)))
      | inr above ↦ and_left (ltb column ROW_BITS) (eqb (bit_at (get_or words (k / WORD_BITS) 0) (k % WORD_BITS)) 1) (le-ltb column ROW_BITS above)
    ]

pub word-zero : (words : List ℕ) (row at word : ℕ) → row * ROW_WORDS ≤ at → at < row * ROW_WORDS + ROW_WORDS → word ≡ get_or words at 0 → word < 2 ^ 64
    → ((column : ℕ) → holds words row column ≡ false) → word ≡ 0
unfolding is_set
word-zero words row at word from below read fits none =
    same_from_bits_below 64 word 0 fits (let some : 0 < 2 ^ 64 = omega arith in some) (λ i within.
    let column = (at - row * ROW_WORDS) * WORD_BITS + i in
    let k = row * ROW_BITS + column in
    let here : k / WORD_BITS ≡ at = omega (arith, from, within) in
    let bit : k % WORD_BITS ≡ i = omega (arith, from, within) in
    let unset = sym (ap (λ j. eqb (bit_at (get_or words j 0) (k % WORD_BITS)) 1) here
    ∙ (ap (λ b. eqb (bit_at (get_or words at 0) b) 1) bit ∙ ap (λ w. eqb (bit_at w i) 1) (sym read)))
    ∙ (holds-within words row column (omega (arith, from, below, within)) ∙ none column) in
    let not_one : bit_at word i ≢ 1 = λ e. false≢true (sym unset ∙ eq-eqb (bit_at word i) 1 e) in
    omega (arith, bit_at-lt word i, not_one, bit_at-zero i))

-- The same bits, as rows of words have them.

pub holds-has : (words : List ℕ) (row column : ℕ) → column < ROW_BITS → has words row column ≡ holds words row column
unfolding has is_set
holds-has words row column below =
    let k = row * ROW_BITS + column in
    let here : row * ROW_WORDS + column / WORD_BITS ≡ k / WORD_BITS = omega (arith, below) in
    let bit : column % WORD_BITS ≡ k % WORD_BITS = omega (arith, below) in
    ap (λ i. eqb (bit_at (get_or words i 0) (column % WORD_BITS)) 1) here
    ∙ (ap (λ b. eqb (bit_at (get_or words (k / WORD_BITS) 0) b) 1) bit ∙ holds-within words row column below)

pub holds-behind : (words : List ℕ) (row column : ℕ) → ROW_BITS ≤ column → holds words row column ≡ false
unfolding holds
holds-behind words row column behind = and_left (ltb column ROW_BITS) (is_set words (row * ROW_BITS + column)) (le-ltb column ROW_BITS behind)
