-- Words that stand in a line with one space between them.
use Rattle.std.proofs.Common.{◌≡◌, ℕ, suc, ◌<◌, ◌^◌, ◌/◌, ◌%◌, Bool, true, false, ◌&&◌, List, [], ◌∷◌, length, get_or, refl, ap, arith}
use Rattle.std.specs.Prelude.{All, IsTrue, not, decimal}
use Rattle.std.specs.Char.{is_ascii_digit}
use Rattle.std.specs.List.{join_with_byte, list_all}
use Rattle.std.specs.Str.{all_ascii_digits}
use Rattle.std.proofs.lemmas.Bool.{and_parts, not-true}
use Rattle.std.proofs.lemmas.Bool.Decides.{nat_tests}
use Rattle.std.proofs.lemmas.Fmt.{decimal_nonempty, digits_decimal}
use Rattle.std.proofs.lemmas.List.Elements.{All-weaker}
use Rattle.std.proofs.lemmas.List.Splits.{slice_split_at, slice_split_none}
use Rattle.std.proofs.lemmas.List.Sums.{AllPass-from_list_all, list_all-from_AllPass}
use Rattle.hex.specs.Hex.{IsBytes, encode_lower, encode_with, lower_digits}
use Rattle.hex.proofs.HexLemmas.{length-encode_with}
use Rattle.house_base.specs.Name.{is_name, is_name_byte}
use Rattle.house_base.specs.Seed.{is_seed, is_seed_byte}
use Rattle.house_base.proofs.Digits.{numerals}
use Rattle.house_base.specs.Text.{Text}
use Rattle.house_model.specs.Text.{words, is_gap, is_empty}
use Rattle.house_model.specs.Verbs.{is_hex64}
use Rattle.command_text.proofs.DigestLemmas.{is_small_digit}

-- whether a text is a word: it has a byte, and no space and no tab
abbrev pub is_word : Text → Bool
is_word w = not (is_empty w) && list_all (λ b. not (is_gap b)) w

-- words all
abbrev pub AreWords : List Text → Type 0
AreWords [] = Unit {0}
AreWords (w ∷ ws) = (is_word w ≡ true) × AreWords ws

no_gap : (b : ℕ) → not (is_gap b) ≡ true → is_gap b ≡ false
no_gap b h = not-true (is_gap b) h

free_of_gaps : (w : Text) → is_word w ≡ true → All (λ b. is_gap b ≡ false) w
free_of_gaps w h =
    All-weaker (λ b. not (is_gap b) ≡ true) (λ b. is_gap b ≡ false) no_gap w
    (AllPass-from_list_all (λ b. not (is_gap b)) w (and_parts (not (is_empty w)) (list_all (λ b. not (is_gap b)) w) h).1)

some_byte : (w : Text) → is_word w ≡ true → not (is_empty w) ≡ true
some_byte w h = (and_parts (not (is_empty w)) (list_all (λ b. not (is_gap b)) w) h).0

-- the words of a line that was joined of them
pub words_of_joined : (ws : List Text) → AreWords ws → words (join_with_byte 32 ws) ≡ ws
unfolding words
words_of_joined [] h = refl
words_of_joined (w ∷ []) h = rw (slice_split_none is_gap w (free_of_gaps w h.0), some_byte w h.0) refl
words_of_joined (w ∷ v ∷ more) h =
    rw (slice_split_at is_gap w 32 (join_with_byte 32 (v ∷ more)) (free_of_gaps w h.0) refl, some_byte w h.0)
    (ap (λ ws. w ∷ ws) (words_of_joined (v ∷ more) h.1))

not_empty : (w : Text) → 0 < length w → not (is_empty w) ≡ true
not_empty [] h = absurd (omega arith)
not_empty (x ∷ xs) h = refl

-- a text of bytes that are no gaps
word_of_bytes : (p : ℕ → Bool) → ((b : ℕ) → p b ≡ true → not (is_gap b) ≡ true) → (w : Text) → 0 < length w → list_all p w ≡ true → is_word w ≡ true
word_of_bytes p free_byte w some all =
    let free : list_all (λ b. not (is_gap b)) w ≡ true =
    list_all-from_AllPass (λ b. not (is_gap b)) w (All-weaker (λ b. p b ≡ true) (λ b. not (is_gap b) ≡ true) free_byte w (AllPass-from_list_all p w all)) in
    rw (not_empty w some, free) refl

name_byte : (b : ℕ) → is_name_byte b ≡ true → not (is_gap b) ≡ true
name_byte b h = grind (arith, nat_tests)

seed_byte : (b : ℕ) → is_seed_byte b ≡ true → not (is_gap b) ≡ true
seed_byte b h = grind (arith, nat_tests)

digit_byte : (b : ℕ) → is_ascii_digit b ≡ true → not (is_gap b) ≡ true
digit_byte b h = grind (arith, nat_tests)

small_digit_byte : (b : ℕ) → is_small_digit b ≡ true → not (is_gap b) ≡ true
small_digit_byte b h = grind (arith, nat_tests)

pub name_parts : (w : Text) → is_name w ≡ true → (0 < length w) × (list_all is_name_byte w ≡ true)
unfolding is_name
name_parts [] h = cc
name_parts (x ∷ xs) h = (omega arith, grind (arith, nat_tests))

pub word_of_name : (w : Text) → IsTrue (is_name w) → is_word w ≡ true
word_of_name w h = let parts = name_parts w h in word_of_bytes is_name_byte name_byte w parts.0 parts.1

pub seed_parts : (w : Text) → is_seed w ≡ true → (0 < length w) × (list_all is_seed_byte w ≡ true)
unfolding is_seed
seed_parts w h = (grind (arith, nat_tests), grind (arith, nat_tests))

pub word_of_seed : (w : Text) → IsTrue (is_seed w) → is_word w ≡ true
word_of_seed w h = let parts = seed_parts w h in word_of_bytes is_seed_byte seed_byte w parts.0 parts.1

all_digits : (w : Text) → all_ascii_digits w ≡ true → list_all is_ascii_digit w ≡ true
all_digits [] h = refl
all_digits (x ∷ xs) h =
    let parts = and_parts (is_ascii_digit x) (all_ascii_digits xs) h in
    rw (parts.0, all_digits xs parts.1) refl

pub word_of_number : (n : ℕ) → n < 2 ^ 64 → is_word (decimal n) ≡ true
word_of_number n fits =
    word_of_bytes is_ascii_digit digit_byte (decimal n) (decimal_nonempty n fits) (all_digits (decimal n) (digits_decimal numerals n fits))

-- each place of the table of digits has a small one
small_at : (k : ℕ) → k < 16 → is_small_digit (get_or lower_digits k 0) ≡ true
small_at k below = AllPass-from_list_all is_small_digit lower_digits refl k 0 below

pub digits_are_small : (bytes : List ℕ) → IsBytes bytes → list_all is_small_digit (encode_lower bytes) ≡ true
unfolding encode_with
digits_are_small [] h = refl
digits_are_small (b ∷ bytes) h =
    let fits : b < 256 = h 0 in
    let first : b / 16 < 16 = omega arith in
    let second : b % 16 < 16 = omega arith in
    rw (small_at (b / 16) first, small_at (b % 16) second, digits_are_small bytes (λ i. h (suc i))) refl

-- the text of a digest
pub hex64_of_digest : (digest : List ℕ) → length digest ≡ 32 → IsBytes digest → is_hex64 (encode_lower digest) ≡ true
unfolding is_hex64
hex64_of_digest digest whole bytes =
    let count : length (encode_lower digest) ≡ 64 = omega (arith, length-encode_with lower_digits digest, whole) in
    rw (count, digits_are_small digest bytes) refl

pub word_of_digest : (digest : List ℕ) → length digest ≡ 32 → IsBytes digest → is_word (encode_lower digest) ≡ true
word_of_digest digest whole bytes =
    word_of_bytes is_small_digit small_digit_byte (encode_lower digest) (omega (arith, length-encode_with lower_digits digest, whole)) (digits_are_small digest bytes)
