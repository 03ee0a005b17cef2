-- Words that can stand in a line: no byte of theirs is a space, a tab or a line feed.
use Rattle.std.proofs.Common.{◌≡◌, ℕ, ◌<◌, ◌^◌, Bool, true, false, ltb, ◌==◌, ◌&&◌, [], ◌∷◌, ◌++◌, length, refl, arith}
use Rattle.std.specs.Prelude.{IsTrue, decimal, not}
use Rattle.std.specs.Char.{is_ascii_digit}
use Rattle.std.specs.List.{join_with_byte, list_all}
use Rattle.std.specs.Str.{all_ascii_digits}
use Rattle.std.proofs.lemmas.Bool.{and_parts}
use Rattle.std.proofs.lemmas.Bool.Decides.{nat_tests}
use Rattle.std.proofs.lemmas.Fmt.{decimal_nonempty, digits_decimal}
use Rattle.std.proofs.lemmas.List.Elements.{All-append, All-cons, All-nil, All-weaker}
use Rattle.std.proofs.lemmas.List.Sums.{AllPass-from_list_all, list_all-from_AllPass}
use Rattle.house_base.specs.Name.{is_name, is_name_byte}
use Rattle.house_base.specs.Text.{Text}
use Rattle.house_base.proofs.Digits.{numerals}
use Rattle.house_model.specs.Text.{is_empty, is_gap}
use Rattle.command_text.specs.Held.{HasNoFeed}
use Rattle.command_text.proofs.JoinedLemmas.{AreWords, is_word, name_parts}
use Rattle.command_text.specs.Strict.{Row}

-- whether a word has a byte, and each behind that of the space
abbrev pub is_plain : Text → Bool
is_plain w = not (is_empty w) && list_all (ltb 32) w

-- plain words all
abbrev pub ArePlain : Row → Type 0
ArePlain [] = Unit {0}
ArePlain (w ∷ ws) = (is_plain w ≡ true) × ArePlain ws

bytes_of : (w : Text) → is_plain w ≡ true → list_all (ltb 32) w ≡ true
bytes_of w h = (and_parts (not (is_empty w)) (list_all (ltb 32) w) h).1

some_byte : (w : Text) → is_plain w ≡ true → not (is_empty w) ≡ true
some_byte w h = (and_parts (not (is_empty w)) (list_all (ltb 32) w) h).0

-- from bytes of one kind
weaker : (p q : ℕ → Bool) → ((b : ℕ) → p b ≡ true → q b ≡ true) → (w : Text) → list_all p w ≡ true → list_all q w ≡ true
weaker p q turn w h = list_all-from_AllPass q w (All-weaker (λ b. p b ≡ true) (λ b. q b ≡ true) turn w (AllPass-from_list_all p w h))

plain_of : (w : Text) → not (is_empty w) ≡ true → list_all (ltb 32) w ≡ true → is_plain w ≡ true
plain_of w some all = rw (some, all) refl

-- Plain words are words, and a line of them has no line feed.

no_gap : (b : ℕ) → ltb 32 b ≡ true → not (is_gap b) ≡ true
no_gap b h = grind (arith, nat_tests)

no_feed : (b : ℕ) → ltb 32 b ≡ true → (b == 10) ≡ false
no_feed b h = grind (arith, nat_tests)

word_of_plain : (w : Text) → is_plain w ≡ true → is_word w ≡ true
word_of_plain w h = rw (some_byte w h, weaker (ltb 32) (λ b. not (is_gap b)) no_gap w (bytes_of w h)) refl

pub words_of_plain : (ws : Row) → ArePlain ws → AreWords ws
words_of_plain [] h = tt
words_of_plain (w ∷ ws) h = (word_of_plain w h.0, words_of_plain ws h.1)

abbrev NoFeed : ℕ → Type 0
NoFeed b = (b == 10) ≡ false

feedless : (w : Text) → is_plain w ≡ true → HasNoFeed w
feedless w h = All-weaker (λ b. ltb 32 b ≡ true) NoFeed no_feed w (AllPass-from_list_all (ltb 32) w (bytes_of w h))

pub feedless_line : (ws : Row) → ArePlain ws → HasNoFeed (join_with_byte 32 ws)
feedless_line [] h = All-nil NoFeed
feedless_line (w ∷ []) h = feedless w h.0
feedless_line (w ∷ v ∷ ws) h =
    All-append NoFeed w (32 ∷ join_with_byte 32 (v ∷ ws)) (feedless w h.0)
    (All-cons NoFeed 32 (join_with_byte 32 (v ∷ ws)) refl (feedless_line (v ∷ ws) h.1))

-- Names, numbers, and two words with a byte between them.

name_byte : (b : ℕ) → is_name_byte b ≡ true → ltb 32 b ≡ true
name_byte b h = grind (arith, nat_tests)

digit_byte : (b : ℕ) → is_ascii_digit b ≡ true → ltb 32 b ≡ true
digit_byte b h = grind (arith, nat_tests)

filled : (w : Text) → 0 < length w → not (is_empty w) ≡ true
filled [] h = absurd (omega arith)
filled (b ∷ w) h = refl

pub plain_name : (w : Text) → IsTrue (is_name w) → is_plain w ≡ true
plain_name w h = let parts = name_parts w h in plain_of w (filled w parts.0) (weaker is_name_byte (ltb 32) name_byte w parts.1)

digits_all : (w : Text) → all_ascii_digits w ≡ true → list_all (ltb 32) w ≡ true
digits_all [] h = refl
digits_all (b ∷ w) h =
    let parts = and_parts (is_ascii_digit b) (all_ascii_digits w) h in
    rw (digit_byte b parts.0, digits_all w parts.1) refl

pub plain_number : (n : ℕ) → n < 2 ^ 64 → is_plain (decimal n) ≡ true
plain_number n fits = plain_of (decimal n) (filled (decimal n) (decimal_nonempty n fits)) (digits_all (decimal n) (digits_decimal numerals n fits))

all_between : (w v : Text) (b : ℕ) → list_all (ltb 32) w ≡ true → ltb 32 b ≡ true → list_all (ltb 32) v ≡ true → list_all (ltb 32) (w ++ b ∷ v) ≡ true
all_between [] v b h k l = rw (k, l) refl
all_between (x ∷ w) v b h k l =
    let parts = and_parts (ltb 32 x) (list_all (ltb 32) w) h in
    rw (parts.0, all_between w v b parts.1 k l) refl

front_filled : (w v : Text) → not (is_empty w) ≡ true → not (is_empty (w ++ v)) ≡ true
front_filled [] v h = cc
front_filled (x ∷ w) v h = refl

pub plain_between : (w v : Text) (b : ℕ) → is_plain w ≡ true → ltb 32 b ≡ true → is_plain v ≡ true → is_plain (w ++ b ∷ v) ≡ true
plain_between w v b h k l =
    plain_of (w ++ b ∷ v) (front_filled w (b ∷ v) (some_byte w h)) (all_between w v b (bytes_of w h) k (bytes_of v l))
