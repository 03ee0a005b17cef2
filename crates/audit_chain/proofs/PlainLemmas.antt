-- The text of a row is ASCII, and has no line feed.
use Rattle.std.proofs.Common.{◌≡◌, ℕ, zero, suc, ◌/◌, ◌%◌, ◌^◌, ◌<◌, Bool, true, false, cond, ◌&&◌, ◌||◌, ◌==◌, not, [], ◌∷◌, ◌++◌, refl, ap₂, ◌∙◌, arith}
use Rattle.std.specs.Prelude.{IsAscii, decimal, nat_lt}
use Rattle.std.specs.Char.{digit_char, is_ascii_digit}
use Rattle.std.specs.List.{list_all}
use Rattle.std.specs.Str.{all_ascii_digits}
use Rattle.std.proofs.lemmas.Bool.{and_parts, not-true}
use Rattle.std.proofs.lemmas.Bool.Decides.{nat_tests}
use Rattle.std.proofs.lemmas.Fmt.{digits_decimal}
use Rattle.std.proofs.lemmas.List.Elements.{All-weaker}
use Rattle.std.proofs.lemmas.List.Folds.{list_all-append}
use Rattle.std.proofs.lemmas.List.Sums.{AllPass-from_list_all}
use Rattle.json.specs.Print.{escape, escape_byte, escape_letter, quoted}
use Rattle.serde_json.specs.Data.{Data, null, boolean, number, unsigned, negative, float, string, array, object, Members, no_members, member}
use Rattle.serde_json.specs.Written.{comma_if, compact_text, members_text}
use Rattle.command_text.specs.Held.{HasNoFeed}
use Rattle.house_base.proofs.Digits.{numerals}
use Rattle.house_base.specs.Text.{Text}

-- a byte of ASCII that is no line feed
abbrev pub is_plain : ℕ → Bool
is_plain b = nat_lt b 128 && not (b == 10)

-- such bytes alone
abbrev pub ArePlain : Text → Type 0
ArePlain text = list_all is_plain text ≡ true

pub plain-append : (xs ys : Text) → ArePlain xs → ArePlain ys → ArePlain (xs ++ ys)
plain-append xs ys first second = list_all-append is_plain xs ys ∙ ap₂ (λ a b. a && b) first second

plain_choice : (b : Bool) (xs ys : Text) → (b ≡ true → ArePlain xs) → (b ≡ false → ArePlain ys) → ArePlain (cond b xs ys)
plain_choice true xs ys pass fail = pass refl
plain_choice false xs ys pass fail = fail refl

plain_pick : (b : Bool) (m n : ℕ) → (b ≡ true → is_plain m ≡ true) → is_plain n ≡ true → is_plain (cond b m n) ≡ true
plain_pick true m n pass fail = pass refl
plain_pick false m n pass fail = fail

-- the letter of a short escape
letter_is_plain : (x : ℕ) → is_plain (escape_letter x) ≡ true
letter_is_plain x =
    plain_pick ((x == 34) || (x == 92)) x _ (λ h. grind (arith, nat_tests))
    (plain_pick (x == 8) 98 _ (λ _. refl)
    (plain_pick (x == 12) 102 _ (λ _. refl)
    (plain_pick (x == 10) 110 _ (λ _. refl)
    (plain_pick (x == 13) 114 _ (λ _. refl)
    (plain_pick (x == 9) 116 0 (λ _. refl) refl)))))

digit_is_plain : (d : ℕ) → d < 16 → is_plain (digit_char d) ≡ true
digit_is_plain d below = grind (arith, nat_tests)

-- what stands in a string for a byte of ASCII
escaped_is_plain : (x : ℕ) → x < 128 → ArePlain (escape_byte x)
unfolding escape_byte
escaped_is_plain x below =
    let first : x / 16 < 16 = omega arith in
    let second : x % 16 < 16 = omega arith in
    plain_choice (nat_lt 0 (escape_letter x)) _ _ (λ _. rw (letter_is_plain x) refl)
    (λ _. plain_choice (nat_lt x 32) _ _ (λ _. rw (digit_is_plain (x / 16) first, digit_is_plain (x % 16) second) refl) (λ late. grind (arith, nat_tests)))

escape_is_plain : (text : Text) → IsAscii text → ArePlain (escape text)
escape_is_plain [] ascii = refl
escape_is_plain (x ∷ xs) ascii = plain-append (escape_byte x) (escape xs) (escaped_is_plain x (ascii 0)) (escape_is_plain xs (λ i. ascii (suc i)))

quoted_is_plain : (text : Text) → IsAscii text → ArePlain (quoted text)
quoted_is_plain text ascii = plain-append (escape text) (34 ∷ []) (escape_is_plain text ascii) refl

digits_are_plain : (text : Text) → all_ascii_digits text ≡ true → ArePlain text
digits_are_plain [] h = refl
digits_are_plain (x ∷ xs) h =
    let parts = and_parts (is_ascii_digit x) (all_ascii_digits xs) h in
    let first : is_plain x ≡ true = let digit = parts.0 in grind (arith, nat_tests) in
    rw (first, digits_are_plain xs parts.1) refl

number_is_plain : (n : ℕ) → n < 2 ^ 64 → ArePlain (decimal n)
number_is_plain n fits = digits_are_plain (decimal n) (digits_decimal numerals n fits)

comma_is_plain : (later : Bool) → ArePlain (comma_if later)
comma_is_plain true = refl
comma_is_plain false = refl

-- a value of texts of ASCII and whole numbers of 64 bits, with no list
abbrev mutual
  pub IsSound : Data → Type 0
  IsSound null = Unit {0}
  IsSound (boolean b) = Unit {0}
  IsSound (number (unsigned n)) = n < 2 ^ 64
  IsSound (number (negative z)) = ⊥
  IsSound (number (float x)) = ⊥
  IsSound (string text) = IsAscii text
  IsSound (array items) = ⊥
  IsSound (object members) = AreSound members

  pub AreSound : Members → Type 0
  AreSound no_members = Unit {0}
  AreSound (member key value more) = IsAscii key × IsSound value × AreSound more

-- its text is plain
mutual
  pub sound_is_plain : (value : Data) → IsSound value → ArePlain (compact_text value)
  sound_is_plain null sound = refl
  sound_is_plain (boolean true) sound = refl
  sound_is_plain (boolean false) sound = refl
  sound_is_plain (number (unsigned n)) sound = number_is_plain n sound
  sound_is_plain (number (negative z)) sound = absurd sound
  sound_is_plain (number (float x)) sound = absurd sound
  sound_is_plain (string text) sound = quoted_is_plain text sound
  sound_is_plain (array items) sound = absurd sound
  sound_is_plain (object members) sound = sound_are_plain false members sound

  sound_are_plain : (later : Bool) (members : Members) → AreSound members → ArePlain (members_text later members)
  sound_are_plain later no_members sound = refl
  sound_are_plain later (member key value more) sound =
      plain-append (comma_if later) (quoted key ++ 58 ∷ (compact_text value ++ members_text true more)) (comma_is_plain later)
      (plain-append (quoted key) (58 ∷ (compact_text value ++ members_text true more)) (quoted_is_plain key sound.0)
      (plain-append (compact_text value) (members_text true more) (sound_is_plain value sound.1) (sound_are_plain true more sound.2)))

-- ASCII, by a test
pub ascii_by_test : (text : Text) → list_all (λ b. nat_lt b 128) text ≡ true → IsAscii text
ascii_by_test [] h i = omega arith
ascii_by_test (x ∷ xs) h zero = let first = (and_parts (nat_lt x 128) _ h).0 in grind (arith, nat_tests)
ascii_by_test (x ∷ xs) h (suc i) = ascii_by_test xs (and_parts (nat_lt x 128) _ h).1 i

pub ascii_of_plain : (text : Text) → ArePlain text → IsAscii text
ascii_of_plain [] h i = omega arith
ascii_of_plain (x ∷ xs) h zero = let first = (and_parts (is_plain x) _ h).0 in grind (arith, nat_tests)
ascii_of_plain (x ∷ xs) h (suc i) = ascii_of_plain xs (and_parts (is_plain x) _ h).1 i

pub no_feed_of_plain : (text : Text) → ArePlain text → HasNoFeed text
no_feed_of_plain text h =
    All-weaker (λ b. is_plain b ≡ true) (λ b. (b == 10) ≡ false) (λ b plain. not-true (b == 10) (and_parts (nat_lt b 128) (not (b == 10)) plain).1) text
    (AllPass-from_list_all is_plain text h)
