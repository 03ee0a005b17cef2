-- Names, numbers and quotients are words.
use Rattle.std.proofs.Common.{◌≡◌, ℕ, zero, suc, ◌/◌, ◌%◌, ◌<◌, Bool, true, not, eqb, [], ◌∷◌, ◌++◌, refl, ◌∙◌, arith}
use Rattle.std.specs.Prelude.{decimal}
use Rattle.std.specs.Fmt.{digits, digits_onto, digit_glyph}
use Rattle.std.specs.List.{list_all}
use Rattle.std.proofs.lemmas.Bool.{and_parts, and_from, cond_both}
use Rattle.std.proofs.lemmas.Bool.Decides.{nat_tests}
use Rattle.std.proofs.lemmas.List.Elements.{All-weaker}
use Rattle.std.proofs.lemmas.List.Folds.{list_all-append}
use Rattle.std.proofs.lemmas.List.Sums.{AllPass-from_list_all, list_all-from_AllPass}
use Rattle.house_base.specs.Name.{is_name, is_name_byte}
use Rattle.house_base.specs.Text.{Text}
use Rattle.house_model.specs.Report.{over}
use Rattle.house_model.specs.Text.{is_empty}
use Rattle.house_model.proofs.RowTextLemmas.{is_plain, is_word}

pub word_bytes : (w : Text) → is_word w ≡ true → list_all is_plain w ≡ true
word_bytes w h = (and_parts (not (is_empty w)) (list_all is_plain w) h).1

-- a name is a word

name_byte_plain : (b : ℕ) → is_name_byte b ≡ true → is_plain b ≡ true
name_byte_plain b h = grind (arith, nat_tests)

pub name_parts : (w : Text) → is_name w ≡ true → (not (is_empty w) ≡ true) × (list_all is_name_byte w ≡ true)
unfolding is_name
name_parts [] h = cc
name_parts (x ∷ xs) h = (refl, grind (arith, nat_tests))

pub word_of_name : (w : Text) → is_name w ≡ true → is_word w ≡ true
word_of_name w h =
    let parts = name_parts w h in
    and_from (not (is_empty w)) (list_all is_plain w) parts.0
    (list_all-from_AllPass is_plain w (All-weaker (λ b. is_name_byte b ≡ true) (λ b. is_plain b ≡ true) name_byte_plain w (AllPass-from_list_all is_name_byte w parts.1)))

-- a number in decimals is a word

abbrev last_digit : ℕ → ℕ
last_digit n = digit_glyph Bool.false (n % 10)

digit_plain : (d : ℕ) → d < 10 → is_plain (digit_glyph Bool.false d) ≡ true
digit_plain d below = grind (arith, nat_tests)

last_digit_plain : (n : ℕ) → is_plain (last_digit n) ≡ true
last_digit_plain n = digit_plain (n % 10) (omega arith)

with_digit : (n : ℕ) (acc : Text) → list_all is_plain acc ≡ true → is_word (last_digit n ∷ acc) ≡ true
with_digit n acc h = and_from (is_plain (last_digit n)) (list_all is_plain acc) (last_digit_plain n) h

digits_before : (k n : ℕ) (acc : Text) → is_word acc ≡ true → is_word (digits_onto k 10 Bool.false n acc) ≡ true
digits_before zero n acc h = h
digits_before (suc k) n acc h =
    let more = with_digit n acc (word_bytes acc h) in
    cond_both (eqb (n / 10) 0) (last_digit n ∷ acc) (digits_onto k 10 Bool.false (n / 10) (last_digit n ∷ acc)) (λ ds. is_word ds ≡ true)
    (λ _. more)
    (λ _. digits_before k (n / 10) (last_digit n ∷ acc) more)

digits_word : (k n : ℕ) → is_word (digits_onto (suc k) 10 Bool.false n []) ≡ true
digits_word k n =
    let more = with_digit n [] refl in
    cond_both (eqb (n / 10) 0) (last_digit n ∷ []) (digits_onto k 10 Bool.false (n / 10) (last_digit n ∷ [])) (λ ds. is_word ds ≡ true)
    (λ _. more)
    (λ _. digits_before k (n / 10) (last_digit n ∷ []) more)

pub word_of_number : (n : ℕ) → is_word (decimal n) ≡ true
unfolding digits
word_of_number n = digits_word 63 n

-- so is a quotient

longer : (w : Text) (more : Text) → is_word w ≡ true → list_all is_plain more ≡ true → is_word (w ++ more) ≡ true
longer [] more h all = cc
longer (b ∷ w) more h all =
    list_all-append is_plain (b ∷ w) more ∙ and_from (list_all is_plain (b ∷ w)) (list_all is_plain more) h all

pub word_of_quotient : (x y : ℕ) → is_word (over x y) ≡ true
unfolding over
word_of_quotient x y = longer (decimal x) (47 ∷ decimal y) (word_of_number x) (word_bytes (decimal y) (word_of_number y))
