-- The names of a trial.
use Rattle.std.proofs.Common.{◌≡◌, ℕ, ◌+◌, ◌^◌, ◌<◌, ◌≤◌, true, List, [], ◌∷◌, ◌++◌, length, get_or, map, refl, sym, ap, ◌∙◌, arith}
use Rattle.std.specs.Prelude.{decimal}
use Rattle.std.specs.List.{list_all}
use Rattle.std.specs.Char.{is_ascii_digit}
use Rattle.std.specs.Str.{all_ascii_digits}
use Rattle.std.proofs.lemmas.Bool.{and_from, and_parts, le-leb}
use Rattle.std.proofs.lemmas.Bool.Decides.{nat_tests}
use Rattle.std.proofs.lemmas.Fmt.{decimal_injective, digits_decimal, length-decimal-le}
use Rattle.std.proofs.lemmas.List.{get_or-map, length-map, map-append}
use Rattle.house_base.specs.Name.{is_letter, is_name, is_name_byte}
use Rattle.house_base.specs.Text.{Text}
use Rattle.house_base.specs.declared.limits.TheConstants.{MOST_APPLICANTS, MOST_NAME_BYTES}
use Rattle.house_base.proofs.Digits.{numerals}
use Rattle.peer_selection.specs.Counting.{numbers_below}
use Rattle.peer_selection.proofs.CountingLemmas.{get_or-numbers_below, length-numbers_below, numbers_below-add_one}
use Rattle.trial_file.specs.Trial.{trial_name, trial_names}

digit_in_name : (b : ℕ) → is_ascii_digit b ≡ true → is_name_byte b ≡ true
digit_in_name b h = grind (arith, nat_tests)

digits_in_name : (w : Text) → all_ascii_digits w ≡ true → list_all is_name_byte w ≡ true
digits_in_name [] h = refl
digits_in_name (x ∷ xs) h =
    let parts = and_parts (is_ascii_digit x) (all_ascii_digits xs) h in
    and_from (is_name_byte x) (list_all is_name_byte xs) (digit_in_name x parts.0) (digits_in_name xs parts.1)

-- they are of the form of a name
pub name_formed : (i : ℕ) → i ≤ MOST_APPLICANTS → is_name (trial_name i) ≡ true
unfolding is_name
name_formed i small =
    let fits : i < 2 ^ 64 = omega (arith, small) in
    let short : length (decimal i) ≤ 4 = length-decimal-le 4 i (omega arith) (omega (arith, small)) fits in
    let room : length (112 ∷ decimal i) ≤ MOST_NAME_BYTES = omega (arith, short) in
    let digits = digits_in_name (decimal i) (digits_decimal numerals i fits) in
    and_from _ (list_all is_name_byte (112 ∷ decimal i))
    (and_from _ (is_letter 112) (le-leb (length (112 ∷ decimal i)) MOST_NAME_BYTES room) refl)
    (and_from (is_name_byte 112) (list_all is_name_byte (decimal i)) refl digits)

-- and different
pub names_apart : (i j : ℕ) → i ≤ MOST_APPLICANTS → j ≤ MOST_APPLICANTS → trial_name i ≡ trial_name j → i ≡ j
names_apart i j small few same =
    let digits : decimal i ≡ decimal j = let whole : 112 ∷ decimal i ≡ 112 ∷ decimal j = same in cc in
    decimal_injective i j (omega (arith, small)) (omega (arith, few)) digits

-- so many of them
pub names-none : trial_names 0 ≡ []
unfolding trial_names numbers_below
names-none = refl

pub names-more : (n : ℕ) → trial_names (n + 1) ≡ trial_names n ++ trial_name (n + 1) ∷ []
unfolding trial_names
names-more n = ap (map (λ i. trial_name (i + 1))) (numbers_below-add_one n) ∙ map-append (λ i. trial_name (i + 1)) (numbers_below n) (n ∷ [])

pub names-count : (n : ℕ) → length (trial_names n) ≡ n
unfolding trial_names
names-count n = length-map (numbers_below n) (λ i. trial_name (i + 1)) ∙ length-numbers_below n

pub name-at : (n i : ℕ) (d : Text) → i < n → get_or (trial_names n) i d ≡ trial_name (i + 1)
unfolding trial_names
name-at n i d l =
    get_or-map (λ j. trial_name (j + 1)) (numbers_below n) i 0 d (omega (arith, length-numbers_below n, l))
    ∙ ap (λ j. trial_name (j + 1)) (get_or-numbers_below n i 0 l)

pub are_names : (names : List Text) (n : ℕ) → names ≡ trial_names n → names ≡ trial_names (length names)
are_names names n are = are ∙ ap trial_names (sym (ap length are ∙ names-count n))

pub names_many : (names : List Text) (n : ℕ) → names ≡ trial_names n → length names ≡ n
names_many names n are = ap length are ∙ names-count n

pub one_name_more : (names grown : List Text) (name : Text) (n : ℕ) → grown ≡ names ++ name ∷ [] → names ≡ trial_names n → name ≡ trial_name (n + 1) → grown ≡ trial_names (n + 1)
one_name_more names grown name n pushed are is =
    pushed ∙ ap (λ ns. ns ++ name ∷ []) are ∙ ap (λ t. trial_names n ++ t ∷ []) is ∙ sym (names-more n)
