-- What a text of digits spells, as std's `parse` reads it.
use Rattle.std.proofs.Common.{◌≡◌, ℕ, zero, suc, ◌-◌, ◌≤◌, ◌<◌, ◌^◌, true, false, ◌&&◌, List, length, get_or, cond, leb, refl, ap, sym, ◌∙◌, arith, Some, None, Ok, Err, Result}
use Rattle.std.specs.Fmt.{decimal}
use Rattle.std.specs.Str.{IsUtf8, all_ascii_digits}
use Rattle.std.specs.Str.Parse.{digits_value, ParsesUnsigned}
use Rattle.std.specs.Bool.{then_some}
use Rattle.std.specs.Result.{result_ok}
use Rattle.std.proofs.lemmas.Bool.{leb-true, le-leb}
use Rattle.std.proofs.lemmas.Bool.Decides.{nat_tests}
use Rattle.std.proofs.lemmas.Fmt.{IsAscii-from_digits, decimal_digit, decimal_nonempty, digits_decimal, digits_value-decimal, first_decimal, decimal-digits_value}
use Rattle.std.proofs.lemmas.Option.{cond_some}
use Rattle.std.proofs.lemmas.Str.{IsUtf8-from_ascii}
use Rattle.std.proofs.lemmas.Str.Parse.{IsNumeralModel, parse_digits, numerals_by_value, tells_all_ascii_digits}
use Rattle.house_base.specs.Number.{is_canonical, number_up_to}

pub numerals : IsNumeralModel (λ text. all_ascii_digits text ≡ true) (digits_value 10)
numerals = numerals_by_value _ tells_all_ascii_digits

pub digits-is_canonical : (text : List ℕ) → is_canonical text ≡ true → (0 < length text) × (all_ascii_digits text ≡ true)
digits-is_canonical text canonical = grind (arith, nat_tests)

-- a canonical text is text
pub IsUtf8-is_canonical : (text : List ℕ) → is_canonical text ≡ true → IsUtf8 text
IsUtf8-is_canonical text canonical =
    IsUtf8-from_ascii text (IsAscii-from_digits text (numerals.to text (digits-is_canonical text canonical).1))

-- a text that is not canonical spells no number
pub number_up_to_other : (most : ℕ) (text : List ℕ) → is_canonical text ≡ false → None ≡ number_up_to most text
unfolding number_up_to
number_up_to_other most text other = rw other refl

-- a canonical text that `parse` reads spells what it read, if that is not above the bound
pub number_up_to_read : {E : Type 0} (most : ℕ) (text : List ℕ) (parsed : Result ℕ E) (n : ℕ) → is_canonical text ≡ true → ParsesUnsigned 64 10 text parsed →
    result_ok parsed ≡ Some n → then_some (leb n most) n ≡ number_up_to most text
unfolding number_up_to
number_up_to_read {E = E} most text (Ok m) n canonical parses read =
    let digits = digits-is_canonical text canonical in
    let parsed : Result ℕ E = Ok m in
    let value = (parse_digits numerals 64 text parsed parses digits.1).1 in
    let same : digits_value 10 text ≡ n = cc in
    rw (canonical, same) (elim (leb n most) as (λ b. then_some b n ≡ cond b (Some n) None) [ true ↦ refl | false ↦ refl ])
number_up_to_read most text (Err e) n canonical parses read = absurd (cc)

-- a canonical text that `parse` does not read spells a number above the bound
pub number_up_to_unread : {E : Type 0} (most : ℕ) (text : List ℕ) (parsed : Result ℕ E) → most < 2 ^ 64 → is_canonical text ≡ true → ParsesUnsigned 64 10 text parsed →
    result_ok parsed ≡ None → None ≡ number_up_to most text
unfolding number_up_to
number_up_to_unread most text (Ok m) fits canonical parses unread = absurd (cc)
number_up_to_unread {E = E} most text (Err e) fits canonical parses unread =
    let digits = digits-is_canonical text canonical in
    let parsed : Result ℕ E = Err e in
    let large = parse_digits numerals 64 text parsed parses digits.1 in
    let above : leb (digits_value 10 text) most ≡ false =
    elim (leb (digits_value 10 text) most) as (λ b. leb (digits_value 10 text) most ≡ b → b ≡ false) [
      | true ↦ λ within. absurd (large (digits.0, omega (arith, leb-true _ _ within)))
      | false ↦ λ _. refl
    ] refl in
    rw (canonical, above) refl

-- what a number prints as is canonical
pub is_canonical-decimal : (n : ℕ) → n < 2 ^ 64 → is_canonical (decimal n) ≡ true
is_canonical-decimal zero fits = rw (decimal_digit 0 (omega arith)) refl
is_canonical-decimal (suc n) fits =
    let nonempty = decimal_nonempty (suc n) fits in
    let digits = digits_decimal numerals (suc n) fits in
    let first = first_decimal (suc n) (omega arith) fits in
    grind (arith, nat_tests)

-- what a number prints as spells it
pub number_up_to-decimal : (n : ℕ) → n < 2 ^ 64 → number_up_to (2 ^ 64 - 1) (decimal n) ≡ Some n
unfolding number_up_to
number_up_to-decimal n fits =
    let within : leb n (2 ^ 64 - 1) ≡ true = le-leb n (2 ^ 64 - 1) (omega arith) in
    rw (is_canonical-decimal n fits, digits_value-decimal numerals n fits, within) refl

-- a text that spells a number is what it prints as
pub decimal-number_up_to : (most : ℕ) (text : List ℕ) (n : ℕ) → most < 2 ^ 64 → number_up_to most text ≡ Some n → text ≡ decimal n
unfolding number_up_to
decimal-number_up_to most text n fits spells =
    let read = cond_some (is_canonical text && leb (digits_value 10 text) most) (digits_value 10 text) n spells in
    let canonical : is_canonical text ≡ true = grind (arith, nat_tests) in
    let within : digits_value 10 text ≤ most = grind (arith, nat_tests) in
    let digits = digits-is_canonical text canonical in
    let first : get_or text 0 0 ≡ 48 → length text ≡ 1 = λ zeroed. grind (arith, nat_tests) in
    sym (decimal-digits_value numerals text digits.1 digits.0 first (omega arith)) ∙ ap decimal read.1
