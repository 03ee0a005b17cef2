-- The words of a slip's text that have parts, and numbers in words, read again.
use Rattle.std.proofs.Common.{◌≡◌, ℕ, suc, ◌+◌, ◌-◌, ◌^◌, ◌<◌, ◌≤◌, ◌∙◌, true, false, eqb, [], ◌∷◌, ◌++◌, length, take, drop, refl, ap, arith, Some}
use Rattle.std.specs.Prelude.{IsTrue, decimal, not}
use Rattle.std.specs.Char.{is_ascii_digit}
use Rattle.std.specs.List.{after_first, before_first, list_all, position_or_len}
use Rattle.std.specs.Str.{all_ascii_digits}
use Rattle.std.proofs.lemmas.Bool.{and_parts, le-leb, not-true}
use Rattle.std.proofs.lemmas.Bool.Decides.{nat_tests}
use Rattle.std.proofs.lemmas.Fmt.{digits_decimal, digits_value-decimal}
use Rattle.std.proofs.Math.Seq.{take-append_seam}
use Rattle.house_base.specs.Name.{is_name, is_name_byte}
use Rattle.house_base.specs.Number.{is_canonical, number_up_to}
use Rattle.house_base.specs.Text.{Text}
use Rattle.house_base.specs.declared.limits.TheConstants.{MOST_POINTS}
use Rattle.house_base.proofs.Digits.{is_canonical-decimal, number_up_to-decimal, numerals}
use Rattle.house_model.specs.Faults.{is_within}
use Rattle.house_model.specs.Report.{over}
use Rattle.house_model.specs.Said.{number}
use Rattle.command_text.proofs.JoinedLemmas.{name_parts}
use Rattle.command_text.proofs.NumberLemmas.{number_is, within_is}
use Rattle.slip_check.specs.Form.{before_colon, before_slash, behind_colon, behind_slash, cell_in, is_cell, is_share}
use Rattle.slip_check.specs.Limits.{IsCell}
use Rattle.slip_check.specs.Slip.{Cell, cell_text}

-- Numbers.

decimal-up_to : (most n : ℕ) → most < 2 ^ 64 → n ≤ most → number_up_to most (decimal n) ≡ Some n
unfolding number_up_to
decimal-up_to most n fits l =
    let small : n < 2 ^ 64 = omega arith in
    rw (is_canonical-decimal n small, digits_value-decimal numerals n small, le-leb n most l) refl

pub number-decimal : (n : ℕ) → n < 2 ^ 64 → number (decimal n) ≡ n
number-decimal n fits = number_is (2 ^ 64 - 1) n (decimal n) (omega arith) (number_up_to-decimal n fits)

pub within-decimal : (low high n : ℕ) → high < 2 ^ 64 → low ≤ n → n ≤ high → is_within low high (decimal n) ≡ true
within-decimal low high n fits l h = within_is low high n (decimal n) (decimal-up_to high n fits h) ∙ le-leb low n l

-- Words of two parts.

-- a byte stands nowhere in a text
abbrev Lacks : ℕ → Text → Type 0
Lacks c w = list_all (λ b. not (eqb b c)) w ≡ true

first-at : (c : ℕ) (w v : Text) → Lacks c w → position_or_len (λ b. eqb b c) (w ++ c ∷ v) ≡ length w
first-at c [] v h = rw (same c) refl
  where
    same : (c : ℕ) → eqb c c ≡ true
    same c = grind (arith, nat_tests)
first-at c (b ∷ w) v h =
    let parts = and_parts (not (eqb b c)) (list_all (λ b. not (eqb b c)) w) h in
    let other : eqb b c ≡ false = not-true (eqb b c) parts.0 in
    let rest = first-at c w v parts.1 in
    rw (other, rest) (omega arith)

before-at : (c : ℕ) (w v : Text) → Lacks c w → before_first (λ b. eqb b c) (w ++ c ∷ v) ≡ w
before-at c w v h = ap (λ n. take n (w ++ c ∷ v)) (first-at c w v h) ∙ take-append_seam w (c ∷ v)

drop-behind : (c : ℕ) (w v : Text) → drop (length w + 1) (w ++ c ∷ v) ≡ v
drop-behind c [] v = refl
drop-behind c (b ∷ w) v = let e : length (b ∷ w) + 1 ≡ suc (length w + 1) = omega arith in ap (λ n. drop n (b ∷ w ++ c ∷ v)) e ∙ drop-behind c w v

behind-at : (c : ℕ) (w v : Text) → Lacks c w → after_first (λ b. eqb b c) (w ++ c ∷ v) ≡ v
behind-at c w v h = ap (λ n. drop (n + 1) (w ++ c ∷ v)) (first-at c w v h) ∙ drop-behind c w v

-- neither a slash in a number nor a colon in a name

no_slash : (b : ℕ) → is_ascii_digit b ≡ true → not (eqb b 47) ≡ true
no_slash b h = grind (arith, nat_tests)

no_colon : (b : ℕ) → is_name_byte b ≡ true → not (eqb b 58) ≡ true
no_colon b h = grind (arith, nat_tests)

digits-lack : (w : Text) → all_ascii_digits w ≡ true → Lacks 47 w
digits-lack [] h = refl
digits-lack (b ∷ w) h =
    let parts = and_parts (is_ascii_digit b) (all_ascii_digits w) h in
    rw (no_slash b parts.0, digits-lack w parts.1) refl

name-lacks : (w : Text) → list_all is_name_byte w ≡ true → Lacks 58 w
name-lacks [] h = refl
name-lacks (b ∷ w) h =
    let parts = and_parts (is_name_byte b) (list_all is_name_byte w) h in
    rw (no_colon b parts.0, name-lacks w parts.1) refl

-- Shares.

number-lacks : (n : ℕ) → n < 2 ^ 64 → Lacks 47 (decimal n)
number-lacks n fits = digits-lack (decimal n) (digits_decimal numerals n fits)

pub before-over : (x y : ℕ) → x < 2 ^ 64 → before_slash (over x y) ≡ decimal x
unfolding over
before-over x y fits = before-at 47 (decimal x) (decimal y) (number-lacks x fits)

pub behind-over : (x y : ℕ) → x < 2 ^ 64 → behind_slash (over x y) ≡ decimal y
unfolding over
behind-over x y fits = behind-at 47 (decimal x) (decimal y) (number-lacks x fits)

pub share-over : (x y : ℕ) → x < 2 ^ 64 → y < 2 ^ 64 → is_share (over x y) ≡ true
unfolding is_share
share-over x y xl yl =
    let within : is_within 0 (2 ^ 64 - 1) (before_slash (over x y)) ≡ true =
    ap (is_within 0 (2 ^ 64 - 1)) (before-over x y xl) ∙ within-decimal 0 (2 ^ 64 - 1) x (omega arith) (omega arith) (omega arith) in
    let canonical : is_canonical (behind_slash (over x y)) ≡ true = ap is_canonical (behind-over x y xl) ∙ is_canonical-decimal y yl in
    rw (within, canonical) refl

-- Cells.

before-cell : (c : Cell) → IsTrue (is_name c.proposal) → before_colon (cell_text c) ≡ c.proposal
unfolding cell_text
before-cell c h = before-at 58 c.proposal (decimal c.points) (name-lacks c.proposal (name_parts c.proposal h).1)

behind-cell : (c : Cell) → IsTrue (is_name c.proposal) → behind_colon (cell_text c) ≡ decimal c.points
unfolding cell_text
behind-cell c h = behind-at 58 c.proposal (decimal c.points) (name-lacks c.proposal (name_parts c.proposal h).1)

pub before_colon-cell : (c : Cell) → IsCell c → before_colon (cell_text c) ≡ c.proposal
before_colon-cell c h = before-cell c h.formed

pub is_cell-text : (c : Cell) → IsCell c → is_cell (cell_text c) ≡ true
unfolding is_cell
is_cell-text c h =
    let name : is_name (before_colon (cell_text c)) ≡ true = ap is_name (before-cell c h.formed) ∙ h.formed in
    let points : is_within 0 MOST_POINTS (behind_colon (cell_text c)) ≡ true =
    ap (is_within 0 MOST_POINTS) (behind-cell c h.formed) ∙ within-decimal 0 MOST_POINTS c.points (omega arith) (omega arith) h.most in
    rw (name, points) refl

abbrev cell_with : Text → ℕ → Cell
cell_with w n = record { proposal = w; points = n }

pub cell_in-text : (c : Cell) → IsCell c → cell_in (cell_text c) ≡ c
unfolding cell_in
cell_in-text c h =
    let points : number (behind_colon (cell_text c)) ≡ c.points =
    ap number (behind-cell c h.formed) ∙ number-decimal c.points (omega (arith, h.most)) in
    ap (λ w. cell_with w (number (behind_colon (cell_text c)))) (before-cell c h.formed) ∙ ap (cell_with c.proposal) points
