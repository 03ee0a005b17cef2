-- Which words are digests in hexadecimal.
use Rattle.std.proofs.Common.{◌≡◌, ℕ, true, List, length, arith, ◌==◌, ◌&&◌, ◌||◌}
use Rattle.std.specs.Prelude.{Bool, Result, Ok, Err, IsOk, IfErr, is_ok, nat_le}
use Rattle.std.specs.List.{list_all}
use Rattle.std.proofs.lemmas.Bool.{and_parts, eqb-true}
use Rattle.std.proofs.lemmas.Bool.Decides.{nat_tests}
use Rattle.std.proofs.lemmas.List.Elements.{All-weaker}
use Rattle.std.proofs.lemmas.List.Sums.{AllPass-from_list_all}
use Rattle.hex.specs.Hex.{decode_sized, is_hex_digit}
use Rattle.hex.proofs.HexLemmas.{IsOk-decode_sized}
use Rattle.house_model.specs.Verbs.{is_hex64}

-- a digit of 0-9 and a-f
abbrev pub is_small_digit : ℕ → Bool
is_small_digit b = (nat_le 48 b && nat_le b 57) || (nat_le 97 b && nat_le b 102)

small_digit : (b : ℕ) → is_small_digit b ≡ true → is_hex_digit b ≡ true
small_digit b h = grind (arith, nat_tests)

pub parts_of_hex64 : (w : List ℕ) → is_hex64 w ≡ true → (length w ≡ 64) × (list_all is_small_digit w ≡ true)
unfolding is_hex64
parts_of_hex64 w h =
    let parts = and_parts (length w == 64) (list_all is_small_digit w) h in
    (eqb-true (length w) 64 parts.0, parts.1)

-- a word of 64 such digits is the text of 32 bytes
pub hex64_decodes : (w : List ℕ) → is_hex64 w ≡ true → IsOk (decode_sized w 32)
hex64_decodes w h =
    let parts = parts_of_hex64 w h in
    (IsOk-decode_sized w 32).1 (
      parts.0,
      All-weaker (λ b. is_small_digit b ≡ true) (λ b. is_hex_digit b ≡ true) small_digit w (AllPass-from_list_all is_small_digit w parts.1),
    )

pub not_err : {A B : Type 0} (P : B → Type 0) (r : Result A B) → is_ok r ≡ true → IfErr r P
not_err P (Ok x) h = tt
not_err P (Err e) h = cc
