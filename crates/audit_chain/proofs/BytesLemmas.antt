-- A digest is of bytes, and its digits are ASCII.
use Rattle.std.proofs.Common.{◌≡◌, ℕ, zero, suc, ◌<◌, true, List, [], ◌∷◌, ◌++◌, length, get_or, refl, arith}
use Rattle.std.specs.Prelude.{IsAscii}
use Rattle.std.proofs.Common.{w32}
use Rattle.std.specs.Int.{byte_at, bytes_high_first, to_be_bytes}
use Rattle.std.specs.List.{list_all}
use Rattle.std.proofs.lemmas.Bool.{and_parts}
use Rattle.std.proofs.lemmas.Bool.Decides.{nat_tests}
use Rattle.hex.specs.Hex.{IsBytes, encode_lower, is_hex_digit, lower_digits}
use Rattle.hex.proofs.HexLemmas.{length-encode_with}
use Rattle.sha2.specs.Sha256.{digest_bytes, final_hash, initial_hash_256, sha256}
use Rattle.sha2.proofs.Facts256.{length-sha256}
use Rattle.command_text.proofs.DigestLemmas.{is_small_digit}
use Rattle.command_text.proofs.JoinedLemmas.{digits_are_small}
use Rattle.house_base.specs.Text.{Text}
use Rattle.audit_chain.specs.Form.{is_digest_text}

bytes-append : (xs ys : List ℕ) → IsBytes xs → IsBytes ys → IsBytes (xs ++ ys)
bytes-append [] ys first second i = second i
bytes-append (x ∷ xs) ys first second zero = first 0
bytes-append (x ∷ xs) ys first second (suc i) = bytes-append xs ys (λ k. first (suc k)) second i

byte_fits : (k n : ℕ) → byte_at k n < 256
byte_fits zero n = omega arith
byte_fits (suc k) n = omega arith

bytes_of_word : (k n : ℕ) → IsBytes (bytes_high_first k n)
bytes_of_word zero n i = omega arith
bytes_of_word (suc k) n zero = byte_fits k n
bytes_of_word (suc k) n (suc i) = bytes_of_word k n i

bytes_of_words : (h : List ℕ) (n : ℕ) → IsBytes (digest_bytes h n)
unfolding digest_bytes
bytes_of_words h zero = λ i. omega arith
bytes_of_words h (suc n) = bytes-append (digest_bytes h n) (to_be_bytes w32 (get_or h n 0)) (bytes_of_words h n) (bytes_of_word 4 (get_or h n 0))

pub bytes_of_digest : (m : List ℕ) → IsBytes (sha256 m)
unfolding sha256
bytes_of_digest m = bytes_of_words (final_hash initial_hash_256 m) 8

small_is_ascii : (text : Text) → list_all is_small_digit text ≡ true → IsAscii text
small_is_ascii [] h i = omega arith
small_is_ascii (x ∷ xs) h zero = let first = (and_parts (is_small_digit x) _ h).0 in grind (arith, nat_tests)
small_is_ascii (x ∷ xs) h (suc i) = small_is_ascii xs (and_parts (is_small_digit x) _ h).1 i

-- digits in hexadecimal are ASCII
pub digits_are_ascii : (bytes : List ℕ) → IsBytes bytes → IsAscii (encode_lower bytes)
digits_are_ascii bytes h = small_is_ascii (encode_lower bytes) (digits_are_small bytes h)

small_is_digit : (b : ℕ) → is_small_digit b ≡ true → is_hex_digit b ≡ true
small_is_digit b h = grind (arith, nat_tests)

small_are_digits : (text : Text) → list_all is_small_digit text ≡ true → list_all is_hex_digit text ≡ true
small_are_digits [] h = refl
small_are_digits (x ∷ xs) h =
    let parts = and_parts (is_small_digit x) (list_all is_small_digit xs) h in
    rw (small_is_digit x parts.0, small_are_digits xs parts.1) refl

-- the digits of a digest are those of 32 bytes
pub digits_of_digest : (m : List ℕ) → is_digest_text (encode_lower (sha256 m)) ≡ true
digits_of_digest m =
    let count : length (encode_lower (sha256 m)) ≡ 64 = omega (arith, length-encode_with lower_digits (sha256 m), length-sha256 m) in
    rw (count, small_are_digits (encode_lower (sha256 m)) (digits_are_small (sha256 m) (bytes_of_digest m))) refl
