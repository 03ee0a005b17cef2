-- The text of a row, as its pieces.
use Rattle.std.proofs.Common.{◌≡◌, ℕ, ◌+◌, ◌<◌, ◌≤◌, Bool, true, false, ◌&&◌, ◌||◌, ◌==◌, List, [], ◌∷◌, ◌++◌, length, get_or, take, refl, sym, ap, ◌∙◌, subst, arith, append_assoc, append-nil}
use Rattle.std.specs.Prelude.{codes, decimal, nat_le}
use Rattle.std.specs.List.{list_all}
use Rattle.std.proofs.lemmas.Bool.{and_parts, eqb-true}
use Rattle.std.proofs.lemmas.Bool.Decides.{nat_tests}
use Rattle.std.proofs.lemmas.Grind.{flat_map-append}
use Rattle.std.proofs.lemmas.List.{take_more}
use Rattle.std.proofs.lemmas.List.Sums.{AllPass-from_list_all}
use Rattle.hex.specs.Hex.{IsBytes, encode_lower}
use Rattle.json.specs.Print.{escape, escape_byte}
use Rattle.json.proofs.Printed.Strings.{escape_byte_plain}
use Rattle.command_text.proofs.DigestLemmas.{is_small_digit}
use Rattle.command_text.proofs.JoinedLemmas.{digits_are_small}
use Rattle.house_base.specs.Text.{Text}
use Rattle.house_base.specs.declared.answer.Kind.TheVariants as kind
use Rattle.house_base.specs.declared.answer.Took.{Took}
use Rattle.house_base.specs.declared.answer.Took.TheVariants.{Kept, Aside}
use Rattle.audit_chain.specs.Chain.{digits_row, goes_as_text, is_printable, line_row, mark_word, row_text, text_row}
use Rattle.audit_chain.specs.Printed.{digits_end, row_head, text_end}

small_digits_stay : (text : Text) → list_all is_small_digit text ≡ true → escape text ≡ text
small_digits_stay [] h = refl
small_digits_stay (x ∷ xs) h =
    let parts = and_parts (is_small_digit x) (list_all is_small_digit xs) h in
    let first = parts.0 in
    let quote : x ≡ 34 → ⊥ = λ e. grind (arith, nat_tests) in
    let backslash : x ≡ 92 → ⊥ = λ e. grind (arith, nat_tests) in
    let low : 32 ≤ x = grind (arith, nat_tests) in
    rw (escape_byte_plain x quote backslash low) (ap (λ t. x ∷ t) (small_digits_stay xs parts.1))

-- digits in hexadecimal need no escape
pub digits_stay : (bytes : List ℕ) → IsBytes bytes → escape (encode_lower bytes) ≡ encode_lower bytes
digits_stay bytes h = small_digits_stay (encode_lower bytes) (digits_are_small bytes h)

-- nor does the word of a mark
mark_stays : (mark : Took) → escape (mark_word mark) ≡ mark_word mark
unfolding escape_byte
mark_stays Kept = refl
mark_stays (Aside kind.Form) = refl
mark_stays (Aside kind.Early) = refl
mark_stays (Aside kind.Late) = refl
mark_stays (Aside kind.Unknown) = refl
mark_stays (Aside kind.Unassigned) = refl
mark_stays (Aside kind.Range) = refl

-- a string's end inside a text
close : (s more end : Text) → ((s ++ 34 ∷ []) ++ more) ++ end ≡ s ++ 34 ∷ (more ++ end)
close s more end = append_assoc (s ++ 34 ∷ []) more end ∙ append_assoc s (34 ∷ []) (more ++ end)

text_pieces : (word digest line : Text) (place : ℕ) → escape word ≡ word → escape digest ≡ digest →
    row_head word digest ++ text_end place line ≡ row_text (text_row word digest place line)
unfolding escape_byte
text_pieces word digest line place w d =
    rw (w, d)
    (ap (λ t. codes "{\"aside\":\"" ++ t)
    (append_assoc word (codes "\",\"digest\":\"" ++ digest) (text_end place line)
    ∙ sym
    (close word _ (10 ∷ [])
    ∙ ap (λ t. word ++ (codes "\",\"digest\":\"" ++ t))
    (close digest _ (10 ∷ [])
    ∙ ap (λ t. digest ++ (codes "\",\"line\":" ++ t))
    (append_assoc (decimal place) _ (10 ∷ []) ∙ ap (λ t. decimal place ++ (codes ",\"text\":\"" ++ t)) (close (escape line) (125 ∷ []) (10 ∷ [])))))))

digits_pieces : (word digest digits : Text) (place : ℕ) → escape word ≡ word → escape digest ≡ digest → escape digits ≡ digits →
    row_head word digest ++ digits_end digits place ≡ row_text (digits_row word digest digits place)
unfolding escape_byte
digits_pieces word digest digits place w d l =
    rw (w, d, l)
    (ap (λ t. codes "{\"aside\":\"" ++ t)
    (append_assoc word (codes "\",\"digest\":\"" ++ digest) (digits_end digits place)
    ∙ sym
    (close word _ (10 ∷ [])
    ∙ ap (λ t. word ++ (codes "\",\"digest\":\"" ++ t))
    (close digest _ (10 ∷ [])
    ∙ ap (λ t. digest ++ (codes "\",\"hex\":\"" ++ t))
    (close digits _ (10 ∷ []) ∙ ap (λ t. digits ++ (codes "\",\"line\":" ++ t)) (append_assoc (decimal place) (125 ∷ []) (10 ∷ [])))))))

-- the pieces of a line that goes as text
pub text_row_printed : (version : ℕ) (mark : Took) (digest : List ℕ) (place : ℕ) (line : Text) → IsBytes digest → goes_as_text version line ≡ true →
    row_head (mark_word mark) (encode_lower digest) ++ text_end place line ≡ row_text (line_row version mark digest place line)
unfolding line_row
text_row_printed version mark digest place line bytes is = rw is (text_pieces (mark_word mark) (encode_lower digest) line place (mark_stays mark) (digits_stay digest bytes))

-- and of one that goes as digits
pub digits_row_printed : (version : ℕ) (mark : Took) (digest : List ℕ) (place : ℕ) (line : Text) → IsBytes digest → IsBytes line → goes_as_text version line ≡ false →
    row_head (mark_word mark) (encode_lower digest) ++ digits_end (encode_lower line) place ≡ row_text (line_row version mark digest place line)
unfolding line_row
digits_row_printed version mark digest place line bytes own is =
    rw is (digits_pieces (mark_word mark) (encode_lower digest) (encode_lower line) place (mark_stays mark) (digits_stay digest bytes) (digits_stay line own))

-- one more character
pub escape_more : (text : Text) (i : ℕ) → i < length text → escape (take (i + 1) text) ≡ escape (take i text) ++ escape_byte (get_or text i 0)
escape_more text i below =
    ap escape (take_more text i 0 below) ∙ flat_map-append escape_byte (take i text) (get_or text i 0 ∷ []) ∙ ap (λ t. escape (take i text) ++ t) (append-nil (escape_byte (get_or text i 0)))

pub printable_low : (text : Text) (i : ℕ) → i < length text → is_printable text ≡ true → 32 ≤ get_or text i 0
printable_low text i below h =
    let at = AllPass-from_list_all (λ b. nat_le 32 b && nat_le b 126) text h i 0 below in
    grind (arith, nat_tests)

quote_escaped : escape_byte 34 ≡ 92 ∷ 34 ∷ []
unfolding escape_byte
quote_escaped = refl

backslash_escaped : escape_byte 92 ≡ 92 ∷ 92 ∷ []
unfolding escape_byte
backslash_escaped = refl

pub escape_special : (x : ℕ) → ((x == 34) || (x == 92)) ≡ true → escape_byte x ≡ 92 ∷ x ∷ []
escape_special x h = go (x == 34) (x == 92) refl refl h
  where
    go : (a b : Bool) → (x == 34) ≡ a → (x == 92) ≡ b → (a || b) ≡ true → escape_byte x ≡ 92 ∷ x ∷ []
    go true b e f h = subst (λ n. escape_byte n ≡ 92 ∷ n ∷ []) (sym (eqb-true x 34 e)) quote_escaped
    go false true e f h = subst (λ n. escape_byte n ≡ 92 ∷ n ∷ []) (sym (eqb-true x 92 f)) backslash_escaped
    go false false e f h = absurd (let wrong : ⊥ = cc in wrong)

pub escape_other : (x : ℕ) → 32 ≤ x → ((x == 34) || (x == 92)) ≡ false → escape_byte x ≡ x ∷ []
escape_other x low h = escape_byte_plain x (λ e. grind (arith, nat_tests)) (λ e. grind (arith, nat_tests)) low
