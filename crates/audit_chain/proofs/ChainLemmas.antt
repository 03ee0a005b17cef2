-- Rows as they are written.
use Rattle.std.proofs.Common.{◌≡◌, ℕ, zero, suc, ◌+◌, ◌<◌, true, false, List, [], ◌∷◌, ◌++◌, length, get_or, Bor, refl, sym, ap, ◌∙◌, arith, append_assoc, append-nil}
use Rattle.std.specs.Prelude.{IsAscii, IsOk, IsUtf8, MatchResult, Result, Ok, Err, ◌&&◌, flat_map, nat_le, replicate}
use Rattle.std.specs.Str.{IsValidUpTo, valid_up_to}
use Rattle.std.specs.declared.str.Utf8Error.{Utf8Error}
use Rattle.std.proofs.lemmas.Bool.{and_parts}
use Rattle.std.proofs.lemmas.Bool.Decides.{nat_tests}
use Rattle.std.proofs.lemmas.Grind.{flat_map-append}
use Rattle.std.proofs.lemmas.List.FromFn.{map-range_with_len_more}
use Rattle.std.proofs.lemmas.List.Sums.{fold_more}
use Rattle.std.proofs.lemmas.Str.{IsUtf8-from_ascii}
use Rattle.serde_json.specs.Written.{has_float}
use Rattle.house_base.specs.Text.{Text}
use Rattle.house_base.specs.declared.answer.Took.{Took}
use Rattle.house_base.specs.declared.answer.Took.TheVariants.{Kept}
use Rattle.house_model.specs.Text.{Lines}
use Rattle.audit_chain.specs.Chain.{audit_bytes, digest_behind, header_row, is_printable, line_row, line_rows, link, report_row, row_at, row_text}

-- printable bytes are ASCII
pub printable_is_ascii : (line : Text) → is_printable line ≡ true → IsAscii line
printable_is_ascii [] h i = omega arith
printable_is_ascii (b ∷ bs) h zero = let first = (and_parts (nat_le 32 b && nat_le b 126) (is_printable bs) h).0 in grind (arith, nat_tests)
printable_is_ascii (b ∷ bs) h (suc i) = printable_is_ascii bs (and_parts (nat_le 32 b && nat_le b 126) (is_printable bs) h).1 i

-- no row has a number that is a float
pub no_float_in_header : (version : ℕ) → has_float (header_row version) ≡ false
unfolding header_row
no_float_in_header version = refl

pub no_float_in_report : (text : Text) → has_float (report_row text) ≡ false
unfolding report_row
no_float_in_report text = refl

-- the digest behind no line
pub digest_behind_none : (lines : Lines) → replicate 32 0 ≡ digest_behind lines 0
unfolding digest_behind
digest_behind_none [] = refl
digest_behind_none (line ∷ lines) = refl

-- the digest behind one more line
pub digest_behind_more : (lines : Lines) (i : ℕ) → i < length lines → link (digest_behind lines i) (get_or lines i []) ≡ digest_behind lines (i + 1)
unfolding digest_behind
digest_behind_more lines i below = sym (fold_more link (replicate 32 0) lines i [] below)

-- the rows of one more line
pub line_rows_more : (version : ℕ) (lines : Lines) (marks : List Took) (i : ℕ) →
    flat_map row_text (line_rows version lines marks (i + 1)) ≡ flat_map row_text (line_rows version lines marks i) ++ row_text (row_at version lines marks i)
line_rows_more version lines marks i =
    ap (flat_map row_text) (map-range_with_len_more (row_at version lines marks) 0 i i (omega arith))
    ∙ flat_map-append row_text (line_rows version lines marks i) (row_at version lines marks i ∷ [])
    ∙ ap (λ t. flat_map row_text (line_rows version lines marks i) ++ t) (append-nil (row_text (row_at version lines marks i)))

-- the whole of an audit, from its header, its lines and its report
pub audit_from_rows : (version : ℕ) (lines : Lines) (marks : List Took) (text : Text) →
    (row_text (header_row version) ++ flat_map row_text (line_rows version lines marks (length lines))) ++ row_text (report_row text) ≡ audit_bytes version lines marks text
unfolding audit_bytes
audit_from_rows version lines marks text =
    append_assoc (row_text (header_row version)) _ _
    ∙ ap (λ t. row_text (header_row version) ++ t)
    (ap (λ t. flat_map row_text (line_rows version lines marks (length lines)) ++ t) (sym (append-nil (row_text (report_row text))))
    ∙ sym (flat_map-append row_text (line_rows version lines marks (length lines)) (report_row text ∷ [])))

-- a row from its parts, where these are what stands at its index
pub row_from_parts : (version : ℕ) (lines : Lines) (marks : List Took) (i : ℕ) (mark : Took) (digest : List ℕ) (line : Text) →
    mark ≡ get_or marks i Kept → digest ≡ digest_behind lines (i + 1) → line ≡ get_or lines i [] →
    line_row version mark digest (i + 1) line ≡ row_at version lines marks i
row_from_parts version lines marks i mark digest line m d l = rw (m, d, l) refl

-- ASCII is text
pub text_of_ascii : (text : Text) (r : Result (Bor Text) Utf8Error) → IsAscii text →
    MatchResult r (λ s. (s.now ≡ text) × IsUtf8 text) (λ e. ¬ (IsUtf8 text) × IsValidUpTo text (valid_up_to e)) → IsOk r
text_of_ascii text (Ok s) ascii h = refl
text_of_ascii text (Err e) ascii h = absurd (h.0 (IsUtf8-from_ascii text ascii))
