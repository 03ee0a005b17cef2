-- Each row, as its text is read.
use Rattle.std.proofs.Common.{◌≡◌, ℕ, ◌^◌, ◌<◌, ◌≤◌, ◌==◌, Bool, true, false, cond, ◌&&◌, ◌⊎◌, inl, inr, List, [], ◌++◌, Option, Some, None, refl, sym, ap, ◌∙◌, arith, append-nil}
use Rattle.std.specs.Prelude.{IsAscii, codes, option_and_then}
use Rattle.std.proofs.lemmas.List.Folds.{list_any_none}
use Rattle.std.proofs.lemmas.Bool.{and_parts}
use Rattle.std.proofs.lemmas.Str.{IsUtf8-from_ascii}
use Rattle.hex.specs.Hex.{IsBytes, encode_lower}
use Rattle.hex.proofs.HexLemmas.{decode_of-encode_lower}
use Rattle.json.specs.Lex.{tokens}
use Rattle.json.specs.Json as json
use Rattle.json.specs.Tree as tree
use Rattle.json.specs.Token.{Token}
use Rattle.json.proofs.Printed.Decimals.{IsNumber-decimal}
use Rattle.json.proofs.Printed.Tokens.{tokens-print}
use Rattle.json.proofs.Printed.Trees.{ArePrintable-json_tokens, value-json_tokens}
use Rattle.serde_json.specs.Data.{Data}
use Rattle.serde_json.specs.Read.{max_depth, of_json}
use Rattle.serde_json.specs.Written.{compact_text, outline}
use Rattle.serde_json.proofs.Numbers.{number_of-decimal}
use Rattle.serde_json.proofs.Texts.{print-outline}
use Rattle.command_text.specs.Held.{HasNoFeed}
use Rattle.house_base.specs.Text.{Text}
use Rattle.house_base.specs.declared.answer.Kind.TheVariants as kind
use Rattle.house_base.specs.declared.answer.Took.{Took}
use Rattle.house_base.specs.declared.answer.Took.TheVariants.{Kept, Aside}
use Rattle.audit_chain.specs.Chain.{digits_row, format_name, goes_as_text, header_row, is_printable, line_row, mark_word, report_row, text_row}
use Rattle.audit_chain.specs.Form.{is_digest_text, is_line_value, is_mark_word, is_report_value, line_named, value_of, version_named, without_feed}
use Rattle.audit_chain.proofs.BytesLemmas.{digits_are_ascii}
use Rattle.audit_chain.proofs.ChainLemmas.{printable_is_ascii}
use Rattle.audit_chain.proofs.FormLemmas.{value_read}
use Rattle.audit_chain.proofs.PlainLemmas.{IsSound, ascii_by_test, ascii_of_plain, sound_is_plain}

-- the value that tokens stand for
abbrev read_tokens : List Token → Option Data
read_tokens ts = option_and_then of_json (option_and_then (λ p. json.if_last p.0 p.1) (json.value max_depth ts))

-- a value whose text is plain is read back
back : (d : Data) → IsSound d → tree.HasNumbers (outline d) → of_json (outline d) ≡ Some d → tree.depth (outline d) ≤ max_depth → value_of (compact_text d) ≡ Some d
back d sound numbers same shallow =
    let ts = tree.json_tokens (outline d) in
    let printed : tokens (compact_text d) ≡ ts ++ [] =
    ap tokens (sym (print-outline d)) ∙ tokens-print ts (ArePrintable-json_tokens (outline d) numbers) ∙ sym (append-nil ts) in
    value_read (compact_text d) d (IsUtf8-from_ascii (compact_text d) (ascii_of_plain (compact_text d) (sound_is_plain d sound)))
    (ap read_tokens printed
    ∙ ap (λ o. option_and_then of_json (option_and_then (λ p. json.if_last p.0 p.1) o)) (value-json_tokens (outline d) max_depth [] shallow)
    ∙ same)

-- the first row
pub header_is_sound : (version : ℕ) → version < 2 ^ 64 → IsSound (header_row version)
unfolding header_row
header_is_sound version fits =
    (ascii_by_test (codes "format") refl, ascii_by_test format_name refl, (ascii_by_test (codes "version") refl, fits, tt))

pub header_back : (version : ℕ) → version < 2 ^ 64 → value_of (compact_text (header_row version)) ≡ Some (header_row version)
unfolding header_row
header_back version fits =
    back (header_row version) (header_is_sound version fits) (tt, (IsNumber-decimal version fits, tt)) (let number = number_of-decimal version fits in rw number refl) (omega arith)

-- the last row
pub report_is_sound : (text : Text) → IsAscii text → IsSound (report_row text)
unfolding report_row
report_is_sound text ascii = (ascii_by_test (codes "report") refl, ascii, tt)

pub report_back : (text : Text) → IsAscii text → value_of (compact_text (report_row text)) ≡ Some (report_row text)
unfolding report_row
report_back text ascii = back (report_row text) (report_is_sound text ascii) (tt, tt) refl (omega arith)

-- a line as text
text_is_sound : (word digest : Text) (place : ℕ) (line : Text) → IsAscii word → IsAscii digest → place < 2 ^ 64 → IsAscii line → IsSound (text_row word digest place line)
text_is_sound word digest place line w d fits l = (
  ascii_by_test (codes "aside") refl,
  w,
  (ascii_by_test (codes "digest") refl, d, (ascii_by_test (codes "line") refl, fits, (ascii_by_test (codes "text") refl, l, tt))),
)

text_back : (word digest : Text) (place : ℕ) (line : Text) → place < 2 ^ 64 → IsSound (text_row word digest place line) →
    value_of (compact_text (text_row word digest place line)) ≡ Some (text_row word digest place line)
text_back word digest place line fits sound =
    back (text_row word digest place line) sound (tt, (tt, (IsNumber-decimal place fits, (tt, tt)))) (let number = number_of-decimal place fits in rw number refl) (omega arith)

-- a line as digits
digits_is_sound : (word digest digits : Text) (place : ℕ) → IsAscii word → IsAscii digest → IsAscii digits → place < 2 ^ 64 → IsSound (digits_row word digest digits place)
digits_is_sound word digest digits place w d l fits = (
  ascii_by_test (codes "aside") refl,
  w,
  (ascii_by_test (codes "digest") refl, d, (ascii_by_test (codes "hex") refl, l, (ascii_by_test (codes "line") refl, fits, tt))),
)

digits_back : (word digest digits : Text) (place : ℕ) → place < 2 ^ 64 → IsSound (digits_row word digest digits place) →
    value_of (compact_text (digits_row word digest digits place)) ≡ Some (digits_row word digest digits place)
digits_back word digest digits place fits sound =
    back (digits_row word digest digits place) sound (tt, (tt, (tt, (IsNumber-decimal place fits, tt)))) (let number = number_of-decimal place fits in rw number refl) (omega arith)

mark_is_ascii : (mark : Took) → IsAscii (mark_word mark)
mark_is_ascii Kept = ascii_by_test (mark_word Kept) refl
mark_is_ascii (Aside kind.Form) = ascii_by_test (codes "form") refl
mark_is_ascii (Aside kind.Early) = ascii_by_test (codes "early") refl
mark_is_ascii (Aside kind.Late) = ascii_by_test (codes "late") refl
mark_is_ascii (Aside kind.Unknown) = ascii_by_test (codes "unknown") refl
mark_is_ascii (Aside kind.Unassigned) = ascii_by_test (codes "unassigned") refl
mark_is_ascii (Aside kind.Range) = ascii_by_test (codes "range") refl

pub mark_is_word : (mark : Took) → is_mark_word (mark_word mark) ≡ true
mark_is_word Kept = refl
mark_is_word (Aside kind.Form) = refl
mark_is_word (Aside kind.Early) = refl
mark_is_word (Aside kind.Late) = refl
mark_is_word (Aside kind.Unknown) = refl
mark_is_word (Aside kind.Unassigned) = refl
mark_is_word (Aside kind.Range) = refl

-- what a row of a line is made of
pub record IsRow (digest : List ℕ) (place : ℕ) (line : Text) : Type 0 where
  pub digits : is_digest_text (encode_lower digest) ≡ true
  pub ascii : IsAscii (encode_lower digest)
  pub fits : place < 2 ^ 64
  pub bytes : IsBytes line
  pub no_feed : HasNoFeed line

-- a line's row, as text or as digits
abbrev either_row : Bool → Took → List ℕ → ℕ → Text → Data
either_row b mark digest place line =
    cond b (text_row (mark_word mark) (encode_lower digest) place line) (digits_row (mark_word mark) (encode_lower digest) (encode_lower line) place)

either_sound : (b : Bool) (mark : Took) (digest : List ℕ) (place : ℕ) (line : Text) → IsRow digest place line → (b ≡ true → is_printable line ≡ true) →
    IsSound (either_row b mark digest place line)
either_sound true mark digest place line row printable =
    text_is_sound (mark_word mark) (encode_lower digest) place line (mark_is_ascii mark) row.ascii row.fits (printable_is_ascii line (printable refl))
either_sound false mark digest place line row printable =
    digits_is_sound (mark_word mark) (encode_lower digest) (encode_lower line) place (mark_is_ascii mark) row.ascii (digits_are_ascii line row.bytes) row.fits

either_back : (b : Bool) (mark : Took) (digest : List ℕ) (place : ℕ) (line : Text) → IsRow digest place line → (b ≡ true → is_printable line ≡ true) →
    value_of (compact_text (either_row b mark digest place line)) ≡ Some (either_row b mark digest place line)
either_back true mark digest place line row printable =
    text_back (mark_word mark) (encode_lower digest) place line row.fits (either_sound true mark digest place line row printable)
either_back false mark digest place line row printable =
    digits_back (mark_word mark) (encode_lower digest) (encode_lower line) place row.fits (either_sound false mark digest place line row printable)

pub printable_where_text : (version : ℕ) (line : Text) → goes_as_text version line ≡ true → is_printable line ≡ true
printable_where_text version line h = (and_parts (version == 2) (is_printable line) h).1

pub line_is_sound : (version : ℕ) (mark : Took) (digest : List ℕ) (place : ℕ) (line : Text) → IsRow digest place line → IsSound (line_row version mark digest place line)
unfolding line_row
line_is_sound version mark digest place line row = either_sound (goes_as_text version line) mark digest place line row (printable_where_text version line)

pub line_back : (version : ℕ) (mark : Took) (digest : List ℕ) (place : ℕ) (line : Text) → IsRow digest place line →
    value_of (compact_text (line_row version mark digest place line)) ≡ Some (line_row version mark digest place line)
unfolding line_row
line_back version mark digest place line row = either_back (goes_as_text version line) mark digest place line row (printable_where_text version line)

-- a row of a line is no report
pub line_is_no_report : (version : ℕ) (mark : Took) (digest : List ℕ) (place : ℕ) (line : Text) → is_report_value (line_row version mark digest place line) ≡ false
unfolding line_row is_report_value
line_is_no_report version mark digest place line = go (goes_as_text version line)
  where
    go : (b : Bool) → is_report_value (either_row b mark digest place line) ≡ false
    go true = refl
    go false = refl

no_feed_found : (line : Text) → HasNoFeed line → without_feed line ≡ Some line
no_feed_found line none = ap (λ b. cond b None (Some line)) (list_any_none (λ b. b == 10) line none)

-- and says its line
pub line_says : (version : ℕ) (mark : Took) (digest : List ℕ) (place : ℕ) (line : Text) → IsRow digest place line →
    line_named version (line_row version mark digest place line) ≡ Some line
unfolding line_row line_named is_line_value
line_says version mark digest place line row = go (version == 2) (is_printable line) refl
  where
    go : (second printable : Bool) → (version == 2) ≡ second → line_named version (either_row (second && printable) mark digest place line) ≡ Some line
    go true true is = rw (mark_is_word mark, row.digits, is) (no_feed_found line row.no_feed)
    go true false is = rw (mark_is_word mark, row.digits, decode_of-encode_lower line row.bytes) (no_feed_found line row.no_feed)
    go false b is = rw (mark_is_word mark, row.digits, decode_of-encode_lower line row.bytes) (no_feed_found line row.no_feed)

-- the first row names its version, and the last is a report
pub header_names : (version : ℕ) → (version ≡ 1) ⊎ (version ≡ 2) → version_named (header_row version) ≡ Some version
unfolding header_row version_named
header_names version (inl first) = rw first refl
header_names version (inr second) = rw second refl

pub report_is_report : (text : Text) → is_report_value (report_row text) ≡ true
unfolding report_row is_report_value
report_is_report text = refl
