-- The rows of an audit, and the chain of digests in it.
use Rattle.std.specs.Prelude.{ℕ, ◌+◌, ◌&&◌, ◌==◌, Bool, List, [], ◌∷◌, ◌++◌, map, flat_map, fold, length, take, replicate, slice_index_or, nat_le, codes, if◌then◌else◌}
use Rattle.std.specs.List.{list_all, range_with_len}
use Rattle.hex.specs.Hex.{encode_lower}
use Rattle.sha2.specs.Sha256.{sha256}
use Rattle.serde_json.specs.Data.{Data, number, unsigned, string, object, member, no_members}
use Rattle.serde_json.specs.Written.{compact_text}
use Rattle.house_base.specs.Text.{Text}
use Rattle.house_base.specs.declared.answer.Kind.TheVariants as kind
use Rattle.house_base.specs.declared.answer.Took.{Took}
use Rattle.house_base.specs.declared.answer.Took.TheVariants.{Kept, Aside}
use Rattle.house_model.specs.Text.{Lines}

-- the digest behind a line: that of the bytes of the digest before it and then the line
abbrev pub link : List ℕ → Text → List ℕ
link before line = sha256 (before ++ line)

-- the digest behind the first lines of a list, so many of them
unfoldable pub digest_behind : Lines → ℕ → List ℕ
digest_behind lines count = fold link (replicate 32 0) (take count lines)

-- the word for what became of a line
abbrev pub mark_word : Took → Text
mark_word Kept = codes "none"
mark_word (Aside kind.Form) = codes "form"
mark_word (Aside kind.Early) = codes "early"
mark_word (Aside kind.Late) = codes "late"
mark_word (Aside kind.Unknown) = codes "unknown"
mark_word (Aside kind.Unassigned) = codes "unassigned"
mark_word (Aside kind.Range) = codes "range"

-- what may become of a line
abbrev pub all_marks : List Took
all_marks =
    Kept ∷ Aside kind.Form ∷ Aside kind.Early ∷ Aside kind.Late ∷ Aside kind.Unknown ∷ Aside kind.Unassigned
    ∷ Aside kind.Range ∷ []

-- bytes that are printable characters of ASCII
abbrev pub is_printable : Text → Bool
is_printable line = list_all (λ b. nat_le 32 b && nat_le b 126) line

-- a line goes as text into the rows of a version, and not as digits
abbrev pub goes_as_text : ℕ → Text → Bool
goes_as_text version line = (version == 2) && is_printable line

-- the row of a line as digits
abbrev pub digits_row : Text → Text → Text → ℕ → Data
digits_row word digest digits place = object
    (member (codes "aside") (string word)
    (member (codes "digest") (string digest)
    (member (codes "hex") (string digits)
    (member (codes "line") (number (unsigned place)) no_members))))

-- the row of a line as text
abbrev pub text_row : Text → Text → ℕ → Text → Data
text_row word digest place text = object
    (member (codes "aside") (string word)
    (member (codes "digest") (string digest)
    (member (codes "line") (number (unsigned place))
    (member (codes "text") (string text) no_members))))

-- the row of a line with its mark, the digest behind it, and its place, counted from 1
unfoldable pub line_row : ℕ → Took → List ℕ → ℕ → Text → Data
line_row version mark digest place line =
    if goes_as_text version line then text_row (mark_word mark) (encode_lower digest) place line
    else digits_row (mark_word mark) (encode_lower digest) (encode_lower line) place

-- the row of the line at an index
abbrev pub row_at : ℕ → Lines → List Took → ℕ → Data
row_at version lines marks i =
    line_row version (slice_index_or marks i Kept) (digest_behind lines (i + 1)) (i + 1) (slice_index_or lines i [])

-- the rows of the first lines, so many of them
abbrev pub line_rows : ℕ → Lines → List Took → ℕ → List Data
line_rows version lines marks count = map (row_at version lines marks) (range_with_len 0 count)

-- the name of the format
abbrev pub format_name : Text
format_name = codes "peer-house-audit"

-- the first row, which names the format and its version
unfoldable pub header_row : ℕ → Data
header_row version = object
    (member (codes "format") (string format_name)
    (member (codes "version") (number (unsigned version)) no_members))

-- the last row, with the text that the run wrote
unfoldable pub report_row : Text → Data
report_row text = object (member (codes "report") (string text) no_members)

-- the rows of an audit: the header, one for each line, the report
abbrev pub audit_rows : ℕ → Lines → List Took → Text → List Data
audit_rows version lines marks text =
    header_row version ∷ (line_rows version lines marks (length lines) ++ report_row text ∷ [])

-- a row as it stands in the file
abbrev pub row_text : Data → Text
row_text row = compact_text row ++ 10 ∷ []

-- the audit of a version, for lines with their marks and the text that the run wrote
unfoldable pub audit_bytes : ℕ → Lines → List Took → Text → Text
audit_bytes version lines marks text = flat_map row_text (audit_rows version lines marks text)
