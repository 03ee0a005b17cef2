-- Lines that are printed of their words, and read again.
use Rattle.std.proofs.Common.{◌≡◌, ◌+◌, ◌∙◌, true, false, cond, ◌&&◌, [], ◌∷◌, ◌++◌, length, map, flat_map, refl, sym, ap, append_assoc, append-nil, bytes_eq, Some, None}
use Rattle.std.specs.Prelude.{not}
use Rattle.std.specs.List.{join_with_byte}
use Rattle.house_base.specs.Text.{Text}
use Rattle.house_base.proofs.AmongLemmas.{bytes_eq-same}
use Rattle.house_model.specs.Report.{line_of}
use Rattle.house_model.specs.Text.{is_empty, words}
use Rattle.command_text.proofs.JoinedLemmas.{words_of_joined}
use Rattle.slip_check.specs.Form.{Rows, fault_from, fault_in, follows, is_on_form, members_in, rows_of}
use Rattle.command_text.specs.Strict.{Row, fed_lines, row_of, strict_row}
use Rattle.slip_check.proofs.HeadLemmas.{on_form_is}
use Rattle.slip_check.proofs.PlainWordLemmas.{ArePlain, feedless_line, words_of_plain}
use Rattle.command_text.proofs.StrictLemmas.{before_last_byte, fed_lines_at_feed, fed_lines_of_none}

-- a row whose words can stand in a line of their own
pub record IsPrinted (row : Row) : Type 0 where
  pub some : not (is_empty row) ≡ true
  pub plain : ArePlain row

abbrev pub ArePrinted : Rows → Type 0
ArePrinted [] = Unit {0}
ArePrinted (row ∷ rows) = IsPrinted row × ArePrinted rows

pub printed-append : (xs ys : Rows) → ArePrinted xs → ArePrinted ys → ArePrinted (xs ++ ys)
printed-append [] ys h k = k
printed-append (x ∷ xs) ys h k = (h.0, printed-append xs ys h.1 k)

-- Its line.

line-read : (row : Row) → IsPrinted row → row_of (line_of row) ≡ row
unfolding row_of line_of
line-read row p = ap words (before_last_byte (join_with_byte 32 row)) ∙ words_of_joined row (words_of_plain row p.plain)

line-strict : (row : Row) → IsPrinted row → strict_row (line_of row) ≡ Some row
unfolding strict_row
line-strict row p =
    ap (λ r. cond (not (is_empty r) && bytes_eq (line_of row) (line_of r)) (Some r) None) (line-read row p)
    ∙ rw (p.some, bytes_eq-same (line_of row) (line_of row) refl) refl

line-cut : (row : Row) (rest : Text) → IsPrinted row → fed_lines (line_of row ++ rest) ≡ line_of row ∷ fed_lines rest
unfolding line_of
line-cut row rest p =
    let front = join_with_byte 32 row in
    ap fed_lines (append_assoc front (10 ∷ []) rest) ∙ fed_lines_at_feed front rest (feedless_line row p.plain)

-- The lines of all.

lines-cut : (rows : Rows) → ArePrinted rows → fed_lines (flat_map line_of rows) ≡ map line_of rows
lines-cut [] p = fed_lines_of_none [] refl
lines-cut (row ∷ rows) p =
    line-cut row (flat_map line_of rows) p.0 ∙ ap (λ lines. line_of row ∷ lines) (lines-cut rows p.1)

lines-read : (rows : Rows) → ArePrinted rows → map row_of (map line_of rows) ≡ rows
lines-read [] p = refl
lines-read (row ∷ rows) p =
    ap (λ r. r ∷ map row_of (map line_of rows)) (line-read row p.0) ∙ ap (λ rs. row ∷ rs) (lines-read rows p.1)

pub rows_of-printed : (rows : Rows) → ArePrinted rows → rows_of (flat_map line_of rows) ≡ rows
unfolding rows_of
rows_of-printed rows p = ap (map row_of) (lines-cut rows p) ∙ lines-read rows p

-- each is of the form behind those before it
abbrev pub Follow : Rows → Rows → Type 0
Follow before [] = Unit {0}
Follow before (row ∷ rows) = (follows before row ≡ true) × Follow (before ++ row ∷ []) rows

no_fault : (before rows : Rows) → ArePrinted rows → Follow before rows → is_empty (members_in (before ++ rows)) ≡ false → fault_from before (map line_of rows) ≡ None
no_fault before [] p f some =
    ap (λ b. cond b (Some (length before + 1)) None) (ap (λ rs. is_empty (members_in rs)) (sym (append-nil before)) ∙ some)
no_fault before (row ∷ rows) p f some =
    let on : is_on_form before (line_of row) ≡ true = on_form_is before (line_of row) row (line-strict row p.0) ∙ f.0 in
    ap (λ b. cond b (fault_from (before ++ row_of (line_of row) ∷ []) (map line_of rows)) (Some (length before + 1))) on
    ∙ ap (λ r. fault_from (before ++ r ∷ []) (map line_of rows)) (line-read row p.0)
    ∙ no_fault (before ++ row ∷ []) rows p.1 f.1 (ap (λ rs. is_empty (members_in rs)) (append_assoc before (row ∷ []) rows) ∙ some)

pub fault_in-printed : (rows : Rows) → ArePrinted rows → Follow [] rows → is_empty (members_in rows) ≡ false → fault_in (flat_map line_of rows) ≡ None
unfolding fault_in
fault_in-printed rows p f some = ap (fault_from []) (lines-cut rows p) ∙ no_fault [] rows p f some
