-- An audit as it is read.
use Rattle.std.proofs.Common.{◌≡◌, ℕ, zero, suc, ◌+◌, ◌^◌, ◌<◌, ◌≤◌, true, false, ◌⊎◌, inl, inr, List, [], ◌∷◌, ◌++◌, map, length, get_or, take, Ok, refl, sym, ap, ◌∙◌, subst, arith, append-nil, append_assoc, lt-ltb, take_all, length-take-le}
use Rattle.std.specs.Prelude.{All, IsAscii, flat_map, ok_or, option_and_then}
use Rattle.std.proofs.lemmas.List.Elements.{All-append, All-from_get_or, All-get_or}
use Rattle.std.proofs.lemmas.List.FromFn.{get_or-map-range_with_len, length-map-range_with_len, map-range_with_len_more}
use Rattle.std.proofs.lemmas.List.Splits.{slice_split_at}
use Rattle.std.proofs.lemmas.List.{map-append, take_more}
use Rattle.hex.specs.Hex.{encode_lower}
use Rattle.serde_json.specs.Data.{Data}
use Rattle.serde_json.specs.Written.{compact_text}
use Rattle.command_text.proofs.FeedLemmas.{is_feed}
use Rattle.house_base.specs.Text.{Text}
use Rattle.house_base.specs.declared.answer.Took.{Took}
use Rattle.house_base.specs.declared.answer.Took.TheVariants.{Kept}
use Rattle.house_model.specs.Text.{Lines}
use Rattle.house_model.specs.declared.limits.TheConstants.{MOST_LINES}
use Rattle.audit_chain.specs.Chain.{audit_bytes, audit_rows, digest_behind, header_row, line_rows, link, report_row, row_at, row_text}
use Rattle.audit_chain.specs.File.{AreLines, IsLine, lines_held, parts, rows, version_held, version_of}
use Rattle.audit_chain.specs.declared.fault.RowFault.TheVariants.{BadRow}
use Rattle.audit_chain.proofs.PartLemmas.{rows_cut, rows_of_none}
use Rattle.audit_chain.specs.Form.{is_digest_text, version_named}
use Rattle.audit_chain.specs.Reading.{HasRead, fits_after, line_added}
use Rattle.audit_chain.proofs.BackLemmas.{IsRow, header_back, header_is_sound, header_names, line_back, line_is_no_report, line_is_sound, line_says, report_back, report_is_report, report_is_sound}
use Rattle.audit_chain.proofs.BytesLemmas.{bytes_of_digest, digits_are_ascii, digits_of_digest}
use Rattle.audit_chain.proofs.ChainLemmas.{digest_behind_more}
use Rattle.audit_chain.proofs.HeldLemmas.{held_whole}
use Rattle.audit_chain.proofs.PlainLemmas.{IsSound, no_feed_of_plain, sound_is_plain}
use Rattle.audit_chain.proofs.ReadingLemmas.{header_read, row_read}

-- the parts of rows with their line feeds
parts_of_rows : (ds : List Data) → All IsSound ds → parts (flat_map row_text ds) ≡ map compact_text ds ++ [] ∷ []
parts_of_rows [] sound = refl
parts_of_rows (d ∷ ds) sound =
    let plain = no_feed_of_plain (compact_text d) (sound_is_plain d (All-get_or IsSound (d ∷ ds) 0 d (omega arith) sound)) in
    ap parts (append_assoc (compact_text d) (10 ∷ []) (flat_map row_text ds))
    ∙ slice_split_at is_feed (compact_text d) 10 (flat_map row_text ds) plain refl
    ∙ ap (λ ps. compact_text d ∷ ps) (parts_of_rows ds (λ k e below. sound (suc k) e (omega (arith, below))))

module _ (version : ℕ) (lines : Lines) (marks : List Took) (named : (version ≡ 1) ⊎ (version ≡ 2)) (are : AreLines lines) where
  version_fits : version < 2 ^ 64
  version_fits = elim named [ inl first ↦ omega (arith, first) | inr second ↦ omega (arith, second) ]

  -- the row of each line is made of what it has to be
  row_is : (i : ℕ) → i < length lines → IsRow (digest_behind lines (i + 1)) (i + 1) (get_or lines i [])
  row_is i below =
      let before = digest_behind lines i ++ get_or lines i [] in
      let digest : link (digest_behind lines i) (get_or lines i []) ≡ digest_behind lines (i + 1) = digest_behind_more lines i below in
      record {
        digits = subst (λ d. is_digest_text (encode_lower d) ≡ true) digest (digits_of_digest before);
        ascii = subst (λ d. IsAscii (encode_lower d)) digest (digits_are_ascii (link (digest_behind lines i) (get_or lines i [])) (bytes_of_digest before));
        fits = omega (arith, below, are.few);
        bytes = (All-get_or IsLine lines i [] below are.each).1;
        no_feed = (All-get_or IsLine lines i [] below are.each).0;
      }

  abbrev pub taken_so_far : ℕ → List Text
  taken_so_far i = compact_text (header_row version) ∷ map compact_text (line_rows version lines marks i)

  -- the row of one more line
  taken_more : (i : ℕ) → taken_so_far (i + 1) ≡ taken_so_far i ++ compact_text (row_at version lines marks i) ∷ []
  taken_more i =
      ap (λ rs. compact_text (header_row version) ∷ map compact_text rs) (map-range_with_len_more (row_at version lines marks) 0 i i (omega arith))
      ∙ ap (λ rs. compact_text (header_row version) ∷ rs) (map-append compact_text (line_rows version lines marks i) (row_at version lines marks i ∷ []))

  no_more_text : HasRead (taken_so_far 0) version [] false
  no_more_text =
      header_read (compact_text (header_row version)) version
      (ap (option_and_then version_named) (header_back version version_fits) ∙ header_names version named)

  -- the rows of the first lines are read as these
  lines_read : (i : ℕ) → i ≤ length lines → HasRead (taken_so_far i) version (take i lines) false
  lines_read zero within = subst (λ ls. HasRead (taken_so_far 0) version ls false) (none lines) no_more_text
    where
      none : (ls : Lines) → [] ≡ take 0 ls
      none [] = refl
      none (x ∷ xs) = refl
  lines_read (suc i) within =
      let below : i < length lines = omega (arith, within) in
      let next : i + 1 ≡ suc i = omega arith in
      let mark = get_or marks i Kept in
      let digest = digest_behind lines (i + 1) in
      let line = get_or lines i [] in
      let row = row_is i below in
      let read : HasRead (taken_so_far i) version (take i lines) false = lines_read i (omega (arith, within)) in
      let says = line_says version mark digest (i + 1) line row in
      let plain = line_is_no_report version mark digest (i + 1) line in
      let short : length (take i lines) ≡ i = length-take-le i lines (omega (arith, within)) in
      let room : length (take i lines) < MOST_LINES = omega (arith, short, within, are.few) in
      let fits : fits_after version (take i lines) (row_at version lines marks i) ≡ true = rw (plain, says, lt-ltb _ _ room) refl in
      let added : line_added version (row_at version lines marks i) ≡ line ∷ [] = rw (plain, says) refl in
      let more = row_read (taken_so_far i) version (take i lines) (compact_text (row_at version lines marks i)) (row_at version lines marks i) read
      (line_back version mark digest (i + 1) line row) fits in
      let rows_are : taken_so_far i ++ compact_text (row_at version lines marks i) ∷ [] ≡ taken_so_far (suc i) = sym (taken_more i) ∙ ap taken_so_far next in
      let lines_are : take i lines ++ line_added version (row_at version lines marks i) ≡ take (suc i) lines =
      ap (λ ls. take i lines ++ ls) added ∙ sym (take_more lines i [] below) ∙ ap (λ n. take n lines) next in
      subst (λ ls. HasRead (taken_so_far (suc i)) version ls false) lines_are
      (subst (λ rs. HasRead rs version (take i lines ++ line_added version (row_at version lines marks i)) false) rows_are
      (subst (λ b. HasRead (taken_so_far i ++ compact_text (row_at version lines marks i) ∷ []) version (take i lines ++ line_added version (row_at version lines marks i)) b) plain more))

  module _ (text : Text) (ascii : IsAscii text) where
    abbrev pub whole_rows : List Text
    whole_rows = taken_so_far (length lines) ++ compact_text (report_row text) ∷ []

    -- and with the report all of them
    all_read : HasRead whole_rows version lines true
    all_read =
        let report = report_is_report text in
        let read : HasRead (taken_so_far (length lines)) version lines false =
        subst (λ ls. HasRead (taken_so_far (length lines)) version ls false) (take_all (length lines) lines (omega arith)) (lines_read (length lines) (omega arith)) in
        let fits : fits_after version lines (report_row text) ≡ true = rw report refl in
        let added : line_added version (report_row text) ≡ [] = rw report refl in
        let more = row_read (taken_so_far (length lines)) version lines (compact_text (report_row text)) (report_row text) read (report_back text ascii) fits in
        subst (λ ls. HasRead whole_rows version ls true) (ap (λ ls. lines ++ ls) added ∙ append-nil lines)
        (subst (λ b. HasRead whole_rows version (lines ++ line_added version (report_row text)) b) report more)

    line_is_sound_at : (i : ℕ) → i < length lines → IsSound (row_at version lines marks i)
    line_is_sound_at i below = line_is_sound version (get_or marks i Kept) (digest_behind lines (i + 1)) (i + 1) (get_or lines i []) (row_is i below)

    lines_are_sound : All IsSound (line_rows version lines marks (length lines))
    lines_are_sound =
        All-from_get_or IsSound (line_rows version lines marks (length lines)) (header_row version)
        (λ i below.
        let within : i < length lines = omega (arith, below, length-map-range_with_len (row_at version lines marks) 0 (length lines)) in
        subst IsSound (sym (get_or-map-range_with_len (row_at version lines marks) 0 (length lines) i i (header_row version) within (omega arith))) (line_is_sound_at i within))

    one_is_sound : (d : Data) → IsSound d → All IsSound (d ∷ [])
    one_is_sound d sound zero e below = sound
    one_is_sound d sound (suc k) e below = absurd (omega (arith, below))

    rows_are_sound : All IsSound (audit_rows version lines marks text)
    rows_are_sound =
        All-append IsSound (header_row version ∷ []) (line_rows version lines marks (length lines) ++ report_row text ∷ [])
        (one_is_sound (header_row version) (header_is_sound version version_fits))
        (All-append IsSound (line_rows version lines marks (length lines)) (report_row text ∷ []) lines_are_sound (one_is_sound (report_row text) (report_is_sound text ascii)))

    -- the parts of an audit are its rows, and nothing
    pub audit_parts : parts (audit_bytes version lines marks text) ≡ whole_rows ++ [] ∷ []
    unfolding audit_bytes
    audit_parts =
        parts_of_rows (audit_rows version lines marks text) rows_are_sound
        ∙ ap (λ rs. (compact_text (header_row version) ∷ rs) ++ [] ∷ []) (map-append compact_text (line_rows version lines marks (length lines)) (report_row text ∷ []))

    rows_kept : rows (audit_bytes version lines marks text) ≡ whole_rows
    rows_kept = rows_cut (audit_bytes version lines marks text) whole_rows [] audit_parts ∙ ap (λ rs. whole_rows ++ rs) (rows_of_none [] refl) ∙ append-nil whole_rows

    pub rows_are_kept : rows (audit_bytes version lines marks text) ≡ map compact_text (audit_rows version lines marks text)
    rows_are_kept =
        rows_kept ∙ sym (ap (λ rs. compact_text (header_row version) ∷ rs) (map-append compact_text (line_rows version lines marks (length lines)) (report_row text ∷ [])))

    pub lines_read_back : lines_held (audit_bytes version lines marks text) ≡ Ok lines
    lines_read_back = held_whole (audit_bytes version lines marks text) whole_rows [] version lines true audit_parts refl refl all_read

    pub version_read_back : version_held (audit_bytes version lines marks text) ≡ Ok version
    unfolding version_held
    version_read_back =
        ap (λ rs. ok_or (version_of rs) (BadRow 1)) rows_kept
        ∙ ap (λ o. ok_or o (BadRow 1)) all_read.version_is
