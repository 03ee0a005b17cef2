-- The scan says what the form says.
use Rattle.std.proofs.Common.{◌≡◌, ◌≢◌, inl, inr, ⊎_elim, ℕ, zero, suc, ◌+◌, ◌≤◌, false, List, [], ◌∷◌, ◌++◌, length, drop, refl, sym, ◌∙◌, ap, subst, arith, Some, None, append_assoc, length-append, length-drop}
use Rattle.std.proofs.lemmas.List.{drop_at, append-nil}
use Rattle.std.proofs.lemmas.List.Sums.{sum_by-append, sum_by-cons}
use Rattle.std.specs.Int.{to_be_bytes, w32}
use Rattle.intake_log.specs.Journal.{AreRecords, IsClosedAt, records_size}
use Rattle.intake_log.specs.Limits.{AreWithin, IsFull}
use Rattle.intake_log.specs.Scan.{Scanned, AreRead, BeginsWith, IsOffForm, Finds, line_at_front, is_full, scan, scan_behind}
use Rattle.intake_log.specs.Scan.Scanned.{Ended, OffForm, Over}
use Rattle.intake_log.proofs.JournalLemmas.{are-more}
use Rattle.intake_log.proofs.LogLemmas.{text_size-push}
use Rattle.intake_log.proofs.FrontLemmas.{within-more}
use Rattle.intake_log.proofs.ScanLemmas.{option_cases, bool_cases, is_full-Decides, line_at_front-some, line_at_front-is, line_at_front-none, at-nothing, at-closed, at-no_record, at-over, at-record}

-- the gate behind records stands at their end
pub records-length : (records : List ℕ) (lines : List (List ℕ)) → AreRecords records lines → length records ≡ records_size lines
records-length records [] hold = ap length hold
records-length records (line ∷ lines) hold =
    let head = to_be_bytes w32 (length line) in
    omega (
      arith,
      ap length hold.4,
      length-append (head ++ line) hold.1,
      length-append head line,
      records-length hold.1 lines hold.5,
      sum_by-cons (λ (l : List ℕ). length l + 5) line lines,
    )

no-more : (behind : List ℕ) (rest : List ℕ) → behind ≡ [] → behind ≡ 0 ∷ rest → ⊥
no-more behind rest none is = absurd (cc)

-- nothing is off the form
nothing-off : (bytes : List ℕ) → bytes ≡ [] → IsOffForm bytes
nothing-off bytes none = record {
  not_closed = λ rest is. no-more bytes rest none is;
  no_record = λ line begins. let is = begins.4 in absurd (cc);
}

-- and so is an open gate with no record behind it
open-off : (gate : ℕ) (rest : List ℕ) → line_at_front rest ≡ None → IsOffForm (suc gate ∷ rest)
open-off gate rest none = record {
  not_closed = λ more is. let heads : suc gate ≡ 0 = cc in absurd (omega (arith, heads));
  no_record = λ line begins.
      let tails : rest ≡ to_be_bytes w32 (length line) ++ line ++ begins.1 = ap (drop 1) begins.4 in
      line_at_front-none rest line begins.1 none begins.3 tails;
}

module _ (whole records : List ℕ) (lines : List (List ℕ)) (hold : AreRecords records lines) (within : AreWithin lines) where
  read : (rest : List ℕ) → whole ≡ records ++ rest → AreRead whole lines rest
  read rest parts = record { records = records; within = within; hold = hold; parts = parts }

  -- what an open gate with a line behind it begins
  begins : (gate : ℕ) (rest line : List ℕ) → line_at_front rest ≡ Some line → BeginsWith (suc gate ∷ rest) line
  begins gate rest line some =
      let is = line_at_front-some rest line some in
      (suc gate, drop (4 + length line) rest, (λ e. absurd (omega (arith, e))), is.0, ap (λ l. suc gate ∷ l) is.1)

-- records and one more
abbrev with_record : List ℕ → ℕ → List ℕ → List ℕ
with_record records gate line = records ++ suc gate ∷ (to_be_bytes w32 (length line) ++ line)

one-more : (records : List ℕ) (gate : ℕ) (rest line : List ℕ) → line_at_front rest ≡ Some line
    → records ++ suc gate ∷ rest ≡ with_record records gate line ++ drop (4 + length line) rest
one-more records gate rest line some =
    ap (λ l. records ++ suc gate ∷ l) (line_at_front-some rest line some).1
    ∙ sym (append_assoc records (suc gate ∷ (to_be_bytes w32 (length line) ++ line)) (drop (4 + length line) rest))

-- what the scan says is so
pub sound : (fuel : ℕ) (whole records : List ℕ) (lines : List (List ℕ)) (rest : List ℕ) → AreRecords records lines → AreWithin lines → whole ≡ records ++ rest → length rest ≤ fuel
    → Finds whole (scan_behind fuel lines rest)
sound fuel whole records lines [] hold within parts enough =
    subst (Finds whole) (sym (at-nothing fuel lines)) (lines, [], read whole records lines hold within [] parts, nothing-off [] refl, refl)
sound zero whole records lines (b ∷ rest) hold within parts enough = absurd (omega (arith, enough))
sound (suc fuel) whole records lines (zero ∷ rest) hold within parts enough =
    subst (Finds whole) (sym (at-closed fuel lines rest)) (rest, read whole records lines hold within (0 ∷ rest) parts)
sound (suc fuel) whole records lines (suc gate ∷ rest) hold within parts enough =
    ⊎_elim
    (λ none. subst (Finds whole) (sym (at-no_record fuel lines gate rest none)) (lines, suc gate ∷ rest, read whole records lines hold within (suc gate ∷ rest) parts, open-off gate rest none, refl))
    (λ some. ⊎_elim
    (λ full. subst (Finds whole) (sym (at-over fuel lines gate rest some.0 some.1 full))
    (lines, suc gate ∷ rest, some.0, read whole records lines hold within (suc gate ∷ rest) parts, begins whole records lines hold within gate rest some.0 some.1, (is_full-Decides lines some.0).0 full))
    (λ room. subst (Finds whole) (sym (at-record fuel lines gate rest some.0 some.1 room))
    (sound fuel whole (with_record records gate some.0) (lines ++ some.0 ∷ []) (drop (4 + length some.0) rest)
    (are-more records lines (suc gate) some.0 hold (λ e. absurd (omega (arith, e))) (line_at_front-some rest some.0 some.1).0)
    (within-more lines some.0 room)
    (parts ∙ one-more records gate rest some.0 some.1)
    (omega (arith, enough, length-drop (4 + length some.0) rest))))
    (bool_cases (is_full lines some.0)))
    (option_cases (line_at_front rest))

-- fewer lines are within the limits too
within-front : (lines more : List (List ℕ)) → AreWithin (lines ++ more) → AreWithin lines
within-front lines more within = record {
  count = omega (arith, within.count, length-append lines more);
  size = omega (arith, within.size, sum_by-append (λ (line : List ℕ). length line + 1) lines more);
}

room : (lines : List (List ℕ)) (line : List ℕ) → AreWithin (lines ++ line ∷ []) → is_full lines line ≡ false
room lines line within = ⊎_elim (λ full. absurd (not-full ((is_full-Decides lines line).0 full))) (λ e. e) (bool_cases (is_full lines line))
  where
    not-full : IsFull lines line → ⊥
    not-full (inl most) = omega (arith, most, within.count, length-append lines (line ∷ []))
    not-full (inr most) = omega (arith, most, within.size, text_size-push lines line)

-- the scan passes over records of lines within the limits
pub passes : (more : List (List ℕ)) (fuel : ℕ) (lines : List (List ℕ)) (records rest : List ℕ) → AreRecords records more → AreWithin (lines ++ more) → length (records ++ rest) ≤ fuel
    → (left : ℕ) × (length rest ≤ left) × (scan_behind fuel lines (records ++ rest) ≡ scan_behind left (lines ++ more) rest)
passes [] fuel lines records rest hold within enough =
    let none : records ++ rest ≡ rest = ap (λ r. r ++ rest) hold in
    (fuel, omega (arith, enough, ap length none), ap (scan_behind fuel lines) none ∙ ap (λ l. scan_behind fuel l rest) (sym (append-nil lines)))
passes (line ∷ more) zero lines records rest hold within enough =
    absurd (omega (arith, enough, length-append records rest, ap length hold.4))
passes (line ∷ more) (suc fuel) lines records rest hold within enough =
    let all : (lines ++ line ∷ []) ++ more ≡ lines ++ line ∷ more = append_assoc lines (line ∷ []) more in
    let last = passes more fuel (lines ++ line ∷ []) hold.1 rest hold.5 (subst AreWithin (sym all) within) (omega (arith, enough, ap length parts, ap length (sym behind), length-drop (4 + length line) after)) in
    (last.0, last.1, step (within-front (lines ++ line ∷ []) more (subst AreWithin (sym all) within)) ∙ last.2 ∙ ap (λ l. scan_behind last.0 l rest) all)
  where
    head : List ℕ
    head = to_be_bytes w32 (length line)

    after : List ℕ
    after = head ++ line ++ (hold.1 ++ rest)

    parts : records ++ rest ≡ hold.0 ∷ after
    parts = ap (λ r. r ++ rest) hold.4 ∙ ap (λ l. hold.0 ∷ l) (append_assoc (head ++ line) hold.1 rest)

    behind : drop (4 + length line) after ≡ hold.1 ++ rest
    behind = drop_at (head ++ line) (hold.1 ++ rest) (4 + length line) (length-append head line)

    step : AreWithin (lines ++ line ∷ []) → scan_behind (suc fuel) lines (records ++ rest) ≡ scan_behind fuel (lines ++ line ∷ []) (hold.1 ++ rest)
    step fits = ap (scan_behind (suc fuel) lines) parts ∙ at-open hold.0 hold.2 ∙ ap (scan_behind fuel (lines ++ line ∷ [])) behind
      where
        at-open : (gate : ℕ) → gate ≢ 0 → scan_behind (suc fuel) lines (gate ∷ after) ≡ scan_behind fuel (lines ++ line ∷ []) (drop (4 + length line) after)
        at-open zero positive = absurd (positive refl)
        at-open (suc gate) positive = at-record fuel lines gate after line (line_at_front-is line (hold.1 ++ rest) hold.3) (room lines line fits)

-- what the scan says where neither a closed gate nor a record stands
off-there : (fuel : ℕ) (lines : List (List ℕ)) (rest : List ℕ) → IsOffForm rest → length rest ≤ fuel → scan_behind fuel lines rest ≡ OffForm (records_size lines)
off-there fuel lines [] off enough = at-nothing fuel lines
off-there zero lines (b ∷ rest) off enough = absurd (omega (arith, enough))
off-there (suc fuel) lines (zero ∷ rest) off enough = absurd (off.not_closed rest refl)
off-there (suc fuel) lines (suc gate ∷ rest) off enough =
    ⊎_elim
    (λ none. at-no_record fuel lines gate rest none)
    (λ some. absurd (off.no_record some.0 (begins [] [] [] refl (record { count = omega arith; size = omega arith }) gate rest some.0 some.1)))
    (option_cases (line_at_front rest))

closed-there : (fuel : ℕ) (lines : List (List ℕ)) (rest : List ℕ) → length (0 ∷ rest) ≤ fuel → scan_behind fuel lines (0 ∷ rest) ≡ Ended lines
closed-there zero lines rest enough = absurd (omega (arith, enough))
closed-there (suc fuel) lines rest enough = at-closed fuel lines rest

over-there : (fuel : ℕ) (lines : List (List ℕ)) (rest line : List ℕ) → BeginsWith rest line → IsFull lines line → length rest ≤ fuel → scan_behind fuel lines rest ≡ Over
over-there zero lines rest line begins full enough = absurd (omega (arith, enough, ap length begins.4))
over-there (suc fuel) lines rest line begins full enough = ap (scan_behind (suc fuel) lines) begins.4 ∙ at-open begins.0 begins.2
  where
    at-open : (gate : ℕ) → gate ≢ 0 → scan_behind (suc fuel) lines (gate ∷ (to_be_bytes w32 (length line) ++ line ++ begins.1)) ≡ Over
    at-open zero positive = absurd (positive refl)
    at-open (suc gate) positive = at-over fuel lines gate (to_be_bytes w32 (length line) ++ line ++ begins.1) line (line_at_front-is line begins.1 begins.3) ((is_full-Decides lines line).1 full)

-- past the records the scan goes on as from their end
goes-past : (bytes rest : List ℕ) (lines : List (List ℕ)) (result : Scanned) → AreRead bytes lines rest
    → ((fuel : ℕ) → length rest ≤ fuel → scan_behind fuel lines rest ≡ result) → scan bytes ≡ result
goes-past bytes rest lines result r there =
    let past = passes lines (length bytes) [] r.records rest r.hold r.within (omega (arith, ap length r.parts)) in
    ap (scan_behind (length bytes) []) r.parts ∙ past.2 ∙ there past.0 past.1

-- what is so the scan says
pub complete : (bytes : List ℕ) (scanned : Scanned) → Finds bytes scanned → scan bytes ≡ scanned
complete bytes (Ended lines) finds = goes-past bytes (0 ∷ finds.0) lines (Ended lines) finds.1 (λ fuel. closed-there fuel lines finds.0)
complete bytes (OffForm place) finds =
    goes-past bytes finds.1 finds.0 (OffForm place) finds.2 (λ fuel enough. off-there fuel finds.0 finds.1 finds.3 enough ∙ ap OffForm (sym finds.4))
complete bytes Over finds = goes-past bytes finds.1 finds.0 Over finds.3 (λ fuel. over-there fuel finds.0 finds.1 finds.2 finds.4 finds.5)

pub scan-finds : (bytes : List ℕ) → Finds bytes (scan bytes)
scan-finds bytes = sound (length bytes) bytes [] [] bytes refl (record { count = omega arith; size = omega arith }) refl (omega arith)

-- a file is closed behind the lines that the scan finds
pub ended-closed : (bytes : List ℕ) (lines : List (List ℕ)) → scan bytes ≡ Ended lines → IsClosedAt (records_size lines) bytes lines
ended-closed bytes lines e =
    let finds : Finds bytes (Ended lines) = subst (Finds bytes) e (scan-finds bytes) in
    let r = finds.1 in
    record { records = r.records; behind = finds.0; hold = r.hold; gate_is = sym (records-length r.records lines r.hold); parts = r.parts }
