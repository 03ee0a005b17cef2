-- The front of a file tells all that the scan tells of the whole.
use Rattle.std.proofs.Common.{◌≡◌, ⊎_elim, ℕ, zero, suc, ◌+◌, ◌-◌, ◌≤◌, true, false, List, [], ◌∷◌, ◌++◌, length, take, drop, refl, sym, ◌∙◌, ap, arith, Some, None, append_assoc, length-append, take-append-drop, take-take}
use Rattle.std.proofs.lemmas.List.{take_at, drop_at, drop-take, length-take}
use Rattle.std.specs.Int.{to_be_bytes, w32}
use Rattle.intake_log.specs.declared.limits.TheConstants.{MOST_LINE_BYTES, FRONT_BYTES}
use Rattle.intake_log.specs.Journal.{IsJournalLine, records_size}
use Rattle.intake_log.specs.Limits.{AreWithin}
use Rattle.intake_log.specs.Scan.{line_at_front, is_full, scan, scan_behind}
use Rattle.intake_log.proofs.LogLemmas.{records_size-is, records_size-push, room-for}
use Rattle.intake_log.proofs.ScanLemmas.{option_cases, bool_cases, is_full-Decides, line_at_front-some, line_at_front-is, line_at_front-none, at-zero, at-closed, at-no_record, at-over, at-record, enough}

-- the front of a size, a line and more
split : (head line more : List ℕ) (m : ℕ) → length head + length line ≤ m → take m (head ++ line ++ more) ≡ head ++ line ++ take (m - (length head + length line)) more
split head line more m far =
    let n : length (head ++ line) ≡ length head + length line = length-append head line in
    sym (take-append-drop (length (head ++ line)) (take m (head ++ line ++ more)))
    ∙ ap (λ l. l ++ drop (length (head ++ line)) (take m (head ++ line ++ more))) (front n)
    ∙ ap (λ l. head ++ line ++ l) (rest n)
  where
    front : length (head ++ line) ≡ length head + length line → take (length (head ++ line)) (take m (head ++ line ++ more)) ≡ head ++ line
    front n = take-take (length (head ++ line)) m (head ++ line ++ more) (omega (arith, n, far)) ∙ take_at (head ++ line) more (length (head ++ line)) refl

    rest : length (head ++ line) ≡ length head + length line → drop (length (head ++ line)) (take m (head ++ line ++ more)) ≡ take (m - (length head + length line)) more
    rest n =
        ap (λ k. drop (length (head ++ line)) (take k (head ++ line ++ more))) (omega (arith, n, far))
        ∙ drop-take (length (head ++ line)) (m - (length head + length line)) (head ++ line ++ more)
        ∙ ap (take (m - (length head + length line))) (drop_at (head ++ line) more (length (head ++ line)) refl)

-- a record ends in the front
pub line_at_front-front : (m : ℕ) (bytes : List ℕ) → 4 + MOST_LINE_BYTES ≤ m → line_at_front (take m bytes) ≡ line_at_front bytes
line_at_front-front m bytes far =
    ⊎_elim
    (λ none. ⊎_elim (λ none-either. none-either ∙ sym none) (λ some. absurd (longer some.0 some.1 none)) (option_cases (line_at_front (take m bytes))))
    (λ some. shorter some.0 some.1 ∙ sym some.1)
    (option_cases (line_at_front bytes))
  where
    longer : (line : List ℕ) → line_at_front (take m bytes) ≡ Some line → line_at_front bytes ≡ None → ⊥
    longer line some none =
        let is = line_at_front-some (take m bytes) line some in
        let rest = drop (4 + length line) (take m bytes) in
        line_at_front-none bytes line (rest ++ drop m bytes) none is.0
        (sym (take-append-drop m bytes) ∙ ap (λ l. l ++ drop m bytes) is.1 ∙ append_assoc (to_be_bytes w32 (length line) ++ line) rest (drop m bytes))

    shorter : (line : List ℕ) → line_at_front bytes ≡ Some line → line_at_front (take m bytes) ≡ Some line
    shorter line some =
        let is = line_at_front-some bytes line some in
        let head = to_be_bytes w32 (length line) in
        let more = drop (4 + length line) bytes in
        ap line_at_front (ap (take m) is.1 ∙ split head line more m (omega (arith, far, is.0.short)))
        ∙ line_at_front-is line (take (m - (length head + length line)) more) is.0

-- one line more, where the limits allow it
pub within-more : (lines : List (List ℕ)) (line : List ℕ) → is_full lines line ≡ false → AreWithin (lines ++ line ∷ [])
within-more lines line room = room-for lines line (λ full. let e : true ≡ false = sym ((is_full-Decides lines line).1 full) ∙ room in absurd (cc))

pub front : (fuel m : ℕ) (lines : List (List ℕ)) (bytes : List ℕ) → AreWithin lines → FRONT_BYTES ≤ m + records_size lines → scan_behind fuel lines (take m bytes) ≡ scan_behind fuel lines bytes
front zero m lines bytes within far = at-zero lines (take m bytes) ∙ sym (at-zero lines bytes)
front (suc fuel) zero lines bytes within far = absurd (omega (arith, far, within.count, within.size, records_size-is lines))
front (suc fuel) (suc m) lines [] within far = refl
front (suc fuel) (suc m) lines (zero ∷ bytes) within far = at-closed fuel lines (take m bytes) ∙ sym (at-closed fuel lines bytes)
front (suc fuel) (suc m) lines (suc gate ∷ bytes) within far =
    let same = line_at_front-front m bytes (omega (arith, far, within.count, within.size, records_size-is lines)) in
    ⊎_elim
    (λ none. at-no_record fuel lines gate (take m bytes) (same ∙ none) ∙ sym (at-no_record fuel lines gate bytes none))
    (λ some. ⊎_elim
    (λ full. at-over fuel lines gate (take m bytes) some.0 (same ∙ some.1) full ∙ sym (at-over fuel lines gate bytes some.0 some.1 full))
    (λ room.
    at-record fuel lines gate (take m bytes) some.0 (same ∙ some.1) room
    ∙ ap (scan_behind fuel (lines ++ some.0 ∷ [])) (rest some.0 (line_at_front-some bytes some.0 some.1).0)
    ∙ front fuel (m - (4 + length some.0)) (lines ++ some.0 ∷ []) (drop (4 + length some.0) bytes) (within-more lines some.0 room) (further some.0 (line_at_front-some bytes some.0 some.1).0)
    ∙ sym (at-record fuel lines gate bytes some.0 some.1 room))
    (bool_cases (is_full lines some.0)))
    (option_cases (line_at_front bytes))
  where
    far-enough : 4 + MOST_LINE_BYTES ≤ m
    far-enough = omega (arith, far, within.count, within.size, records_size-is lines)

    rest : (line : List ℕ) → IsJournalLine line → drop (4 + length line) (take m bytes) ≡ take (m - (4 + length line)) (drop (4 + length line) bytes)
    rest line good = ap (λ k. drop (4 + length line) (take k bytes)) (omega (arith, far-enough, good.short)) ∙ drop-take (4 + length line) (m - (4 + length line)) bytes

    further : (line : List ℕ) → IsJournalLine line → FRONT_BYTES ≤ m - (4 + length line) + records_size (lines ++ line ∷ [])
    further line good = omega (arith, far, far-enough, good.short, records_size-push lines line)

pub front-scan : (m : ℕ) (bytes : List ℕ) → FRONT_BYTES ≤ m → scan (take m bytes) ≡ scan bytes
front-scan m bytes far =
    enough (length (take m bytes)) (length bytes) [] (take m bytes) (omega arith) (omega (arith, length-take m bytes))
    ∙ front (length bytes) m [] bytes (record { count = omega arith; size = omega arith }) (omega (arith, far))
