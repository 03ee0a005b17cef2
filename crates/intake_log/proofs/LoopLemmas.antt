-- A scan that has come to a gate.
use Rattle.std.proofs.Common.{◌≡◌, ◌≢◌, ◌↔◌, IsTrue, Bool, true, false, ℕ, zero, suc, ◌+◌, ◌≤◌, ◌<◌, List, [], ◌∷◌, ◌++◌, length, get_or, drop, refl, sym, ◌∙◌, ap, arith, Some, None, drop-drop, length-drop, ⊎_elim}
use Rattle.std.proofs.lemmas.List.{drop_more, drop_all}
use Rattle.intake_log.specs.Journal.{records_size}
use Rattle.intake_log.specs.Limits.{IsFull}
use Rattle.intake_log.specs.Scan.{Scanned, line_at_front, is_full, scan, scan_behind}
use Rattle.intake_log.specs.Scan.Scanned.{Ended, OffForm, Over}
use Rattle.intake_log.proofs.ScanLemmas.{bool_cases, is_full-Decides, at-nothing, at-closed, at-no_record, at-over, at-record, enough}

positive : (x : ℕ) → x ≢ 0 → (y : ℕ) × (x ≡ suc y)
positive zero is_open = absurd (is_open refl)
positive (suc y) is_open = (y, refl)

-- a test that has told no
pub not-closed : (test : Bool) (P : Type 0) → IsTrue test ↔ P → test ≡ false → P → ⊥
not-closed test P both e p = let yes_no : true ≡ false = sym (both.1 p) ∙ e in absurd (cc)

-- the scan of the bytes from a place on
abbrev pub scan_at : ℕ → List (List ℕ) → List ℕ → Scanned
scan_at gate lines bytes = scan_behind (length (drop gate bytes)) lines (drop gate bytes)

module _ (bytes : List ℕ) (lines : List (List ℕ)) (gate : ℕ) (gate_is : gate ≡ records_size lines) (so_far : scan bytes ≡ scan_at gate lines bytes) where
  pub loop-end : length bytes ≤ gate → scan bytes ≡ OffForm gate
  loop-end past =
      so_far ∙ ap (λ d. scan_behind (length d) lines d) (drop_all gate bytes past) ∙ at-nothing 0 lines ∙ ap OffForm (sym gate_is)

  here : gate < length bytes → scan bytes ≡ scan_behind (suc (length (drop (gate + 1) bytes))) lines (get_or bytes gate 0 ∷ drop (gate + 1) bytes)
  here within = so_far ∙ ap (λ d. scan_behind (length d) lines d) (drop_more bytes gate 0 within)

  pub loop-closed : gate < length bytes → get_or bytes gate 0 ≡ 0 → scan bytes ≡ Ended lines
  loop-closed within closed =
      here within
      ∙ ap (λ x. scan_behind (suc (length (drop (gate + 1) bytes))) lines (x ∷ drop (gate + 1) bytes)) closed
      ∙ at-closed (length (drop (gate + 1) bytes)) lines (drop (gate + 1) bytes)

  there : (within : gate < length bytes) (is_open : get_or bytes gate 0 ≢ 0)
      → scan bytes ≡ scan_behind (suc (length (drop (gate + 1) bytes))) lines (suc (positive (get_or bytes gate 0) is_open).0 ∷ drop (gate + 1) bytes)
  there within is_open =
      here within
      ∙ ap (λ x. scan_behind (suc (length (drop (gate + 1) bytes))) lines (x ∷ drop (gate + 1) bytes)) (positive (get_or bytes gate 0) is_open).1

  pub loop-bad : gate < length bytes → get_or bytes gate 0 ≢ 0 → line_at_front (drop (gate + 1) bytes) ≡ None → scan bytes ≡ OffForm gate
  loop-bad within is_open none =
      there within is_open
      ∙ at-no_record (length (drop (gate + 1) bytes)) lines (positive (get_or bytes gate 0) is_open).0 (drop (gate + 1) bytes) none
      ∙ ap OffForm (sym gate_is)

  pub loop-over : (line : List ℕ) → gate < length bytes → get_or bytes gate 0 ≢ 0 → line_at_front (drop (gate + 1) bytes) ≡ Some line → IsFull lines line → scan bytes ≡ Over
  loop-over line within is_open some full =
      there within is_open
      ∙ at-over (length (drop (gate + 1) bytes)) lines (positive (get_or bytes gate 0) is_open).0 (drop (gate + 1) bytes) line some ((is_full-Decides lines line).1 full)

  pub loop-next : (line : List ℕ) (next : ℕ) → gate < length bytes → get_or bytes gate 0 ≢ 0 → line_at_front (drop (gate + 1) bytes) ≡ Some line → (IsFull lines line → ⊥) → next ≡ gate + (length line + 5)
      → scan bytes ≡ scan_at next (lines ++ line ∷ []) bytes
  loop-next line next within is_open some room next_is =
      let rest = drop (gate + 1) bytes in
      let behind : drop (4 + length line) rest ≡ drop next bytes = drop-drop (4 + length line) (gate + 1) bytes ∙ ap (λ k. drop k bytes) (omega (arith, next_is)) in
      there within is_open
      ∙ at-record (length rest) lines (positive (get_or bytes gate 0) is_open).0 rest line some (⊎_elim (λ full. absurd (room ((is_full-Decides lines line).0 full))) (λ e. e) (bool_cases (is_full lines line)))
      ∙ ap (scan_behind (length rest) (lines ++ line ∷ [])) behind
      ∙ enough (length rest) (length (drop next bytes)) (lines ++ line ∷ []) (drop next bytes) (omega (arith, ap length (sym behind), length-drop (4 + length line) rest)) (omega arith)
