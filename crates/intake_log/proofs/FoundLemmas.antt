-- A start finds what the file stands for.
use Rattle.std.proofs.Common.{◌≡◌, inl, inr, ⊎_elim, ℕ, ◌≤◌, true, false, cond, nat_le, List, [], ◌∷◌, length, sym, ◌∙◌, ap, subst, arith, Decides}
use Rattle.std.proofs.lemmas.Bool.Decides.{nat_tests}
use Rattle.intake_log.specs.Journal.{IsClosedAt, StandsFor, records_size}
use Rattle.intake_log.specs.Limits.{AreWithin}
use Rattle.intake_log.specs.Scan.{Finds, found, scan}
use Rattle.intake_log.specs.Scan.Scanned.{Ended}
use Rattle.intake_log.proofs.DeterminedLemmas.{short-closed}
use Rattle.intake_log.proofs.FormLemmas.{complete, ended-closed, scan-finds}
use Rattle.intake_log.proofs.ScanLemmas.{at-closed, bool_cases}

module _ (bytes : List ℕ) (lines : List (List ℕ)) where
  le-one : Decides (nat_le (length bytes) 1) (length bytes ≤ 1)
  le-one = grind (arith, nat_tests)

  -- a file of at most one byte is a closed gate once it is settled, and a longer one stays
  short : nat_le (length bytes) 1 ≡ true → found bytes ≡ Ended []
  short e = ap (λ t. scan (cond t (0 ∷ []) bytes)) e ∙ at-closed 0 [] []

  long : nat_le (length bytes) 1 ≡ false → found bytes ≡ scan bytes
  long e = ap (λ t. scan (cond t (0 ∷ []) bytes)) e

  pub found-stands : found bytes ≡ Ended lines → StandsFor bytes lines
  found-stands e =
      ⊎_elim
      (λ is. inl (le-one.0 is, let none : Ended [] ≡ Ended lines = sym (short is) ∙ e in cc))
      (λ is. inr (records_size lines, ended-closed bytes lines (sym (long is) ∙ e)))
      (bool_cases (nat_le (length bytes) 1))

  pub found-within : found bytes ≡ Ended lines → AreWithin lines
  found-within e =
      ⊎_elim
      (λ is. let none : Ended [] ≡ Ended lines = sym (short is) ∙ e in let same : [] ≡ lines = cc in subst AreWithin same (record { count = omega arith; size = omega arith }))
      (λ is. let finds : Finds bytes (Ended lines) = subst (Finds bytes) (sym (long is) ∙ e) (scan-finds bytes) in finds.1.within)
      (bool_cases (nat_le (length bytes) 1))

  closed-found : (gate : ℕ) → IsClosedAt gate bytes lines → AreWithin lines → found bytes ≡ Ended lines
  closed-found gate z within =
      ⊎_elim
      (λ is. short is ∙ ap Ended (sym (short-closed bytes lines gate (le-one.0 is) z)))
      (λ is. long is ∙ complete bytes (Ended lines) (z.behind, record { records = z.records; within = within; hold = z.hold; parts = z.parts }))
      (bool_cases (nat_le (length bytes) 1))

  pub stands-found : StandsFor bytes lines → AreWithin lines → found bytes ≡ Ended lines
  stands-found stands within = ⊎_elim (λ empty. short (le-one.1 empty.0) ∙ ap Ended (sym empty.1)) (λ closed. closed-found closed.0 closed.1 within) stands
