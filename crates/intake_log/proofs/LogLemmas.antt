-- A log's gate, its limits, and what it keeps.
use Rattle.std.proofs.Common.{◌≡◌, ◌⊎◌, ◌↔◌, inl, inr, ⊎_elim, nat_le, Decides, ℕ, ◌+◌, ◌*◌, ◌-◌, ◌≤◌, ◌<◌, ◌^◌, Bool, true, false, List, [], ◌∷◌, ◌++◌, length, take, refl, sym, subst, arith, Option, Some, None, IsTrue, is_some, Result, Ok, Err, OnOk, is_err}
use Rattle.std.proofs.lemmas.Bool.Decides.{nat_tests}
use Rattle.std.proofs.lemmas.List.{length_push, take_at}
use Rattle.disk_io.specs.Laws.{below_or}
use Rattle.std.proofs.lemmas.List.Sums.{sum_by-cons, sum_by_push}
use Rattle.house_model.specs.declared.limits.TheConstants.{MOST_BYTES, MOST_LINES}
use Rattle.intake_log.specs.Journal.{IsBeforeOrAfter, IsKept, StandsFor, records_size}
use Rattle.intake_log.specs.Limits.{AreWithin, IsFull, text_size}
use Rattle.intake_log.specs.Log.{IsLog, LeavesLines, Logged}
use Rattle.disk_io.specs.Disk.{LeavesOnly}
use Rattle.intake_log.proofs.JournalLemmas.{started}

-- a record has four bytes more than its line and a line feed
pub records_size-is : (lines : List (List ℕ)) → records_size lines ≡ text_size lines + 4 * length lines
records_size-is [] = refl
records_size-is (line ∷ lines) =
    omega (arith, records_size-is lines, sum_by-cons (λ (line : List ℕ). length line + 5) line lines, sum_by-cons (λ (line : List ℕ). length line + 1) line lines)

pub records_size-push : (lines : List (List ℕ)) (line : List ℕ) → records_size (lines ++ line ∷ []) ≡ records_size lines + (length line + 5)
records_size-push lines line = sum_by_push (λ (line : List ℕ). length line + 5) lines line

pub text_size-push : (lines : List (List ℕ)) (line : List ℕ) → text_size (lines ++ line ∷ []) ≡ text_size lines + (length line + 1)
text_size-push lines line = sum_by_push (λ (line : List ℕ). length line + 1) lines line

-- the bytes of the text, from the place of the gate
pub text-is : (lines : List (List ℕ)) (gate count : ℕ) → gate ≡ records_size lines → count ≡ length lines → gate ≡ text_size lines + 4 * count
text-is lines gate count gate_is count_is = omega (arith, gate_is, count_is, records_size-is lines)

full-by-size : (lines : List (List ℕ)) (line : List ℕ) (gate count : ℕ) → gate ≡ records_size lines → count ≡ length lines → MOST_BYTES ≤ gate - 4 * count + length line → IsFull lines line
full-by-size lines line gate count gate_is count_is most = inr (omega (arith, most, text-is lines gate count gate_is count_is))

not-full : (lines : List (List ℕ)) (line : List ℕ) (gate count : ℕ) → gate ≡ records_size lines → count ≡ length lines → count < MOST_LINES → gate - 4 * count + length line < MOST_BYTES → IsFull lines line → ⊥
not-full lines line gate count gate_is count_is few fits (inl most) = omega (arith, few, most, count_is)
not-full lines line gate count gate_is count_is few fits (inr most) = omega (arith, fits, most, text-is lines gate count gate_is count_is)

-- where the number of lines leaves room, the bytes decide
pub full-by-test : (lines : List (List ℕ)) (line : List ℕ) (gate count : ℕ) → gate ≡ records_size lines → count ≡ length lines → count < MOST_LINES
    → IsTrue (nat_le MOST_BYTES (gate - 4 * count + length line)) ↔ IsFull lines line
full-by-test lines line gate count gate_is count_is few = (
  λ is. full-by-size lines line gate count gate_is count_is (test.0 is),
  λ full. ⊎_elim test.1 (λ fits. absurd (not-full lines line gate count gate_is count_is few fits full)) (below_or MOST_BYTES (gate - 4 * count + length line)),
)
  where
    test : Decides (nat_le MOST_BYTES (gate - 4 * count + length line)) (MOST_BYTES ≤ gate - 4 * count + length line)
    test = grind (arith, nat_tests)

-- lines that leave room for one more
pub room-for : (lines : List (List ℕ)) (line : List ℕ) → (IsFull lines line → ⊥) → AreWithin (lines ++ line ∷ [])
room-for lines line not-full = record {
  count = ⊎_elim (λ most. absurd (not-full (inl most))) (λ few. omega (arith, few, length_push lines line)) (below_or MOST_LINES (length lines));
  size = ⊎_elim (λ fits. omega (arith, fits, text_size-push lines line)) (λ most. absurd (not-full (inr most))) (below_or (text_size lines + (length line + 1)) MOST_BYTES);
}

-- the gate of lines within the limits
pub few : (lines : List (List ℕ)) → AreWithin lines → records_size lines < 2 ^ 40
few lines within = omega (arith, records_size-is lines, within.count, within.size)

-- the last line comes off again
pub take-push : (lines : List (List ℕ)) (line : List ℕ) → take (length (lines ++ line ∷ []) - 1) (lines ++ line ∷ []) ≡ lines
take-push lines line = take_at lines (line ∷ []) (length (lines ++ line ∷ []) - 1) (omega (arith, length_push lines line))

-- what is kept is what a crash leaves
pub kept-leaves : {D : Type 0} (content : D → Option (List ℕ)) (images : D → List ℕ → Type 0) (disk : D) (gate : ℕ) (lines : List (List ℕ)) → IsKept content images disk gate lines
    → LeavesLines content images disk lines
kept-leaves {D} content images disk gate lines kept told image left =
    let bytes = value (content disk) told in
    subst (λ b. StandsFor b lines) (sym (kept.durable bytes.0 bytes.1 image left)) (inr (gate, kept.closed bytes.0 bytes.1))
  where
    value : (o : Option (List ℕ)) → IsTrue (is_some o) → (bytes : List ℕ) × (o ≡ Some bytes)
    value None told = let e : false ≡ true = told in absurd (cc)
    value (Some bytes) told = (bytes, refl)

-- what is not broken is kept
pub unbroken-kept : (broken : Bool) (P : Type 0) → broken ≡ false → (broken ≡ true) ⊎ P → P
unbroken-kept broken P e (inl b) = absurd (cc)
unbroken-kept broken P e (inr kept) = kept

-- an answer that is no error
pub ok-if-not-err : {T E : Type 0} (r : Result T E) (P : Type 0) → is_err r ≡ false → OnOk r P → P
ok-if-not-err (Ok x) P e p = p
ok-if-not-err (Err x) P e p = absurd (cc)

-- a call that does not touch the disk leaves the lines from before
pub untouched-leaves : {D : Type 0} (content : D → Option (List ℕ)) (images : D → List ℕ → Type 0) (moment : D → ℕ) (since : D → ℕ → List ℕ → Type 0)
    → ((disk : D) (image : List ℕ) → since disk (moment disk) image → images disk image)
    → (log : Logged D) (line : List ℕ) → IsLog content images log → log.broken ≡ false → (bytes : List ℕ) → content log.disk ≡ Some bytes
    → LeavesOnly moment since log.disk log.disk (IsBeforeOrAfter log.lines line)
untouched-leaves content images moment since only_now log line inside e bytes told =
    let kept = unbroken-kept log.broken _ e inside.kept in
    started moment since log.disk _ (λ image left.
    inl (subst (λ b. StandsFor b log.lines) (sym (kept.durable bytes told image (only_now log.disk image left))) (inr (log.gate, kept.closed bytes told))))

-- what a log has on its disk
pub log-leaves : {D : Type 0} (content : D → Option (List ℕ)) (images : D → List ℕ → Type 0) (log : Logged D) → IsLog content images log → log.broken ≡ false → LeavesLines content images log.disk log.lines
log-leaves content images log inside e = kept-leaves content images log.disk log.gate log.lines (unbroken-kept log.broken _ e inside.kept)
