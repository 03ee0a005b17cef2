-- The lines that are told and shown.
use Rattle.std.proofs.Common.{◌≡◌, ℕ, zero, suc, ◌+◌, ◌-◌, ◌≤◌, ◌<◌, List, [], ◌∷◌, ◌++◌, length, take, drop, flat_map, set, sym, ◌∙◌, ap, arith, append-nil, append_assoc, length-append}
use Rattle.std.specs.List.{range_with_len}
use Rattle.std.proofs.lemmas.Grind.{flat_map-append}
use Rattle.std.proofs.lemmas.List.{drop_at, drop-drop, drop_all, drop-set, length-take-le}
use borrow.Rule.Slice.PartMut.{put_mid}
use Rattle.house_base.specs.Text.{Text}
use Rattle.house_model.specs.Text.{Lines}
use Rattle.intake_desk.specs.Intake.{told, told_line, shown}

-- a head that is written before a text
pub drop-written : (buf head : List ℕ) (end n : ℕ) → n ≤ end → end ≤ length buf → drop (end - n) (put_mid (end - n) (end - (end - n)) buf head) ≡ head ++ drop end buf
drop-written buf head end n le within =
    drop_at (take (end - n) buf) _ (end - n) (length-take-le (end - n) buf (omega (arith, within)))
    ∙ ap (λ l. head ++ l) (drop-drop (end - (end - n)) (end - n) buf ∙ ap (λ i. drop i buf) (omega (arith, le)))

-- the last byte of a buffer
pub drop-last : (buf : List ℕ) (last x : ℕ) → length buf ≡ last + 1 → drop last (set buf last x) ≡ x ∷ []
drop-last buf last x size = drop-set buf last x (omega (arith, size)) ∙ ap (λ l. x ∷ l) (drop_all (last + 1) buf (omega (arith, size)))

range-push : (a n : ℕ) → range_with_len a (suc n) ≡ range_with_len a n ++ (a + n) ∷ []
range-push a zero = ap (λ k. k ∷ []) (omega arith)
range-push a (suc n) = ap (λ l. a ∷ l) (range-push (a + 1) n ∙ ap (λ k. range_with_len (a + 1) n ++ k ∷ []) (omega arith))

-- one line more is told
pub told-push : (old count : ℕ) → told old (suc count) ≡ told old count ++ told_line (old + count + 1)
told-push old count =
    ap (flat_map told_line) (range-push (old + 1) count)
    ∙ flat_map-append told_line (range_with_len (old + 1) count) ((old + 1 + count) ∷ [])
    ∙ ap (λ l. told old count ++ l) (append-nil (told_line (old + 1 + count)) ∙ ap told_line (omega arith))

-- fewer lines are told first
pub told-front : (old count more : ℕ) → (rest : Text) × (told old (more + count) ≡ told old count ++ rest)
told-front old count zero = ([], ap (told old) (omega arith) ∙ sym (append-nil (told old count)))
told-front old count (suc more) =
    let shorter = told-front old count more in
    let one : suc more + count ≡ suc (more + count) = omega arith in (
      shorter.0 ++ told_line (old + (more + count) + 1),
      ap (told old) one ∙ told-push old (more + count) ∙ ap (λ l. l ++ told_line (old + (more + count) + 1)) shorter.1 ∙ append_assoc (told old count) shorter.0 _,
    )

-- each line has a byte
pub told-longer : (old count more : ℕ) → length (told old count) < length (told old (suc more + count))
told-longer old count more =
    let shorter = told-front old count more in
    let one : suc more + count ≡ suc (more + count) = omega arith in
    let last = told_line (old + (more + count) + 1) in
    let size : length (told old (suc more + count)) ≡ length (told old count) + length shorter.0 + length last =
    ap (λ n. length (told old n)) one ∙ ap length (told-push old (more + count)) ∙ length-append (told old (more + count)) last
    ∙ ap (λ n. n + length last) (ap length shorter.1 ∙ length-append (told old count) shorter.0) in
    omega (arith, size)

-- one line more is shown
pub shown-push : (lines : Lines) (line : Text) → shown (lines ++ line ∷ []) ≡ shown lines ++ (line ++ 10 ∷ [])
shown-push lines line = flat_map-append (λ line. line ++ 10 ∷ []) lines (line ∷ []) ∙ ap (λ l. shown lines ++ l) (append-nil (line ++ 10 ∷ []))
