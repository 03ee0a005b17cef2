-- A buffer that an entry was written into.
use Rattle.std.proofs.Common.{◌≡◌, ℕ, ◌+◌, ◌-◌, List, [], ◌∷◌, ◌++◌, length, drop, refl, sym, ◌∙◌, ap, arith, append_assoc, length-append, length-drop}
use Rattle.std.proofs.Math.ListN.{set}
use Rattle.std.proofs.lemmas.List.{take_at, drop_at, set_at}
use borrow.Rule.Slice.PartMut.{put_mid}

one-left : (xs : List ℕ) → length xs ≡ 1 → (x : ℕ) × (xs ≡ x ∷ [])
one-left [] e = absurd (omega (arith, e))
one-left (x ∷ []) e = (x, refl)
one-left (x ∷ (y ∷ xs)) e = absurd (omega (arith, e))

-- four bytes before a line, and a byte behind it
pub filled : (head line buf : List ℕ) → length head ≡ 4 → length buf ≡ length line + 5
    → set (put_mid 4 (4 + length line - 4) (head ++ drop 4 buf) line) (4 + length line) 0 ≡ head ++ line ++ 0 ∷ []
filled head line buf four room =
    let n : 4 + length line - 4 ≡ length line = omega arith in
    let rest : drop (4 + length line - 4) (drop 4 (head ++ drop 4 buf)) ≡ drop (length line) (drop 4 buf) =
    ap (λ xs. drop (4 + length line - 4) xs) (drop_at head (drop 4 buf) 4 four) ∙ ap (λ k. drop k (drop 4 buf)) n in
    let last = one-left (drop (length line) (drop 4 buf)) (omega (arith, room, length-drop (length line) (drop 4 buf), length-drop 4 buf)) in
    let before : put_mid 4 (4 + length line - 4) (head ++ drop 4 buf) line ≡ (head ++ line) ++ last.0 ∷ [] =
    ap (λ xs. xs ++ (line ++ drop (4 + length line - 4) (drop 4 (head ++ drop 4 buf)))) (take_at head (drop 4 buf) 4 four)
    ∙ ap (λ xs. head ++ (line ++ xs)) (rest ∙ last.1)
    ∙ sym (append_assoc head line (last.0 ∷ [])) in
    ap (λ xs. set xs (4 + length line) 0) before ∙ set_at (head ++ line) last.0 [] 0 (4 + length line) (omega (arith, four, length-append head line))
