-- Lines that stand one behind the other in a buffer.
use Rattle.std.proofs.Common.{◌≡◌, ℕ, zero, suc, ◌+◌, ◌-◌, ◌<◌, ◌≤◌, List, [], ◌∷◌, ◌++◌, length, take, drop, get_or, refl, sym, ap, ◌∙◌, arith, length-drop, Some}
use Rattle.std.specs.Prelude.{slice_get}
use Rattle.std.proofs.Math.Seq.{drop-append_seam}
use Rattle.std.proofs.lemmas.List.{take_all, take-append-le, drop-append-le, take-take, drop-take}
use Rattle.house_base.specs.Text.{Text}
use Rattle.command_text.specs.Held.{RiseTo, parts_from}

pub length-parts_from : (from : ℕ) (ends : List ℕ) (bytes : Text) → length (parts_from from ends bytes) ≡ length ends
length-parts_from from [] bytes = refl
length-parts_from from (e ∷ ends) bytes = ap suc (length-parts_from e ends bytes)

-- the part at an index stands between its own end and the one before it
pub part_at : (from : ℕ) (ends : List ℕ) (bytes : Text) (i : ℕ) → i < length ends →
    slice_get (parts_from from ends bytes) i ≡ Some (take (get_or ends i 0 - get_or (from ∷ ends) i 0) (drop (get_or (from ∷ ends) i 0) bytes))
part_at from [] bytes i h = absurd (omega arith)
part_at from (e ∷ ends) bytes zero h = refl
part_at from (e ∷ ends) bytes (suc i) h = part_at e ends bytes i (omega arith)

pub rise_to_last : (from : ℕ) (ends : List ℕ) (last : ℕ) → RiseTo from ends last → from ≤ last
rise_to_last from [] last h = omega (arith, h)
rise_to_last from (e ∷ ends) last h = omega (arith, h.0, rise_to_last e ends last h.1)

-- an end is not before the one before it, nor behind the last
pub rise_at : (from : ℕ) (ends : List ℕ) (last i : ℕ) → RiseTo from ends last → i < length ends →
    (get_or (from ∷ ends) i 0 ≤ get_or ends i 0) × (get_or ends i 0 ≤ last)
rise_at from [] last i h below = absurd (omega arith)
rise_at from (e ∷ ends) last zero h below = (h.0, rise_to_last e ends last h.1)
rise_at from (e ∷ ends) last (suc i) h below = rise_at e ends last i h.1 (omega arith)

pub rise_more : (from : ℕ) (ends : List ℕ) (last more : ℕ) → RiseTo from ends last → last ≤ more → RiseTo from (ends ++ more ∷ []) more
rise_more from [] last more h later = (omega (arith, h), refl)
rise_more from (e ∷ ends) last more h later = (h.0, rise_more e ends last more h.1 later)

part_stays : (from e : ℕ) (bytes line : Text) → from ≤ e → e ≤ length bytes → take (e - from) (drop from (bytes ++ line)) ≡ take (e - from) (drop from bytes)
part_stays from e bytes line h within =
    ap (take (e - from)) (drop-append-le from bytes line (omega arith))
    ∙ take-append-le (e - from) (drop from bytes) line (simp length-drop (omega arith))

last_part : (from : ℕ) (bytes line : Text) → from ≡ length bytes → take (length bytes + length line - from) (drop from (bytes ++ line)) ≡ line
last_part from bytes line h =
    rw (h, drop-append_seam bytes line) (take_all (length bytes + length line - length bytes) line (omega arith))

-- one more part
pub parts_more : (from : ℕ) (ends : List ℕ) (bytes line : Text) → RiseTo from ends (length bytes) →
    parts_from from (ends ++ (length bytes + length line) ∷ []) (bytes ++ line) ≡ parts_from from ends bytes ++ line ∷ []
parts_more from [] bytes line h = ap (λ part. part ∷ []) (last_part from bytes line h)
parts_more from (e ∷ ends) bytes line h =
    rw (part_stays from e bytes line h.0 (rise_to_last e ends (length bytes) h.1)) (ap (λ parts. take (e - from) (drop from bytes) ∷ parts) (parts_more e ends bytes line h.1))

-- where the parts end is not before where they begin
rise_from : (from : ℕ) (ends : List ℕ) (last n : ℕ) → RiseTo from ends last → n ≤ length ends → from ≤ get_or (from ∷ ends) n 0
rise_from from ends last zero h within = omega arith
rise_from from [] last (suc n) h within = absurd (omega (arith, within))
rise_from from (e ∷ ends) last (suc n) h within = omega (arith, h.0, rise_from e ends last n h.1 (omega (arith, within)))

-- some of the parts rise to the end of the last of them
pub rise_less : (from : ℕ) (ends : List ℕ) (last n : ℕ) → RiseTo from ends last → n ≤ length ends → RiseTo from (take n ends) (get_or (from ∷ ends) n 0)
rise_less from ends last zero h within = refl
rise_less from [] last (suc n) h within = absurd (omega (arith, within))
rise_less from (e ∷ ends) last (suc n) h within = (h.0, rise_less e ends last n h.1 (omega (arith, within)))

part_cut : (from e end : ℕ) (bytes : Text) → from ≤ e → e ≤ end → take (e - from) (drop from (take end bytes)) ≡ take (e - from) (drop from bytes)
part_cut from e end bytes h within =
    let whole : from + (end - from) ≡ end = omega arith in
    ap (λ n. take (e - from) (drop from (take n bytes))) (sym whole)
    ∙ ap (take (e - from)) (drop-take from (end - from) bytes)
    ∙ take-take (e - from) (end - from) (drop from bytes) (omega arith)

-- the first parts, in the bytes up to their end
pub parts_less : (from : ℕ) (ends : List ℕ) (bytes : Text) (last n : ℕ) → RiseTo from ends last → n ≤ length ends →
    parts_from from (take n ends) (take (get_or (from ∷ ends) n 0) bytes) ≡ take n (parts_from from ends bytes)
parts_less from ends bytes last zero h within = refl
parts_less from [] bytes last (suc n) h within = absurd (omega (arith, within))
parts_less from (e ∷ ends) bytes last (suc n) h within =
    rw (part_cut from e (get_or (e ∷ ends) n 0) bytes h.0 (rise_from e ends last n h.1 (omega (arith, within))))
    (ap (λ parts. take (e - from) (drop from bytes) ∷ parts) (parts_less e ends bytes last n h.1 (omega (arith, within))))
