-- The bytes that wait, in the room that holds them.
use Rattle.std.proofs.Common.{◌≡◌, ℕ, ◌+◌, ◌-◌, ◌≤◌, List, ◌++◌, length, take, drop, refl, sym, ◌∙◌, ap, subst, arith, Option, Some, None, is_some, IfSome, length-take, length-drop}
use Rattle.std.specs.Option.{option_map}
use Rattle.std.specs.Io.KnownBytes.{IsAtEnd}
use Rattle.std.proofs.Math.Seq.{take-append-add}
use Rattle.std.proofs.lemmas.List.{drop-drop, drop-take, take-append-drop, take-append-le, drop-append-le, length-take-le, append_assoc}
use borrow.Rule.Slice.PartMut.{put_mid}
use Rattle.house_io.specs.Source.{Takes}
use Rattle.intake_desk.specs.Input.{uncut}

-- the bytes from one place to another
abbrev pub part : List ℕ → ℕ → ℕ → List ℕ
part bytes from to = take (to - from) (drop from bytes)

pub part-skip : (bytes : List ℕ) (from to count : ℕ) → from ≤ to → to ≤ length bytes → count ≤ length (part bytes from to) → part bytes (from + count) to ≡ drop count (part bytes from to)
part-skip bytes from to count le within few =
    let size : length (part bytes from to) ≡ to - from = omega (arith, length-take (to - from) (drop from bytes), length-drop from bytes, le, within) in
    let split : to - from ≡ count + (to - (from + count)) = omega (arith, few, size, le) in
    sym (ap (λ n. drop count (take n (drop from bytes))) split ∙ drop-take count (to - (from + count)) (drop from bytes) ∙ ap (take (to - (from + count))) (dropped bytes from count))
  where
    dropped : (bytes : List ℕ) (from count : ℕ) → drop count (drop from bytes) ≡ drop (from + count) bytes
    dropped bytes from count = drop-drop count from bytes

module _ (bytes piece : List ℕ) (from to count : ℕ) (le : from ≤ to) (within : to ≤ length bytes) (few : count ≤ length piece) where
  room : ℕ
  room = length bytes - to

  -- what was taken stands behind what waited
  pub part-more : (n : ℕ) → part (put_mid to n bytes piece) from (to + count) ≡ part bytes from to ++ take count piece
  part-more n =
      let rest = piece ++ drop n (drop to bytes) in
      let front : length (take to bytes) ≡ to = length-take-le to bytes within in
      let cut : drop from (take to bytes) ≡ take (to - from) (drop from bytes) =
      ap (λ n. drop from (take n bytes)) (omega (arith, le)) ∙ drop-take from (to - from) bytes in
      let size : length (take (to - from) (drop from bytes)) ≡ to - from = omega (arith, length-take (to - from) (drop from bytes), length-drop from bytes, le, within) in
      ap (take (to + count - from)) (drop-append-le from (take to bytes) _ (omega (arith, front, le)) ∙ ap (λ l. l ++ rest) cut)
      ∙ ap (λ n. take n (part bytes from to ++ rest)) (omega (arith, size, le))
      ∙ take-append-add (part bytes from to) rest count
      ∙ ap (λ l. part bytes from to ++ l) (take-append-le count piece _ few)

-- what is still to be cut stays
pub uncut-more : (waiting buf more : List ℕ) (count : ℕ) (before after : Option (List ℕ)) → is_some after ≡ is_some before → IfSome before (λ rest. Takes count rest after buf)
    → more ≡ waiting ++ take count buf → uncut more after ≡ uncut waiting before
uncut-more waiting buf more count None None told taken is = refl
uncut-more waiting buf more count None (Some rest) told taken is = absurd (cc)
uncut-more waiting buf more count (Some rest) after told taken is =
    ap (option_map (λ rest. more ++ rest)) taken.rest
    ∙ ap Some (ap (λ l. l ++ drop count rest) (is ∙ ap (λ l. waiting ++ l) taken.bytes) ∙ append_assoc waiting (take count rest) (drop count rest) ∙ ap (λ l. waiting ++ l) (take-append-drop count rest))

pub uncut-same : (waiting more : List ℕ) (before after : Option (List ℕ)) → after ≡ before → more ≡ waiting → uncut more after ≡ uncut waiting before
uncut-same waiting more before after a w = ap (λ l. uncut l after) w ∙ ap (uncut waiting) a

-- at the end nothing is left
pub still-at-end : (buf : List ℕ) (before after : Option (List ℕ)) → is_some after ≡ is_some before → IfSome before (λ rest. Takes 0 rest after buf) → IsAtEnd before → IsAtEnd after
still-at-end buf None None told taken ends = tt
still-at-end buf None (Some rest) told taken ends = absurd (cc)
still-at-end buf (Some rest) after told taken ends = subst IsAtEnd (sym (taken.rest ∙ ap Some ends)) refl
