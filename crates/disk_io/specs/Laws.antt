-- The laws of a disk in memory: what reads is an image, and what its clock says.
use Rattle.std.proofs.Common.{◌≡◌, ◌⊎◌, inl, inr, ⊎_elim, ℕ, zero, suc, ◌+◌, ◌-◌, ◌≤◌, ◌<◌, ◌&&◌, ◌||◌, Bool, true, false, nat_le, nat_lt, List, [], ◌∷◌, ◌++◌, length, get_or, take, drop, refl, sym, ◌∙◌, ap, subst, arith}
use Rattle.std.proofs.lemmas.List.{take_all, length-take, length-drop, length-append, get_or-take, get_or-drop, get_or_append_left, get_or-append_right}
use Rattle.std.proofs.lemmas.Bool.Decides.{nat_tests}
use Rattle.std.specs.List.{fold}
use Rattle.disk_io.specs.Disk.{written}
use Rattle.disk_io.specs.Images.{OnDisk, IsImage, is_inside, with_synced}
use Rattle.disk_io.specs.Replay.{Recorded, seen_now, IsImageNow, IsImageSince, after_step, replayed}
use Rattle.disk_io.specs.declared.step.Step.{Step}
use Rattle.disk_io.specs.declared.step.Step.TheVariants.{Write, Sync}

pub below_or : (a b : ℕ) → (a ≤ b) ⊎ (b < a)
below_or zero b = inl (omega arith)
below_or (suc a) zero = inr (omega arith)
below_or (suc a) (suc b) = ⊎_elim (λ h. inl (omega (arith, h))) (λ h. inr (omega (arith, h))) (below_or a b)

pub length-written : (old : List ℕ) (at : ℕ) (piece : List ℕ) → length (written old at piece) ≡ length (take at old) + length piece + (length old - (at + length piece))
length-written old at piece = omega (arith, length-append (take at old ++ piece) (drop (at + length piece) old), length-append (take at old) piece, length-drop (at + length piece) old)

-- a write leaves the bytes outside its range
pub get_or-written_outside : (old : List ℕ) (at : ℕ) (piece : List ℕ) (i : ℕ) → i < length old → (i < at) ⊎ (at + length piece ≤ i) → get_or (written old at piece) i 0 ≡ get_or old i 0
get_or-written_outside old at piece i within (inl low) =
    let front : i < length (take at old) = omega (arith, low, within, length-take at old) in
    get_or_append_left (take at old ++ piece) (drop (at + length piece) old) 0 i (omega (arith, front, length-append (take at old) piece))
    ∙ get_or_append_left (take at old) piece 0 i front
    ∙ get_or-take at old i 0 low
get_or-written_outside old at piece i within (inr high) =
    let whole : length (take at old ++ piece) ≡ at + length piece = omega (arith, high, within, length-take at old, length-append (take at old) piece) in
    get_or-append_right (take at old ++ piece) (drop (at + length piece) old) (at + length piece) i 0 whole high
    ∙ get_or-drop (at + length piece) old (i - (at + length piece)) 0
    ∙ ap (λ k. get_or old k 0) (omega (arith, high))

-- where no range has a place, the first has it not
pub outside_first : (i at n : ℕ) (ranges : List (ℕ × ℕ)) → is_inside i ((at, n) ∷ ranges) ≡ false → (i < at) ⊎ (at + n ≤ i)
outside_first i at n ranges out =
    ⊎_elim
    (λ from. ⊎_elim (λ past. inr past) (λ within. absurd (both from within)) (below_or (at + n) i))
    (λ before. inl before)
    (below_or at i)
  where
    both : at ≤ i → i < at + n → ⊥
    both from within =
        let inside : (nat_le at i && nat_lt i (at + n)) ≡ true = grind (arith, nat_tests, from, within) in
        let e : true ≡ false = sym (ap (λ b. b || is_inside i ranges) inside) ∙ out in
        cc

-- and the others have it not
pub outside_rest : (i at n : ℕ) (ranges : List (ℕ × ℕ)) → is_inside i ((at, n) ∷ ranges) ≡ false → is_inside i ranges ≡ false
outside_rest i at n ranges out = second (nat_le at i && nat_lt i (at + n)) (is_inside i ranges) out
  where
    second : (b c : Bool) → (b || c) ≡ false → c ≡ false
    second true c e = cc
    second false c e = e

-- right after a sync what reads is an image
pub synced-image : (bytes : List ℕ) → IsImage (with_synced bytes) bytes
synced-image bytes = record { no_shorter = omega arith; no_longer = omega arith; same = λ i lt out. refl }

-- what reads stays an image
after_step-image : (disk : OnDisk) (step : Step) → IsImage disk disk.seen → IsImage (after_step disk step) (after_step disk step).seen
after_step-image disk (Write at piece true) here = record {
  no_shorter = omega (arith, here.no_shorter, length-written disk.seen at piece, length-take at disk.seen);
  no_longer = omega (arith, here.no_longer, length-written disk.seen at piece, length-take at disk.seen);
  same = λ i lt out.
      get_or-written_outside disk.seen at piece i (omega (arith, lt, here.no_shorter)) (outside_first i at (length piece) disk.ranges out)
      ∙ here.same i lt (outside_rest i at (length piece) disk.ranges out);
}
after_step-image disk (Write at piece false) here = record {
  no_shorter = here.no_shorter;
  no_longer = omega (arith, here.no_longer);
  same = λ i lt out. here.same i lt (outside_rest i at (length piece) disk.ranges out);
}
after_step-image disk (Sync true) here = synced-image disk.seen
after_step-image disk (Sync false) here = here

fold-image : (disk : OnDisk) (steps : List Step) → IsImage disk disk.seen → IsImage (fold after_step disk steps) (fold after_step disk steps).seen
fold-image disk [] here = here
fold-image disk (step ∷ steps) here = fold-image (after_step disk step) steps (after_step-image disk step here)

pub replayed-image : (first : List ℕ) (steps : List Step) → IsImage (replayed first steps) (replayed first steps).seen
replayed-image first steps = fold-image (with_synced first) steps (synced-image first)

pub seen-is-image : (disk : Recorded) → IsImageNow disk (seen_now disk)
seen-is-image disk = replayed-image disk.first disk.steps

pub now-counts : (disk : Recorded) (t : ℕ) (image : List ℕ) → t ≤ length disk.steps → IsImageNow disk image → IsImageSince disk t image
now-counts disk t image le now = (
  length disk.steps,
  le,
  omega arith,
  subst (λ steps. IsImage (replayed disk.first steps) image) (sym (take_all (length disk.steps) disk.steps (omega arith))) now,
)

pub now-only : (disk : Recorded) (image : List ℕ) → IsImageSince disk (length disk.steps) image → IsImageNow disk image
now-only disk image since = subst (λ steps. IsImage (replayed disk.first steps) image) (take_all since.0 disk.steps since.1) since.3
