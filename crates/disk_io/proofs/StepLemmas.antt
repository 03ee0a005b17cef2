-- What one more step of a disk in memory does to its images and to its clock.
use Rattle.std.proofs.Common.{◌≡◌, ◌⊎◌, inl, inr, ⊎_elim, ℕ, ◌+◌, ◌≤◌, Bool, true, false, List, [], ◌∷◌, ◌++◌, length, take, max, fold, Some, Result, Ok, Err, OnOk, OnErr, refl, sym, ◌∙◌, ap, subst, arith}
use Rattle.std.proofs.lemmas.List.{take_all, take-append-le, length-take, length_push, ext_get_or}
use Rattle.std.proofs.lemmas.List.Sums.{fold-append}
use Rattle.disk_io.specs.Disk.{written, Torn, Follows, AreAmong, GoesOn, Only}
use Rattle.disk_io.specs.Images.{OnDisk, IsImage, with_synced}
use Rattle.disk_io.specs.Replay.{Recorded, IsReplayed, FailsNext, after_call, after_failed_call, after_refused_call, with_step, seen_now, IsImageNow, IsImageSince, AreWithin, IsWithin, after_step, replayed}
use Rattle.disk_io.specs.Laws.{below_or, length-written, replayed-image}
use Rattle.disk_io.specs.declared.step.Step.{Step}
use Rattle.disk_io.specs.declared.step.Step.TheVariants.{Write, Sync}
use Rattle.disk_io.proofs.ImageLemmas.{torn-from, torn_itself}

pub replayed-more : (first : List ℕ) (steps : List Step) (step : Step) → replayed first (steps ++ step ∷ []) ≡ after_step (replayed first steps) step
replayed-more first steps step = fold-append after_step (with_synced first) steps (step ∷ [])

-- one more write that began within what reads
pub AreWithin-more : (disk : OnDisk) (steps : List Step) (step : Step) → AreWithin disk steps → IsWithin (fold after_step disk steps) step → AreWithin disk (steps ++ step ∷ [])
AreWithin-more disk [] step within here = (here, tt)
AreWithin-more disk (s ∷ steps) step within here = (within.0, AreWithin-more (after_step disk s) steps step within.1 here)

-- the parts of a disk after one more step
IsReplayed-more : (first : List ℕ) (steps more : List Step) (step : Step) (size last : ℕ) → IsReplayed first steps size → more ≡ steps ++ step ∷ [] → IsWithin (replayed first steps) step
    → last ≡ length (after_step (replayed first steps) step).seen → IsReplayed first more last
IsReplayed-more first steps more step size last was e within is = record {
  size_is = is ∙ ap (λ disk. length disk.seen) (sym (replayed-more first steps step)) ∙ ap (λ steps. length (replayed first steps).seen) (sym e);
  within = subst (λ steps. AreWithin (with_synced first) steps) (sym e) (AreWithin-more (with_synced first) steps step was.within within);
}

pub IsReplayed-sync : (first : List ℕ) (steps more : List Step) (is_done : Bool) (size : ℕ) → IsReplayed first steps size → more ≡ steps ++ Sync is_done ∷ [] → IsReplayed first more size
IsReplayed-sync first steps more true size was e = IsReplayed-more first steps more (Sync true) size size was e tt was.size_is
IsReplayed-sync first steps more false size was e = IsReplayed-more first steps more (Sync false) size size was e tt was.size_is

pub IsReplayed-failed_write : (first : List ℕ) (steps more : List Step) (at : ℕ) (piece : List ℕ) (size : ℕ) → IsReplayed first steps size → more ≡ steps ++ Write at piece false ∷ [] → at ≤ length (replayed first steps).seen
    → IsReplayed first more size
IsReplayed-failed_write first steps more at piece size was e within = IsReplayed-more first steps more (Write at piece false) size size was e within was.size_is

pub IsReplayed-write : (first : List ℕ) (steps more : List Step) (at : ℕ) (piece : List ℕ) (size last : ℕ) → IsReplayed first steps size → more ≡ steps ++ Write at piece true ∷ [] → at ≤ length (replayed first steps).seen
    → last ≡ max size (at + length piece) → IsReplayed first more last
IsReplayed-write first steps more at piece size last was e within is =
    let seen = (replayed first steps).seen in
    IsReplayed-more first steps more (Write at piece true) size last was e within
    (omega (arith, is, was.size_is, within, length-written seen at piece, length-take at seen))

-- right after a sync an image is what reads
pub only-synced : (bytes image : List ℕ) → IsImage (with_synced bytes) image → image ≡ bytes
only-synced bytes image img = ext_get_or 0 image bytes (omega (arith, img.no_shorter, img.no_longer)) (λ i lt. img.same i (omega (arith, lt, img.no_longer)) refl)

-- a sync leaves no other images
pub synced-among : (first : List ℕ) (steps : List Step) (is_done : Bool) (image : List ℕ) → IsImage (after_step (replayed first steps) (Sync is_done)) image → IsImage (replayed first steps) image
synced-among first steps true image img = subst (λ i. IsImage (replayed first steps) i) (sym (only-synced _ image img)) (replayed-image first steps)
synced-among first steps false image img = img

-- a write leaves torn images
pub written-torn : (first : List ℕ) (steps : List Step) (at : ℕ) (piece : List ℕ) (is_done : Bool) (image : List ℕ) → at ≤ length (replayed first steps).seen
    → IsImage (after_step (replayed first steps) (Write at piece is_done)) image → (earlier : List ℕ) × IsImage (replayed first steps) earlier × Torn at (length piece) earlier image
written-torn first steps at piece is_done image within img = torn-from (replayed first steps) at (length piece) _ image (replayed-image first steps) within img

-- a call that leaves what is recorded
pub record Keeps (old new : Recorded) : Type 0 where
  pub first : new.first ≡ old.first
  pub steps : new.steps ≡ old.steps

-- a call that records one more step
pub record Adds (step : Step) (old new : Recorded) : Type 0 where
  pub first : new.first ≡ old.first
  pub steps : new.steps ≡ old.steps ++ step ∷ []

module _ (old new : Recorded) where
  pub Keeps-from_result : {T E : Type 0} (r : Result T E) → OnOk r (new ≡ after_call old) → OnErr r (new ≡ after_failed_call old) → Keeps old new
  Keeps-from_result (Ok x) ok err = record { first = ap (λ d. d.first) ok; steps = ap (λ d. d.steps) ok }
  Keeps-from_result (Err x) ok err = record { first = ap (λ d. d.first) err; steps = ap (λ d. d.steps) err }

  -- a write or a sync is recorded as one that went well or as one that failed, or it is not recorded
  pub outcome : {T E : Type 0} (step : Bool → Step) (r : Result T E) → OnOk r (new ≡ with_step (after_call old) (step true))
      → OnErr r ((FailsNext old × (new ≡ with_step (after_failed_call old) (step false))) ⊎ (new ≡ after_refused_call old)) → Keeps old new ⊎ ((is_done : Bool) × Adds (step is_done) old new)
  outcome step (Ok x) ok err = inr (true, record { first = ap (λ d. d.first) ok; steps = ap (λ d. d.steps) ok })
  outcome step (Err x) ok (inl torn) = inr (false, record { first = ap (λ d. d.first) torn.1; steps = ap (λ d. d.steps) torn.1 })
  outcome step (Err x) ok (inr not_begun) = inl (record { first = ap (λ d. d.first) not_begun; steps = ap (λ d. d.steps) not_begun })

  -- a call that records nothing
  module _ (k : Keeps old new) where
    at-kept : (n : ℕ) (image : List ℕ) → IsImage (replayed new.first (take n new.steps)) image → IsImage (replayed old.first (take n old.steps)) image
    at-kept n image img = subst (λ steps. IsImage (replayed old.first (take n steps)) image) k.steps (subst (λ first. IsImage (replayed first (take n new.steps)) image) k.first img)

    pub seen-kept : seen_now new ≡ seen_now old
    seen-kept = ap (λ first. (replayed first new.steps).seen) k.first ∙ ap (λ steps. (replayed old.first steps).seen) k.steps

    pub now-kept : AreAmong (IsImageNow new) (IsImageNow old)
    now-kept image img = subst (λ steps. IsImage (replayed old.first steps) image) k.steps (subst (λ first. IsImage (replayed first new.steps) image) k.first img)

    pub since-kept : AreAmong (IsImageSince new (length old.steps)) (IsImageNow old)
    since-kept image since = subst (λ steps. IsImage (replayed old.first steps) image) (take_all since.0 old.steps since.1) (at-kept since.0 image since.3)

    pub time-kept : GoesOn (length old.steps) (length new.steps) (IsImageSince old) (IsImageSince new)
    time-kept = record {
      later = omega (arith, ap length k.steps);
      joins = λ t image le since. inl (since.0, since.1, omega (arith, since.2, ap length k.steps), at-kept since.0 image since.3);
    }

  -- a call that records a step
  module _ (step : Step) (a : Adds step old new) where
    longer : length new.steps ≡ length old.steps + 1
    longer = ap length a.steps ∙ length_push old.steps step

    pub seen-added : seen_now new ≡ (after_step (replayed old.first old.steps) step).seen
    seen-added = ap (λ first. (replayed first new.steps).seen) a.first ∙ ap (λ steps. (replayed old.first steps).seen) a.steps ∙ ap (λ disk. disk.seen) (replayed-more old.first old.steps step)

    pub now-added : (image : List ℕ) → IsImageNow new image → IsImage (after_step (replayed old.first old.steps) step) image
    now-added image img =
        subst (λ disk. IsImage disk image) (replayed-more old.first old.steps step)
        (subst (λ steps. IsImage (replayed old.first steps) image) a.steps (subst (λ first. IsImage (replayed first new.steps) image) a.first img))

    -- after no more steps than before it is an image of before
    at-earlier : (k : ℕ) (image : List ℕ) → k ≤ length old.steps → IsImage (replayed new.first (take k new.steps)) image → IsImage (replayed old.first (take k old.steps)) image
    at-earlier k image le img =
        subst (λ steps. IsImage (replayed old.first steps) image) (ap (λ steps. take k steps) a.steps ∙ take-append-le k old.steps (step ∷ []) le)
        (subst (λ first. IsImage (replayed first (take k new.steps)) image) a.first img)

    pub since-added : (image : List ℕ) → IsImageSince new (length old.steps) image → IsImageNow old image ⊎ IsImage (after_step (replayed old.first old.steps) step) image
    since-added image since =
        ⊎_elim
        (λ le. inl (subst (λ steps. IsImage (replayed old.first steps) image) (take_all since.0 old.steps since.1) (at-earlier since.0 image le since.3)))
        (λ past. inr (now-added image (subst (λ steps. IsImage (replayed new.first steps) image) (take_all since.0 new.steps (omega (arith, past, longer))) since.3)))
        (below_or since.0 (length old.steps))

    pub time-added : GoesOn (length old.steps) (length new.steps) (IsImageSince old) (IsImageSince new)
    time-added = record {
      later = omega (arith, longer);
      joins = λ t image le since. ⊎_elim
          (λ early. inl (since.0, since.1, early, at-earlier since.0 image early since.3))
          (λ past. inr (since.0, omega (arith, past), since.2, since.3))
          (below_or since.0 (length old.steps));
    }

  pub time-any : (step : Bool → Step) → Keeps old new ⊎ ((is_done : Bool) × Adds (step is_done) old new) → GoesOn (length old.steps) (length new.steps) (IsImageSince old) (IsImageSince new)
  time-any step (inl kept) = time-kept kept
  time-any step (inr added) = time-added (step added.0) added.1

  -- what a write does
  module _ (at : ℕ) (piece : List ℕ) (within : at ≤ length (seen_now old)) where
    pub images-write : Keeps old new ⊎ ((is_done : Bool) × Adds (Write at piece is_done) old new) → Follows (Torn at (length piece)) (IsImageNow old) (IsImageNow new)
    images-write (inl kept) image img = (image, now-kept kept image img, torn_itself at (length piece) image)
    images-write (inr added) image img = written-torn old.first old.steps at piece added.0 image within (now-added (Write at piece added.0) added.1 image img)

    pub during-write : Keeps old new ⊎ ((is_done : Bool) × Adds (Write at piece is_done) old new) → Follows (Torn at (length piece)) (IsImageNow old) (IsImageSince new (length old.steps))
    during-write (inl kept) image since = (image, since-kept kept image since, torn_itself at (length piece) image)
    during-write (inr added) image since =
        ⊎_elim
        (λ before. (image, before, torn_itself at (length piece) image))
        (λ after. written-torn old.first old.steps at piece added.0 image within after)
        (since-added (Write at piece added.0) added.1 image since)

    pub written-seen : {T E : Type 0} (r : Result T E) → OnOk r (new ≡ with_step (after_call old) (Write at piece true)) → OnOk r (Some (seen_now new) ≡ Some (written (seen_now old) at piece))
    written-seen (Ok x) e = ap (λ bytes. Some bytes) (seen-added (Write at piece true) (record { first = ap (λ d. d.first) e; steps = ap (λ d. d.steps) e }))
    written-seen (Err x) e = tt

  -- what a sync does
  pub images-sync : Keeps old new ⊎ ((is_done : Bool) × Adds (Sync is_done) old new) → AreAmong (IsImageNow new) (IsImageNow old)
  images-sync (inl kept) image img = now-kept kept image img
  images-sync (inr added) image img = synced-among old.first old.steps added.0 image (now-added (Sync added.0) added.1 image img)

  pub during-sync : Keeps old new ⊎ ((is_done : Bool) × Adds (Sync is_done) old new) → AreAmong (IsImageSince new (length old.steps)) (IsImageNow old)
  during-sync (inl kept) image since = since-kept kept image since
  during-sync (inr added) image since =
      ⊎_elim (λ before. before) (λ after. synced-among old.first old.steps added.0 image after) (since-added (Sync added.0) added.1 image since)

  pub synced-seen : {T E : Type 0} (r : Result T E) → OnOk r (new ≡ with_step (after_call old) (Sync true)) → OnOk r (Some (seen_now new) ≡ Some (seen_now old))
  synced-seen (Ok x) e = ap (λ bytes. Some bytes) (seen-added (Sync true) (record { first = ap (λ d. d.first) e; steps = ap (λ d. d.steps) e }))
  synced-seen (Err x) e = tt

  pub synced-only : {T E : Type 0} (r : Result T E) → OnOk r (new ≡ with_step (after_call old) (Sync true)) → OnOk r (Only (seen_now new) (IsImageNow new))
  synced-only (Ok x) e = λ image img.
      let added : Adds (Sync true) old new = record { first = ap (λ d. d.first) e; steps = ap (λ d. d.steps) e } in
      only-synced (seen_now old) image (now-added (Sync true) added image img) ∙ sym (seen-added (Sync true) added)
  synced-only (Err x) e = tt
