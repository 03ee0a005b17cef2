-- What the calls of a start leave.
use Rattle.std.proofs.Common.{◌≡◌, inl, ℕ, ◌≤◌, ◌<◌, List, ◌++◌, length, take, drop, sym, ◌∙◌, ap, subst, arith, Option, Some, None, IfSome, option_map, Result, Ok, Err, IfOk, IfErr, ⊎_elim, min, ◌+◌, ◌-◌, length-append}
use Rattle.std.proofs.Math.Seq.{take-add}
use Rattle.std.proofs.lemmas.List.{take_all}
use Rattle.disk_io.specs.Disk.{AreAmong, GoesOn, Only}
use Rattle.intake_log.specs.declared.limits.TheConstants.{FRONT_BYTES}
use Rattle.intake_log.specs.Journal.{IsClosedAt, IsKept, records_size}
use Rattle.intake_log.specs.Scan.{Scanned, found, scan, settled}
use Rattle.intake_log.specs.Scan.Scanned.{Ended}
use Rattle.intake_log.specs.Start.{OnlyReads}
use Rattle.intake_log.proofs.JournalLemmas.{held}
use Rattle.intake_log.proofs.FormLemmas.{ended-closed}
use Rattle.intake_log.proofs.FrontLemmas.{front-scan}

pub if_ok-map : {T E : Type 0} (r : Result T E) (P Q : T → Type 0) → IfOk r P → ((x : T) → P x → Q x) → IfOk r Q
if_ok-map (Ok x) P Q p f = f x p
if_ok-map (Err e) P Q p f = tt

pub if_ok-both : {T E : Type 0} (r : Result T E) (P Q R : T → Type 0) → IfOk r P → IfOk r Q → ((x : T) → P x → Q x → R x) → IfOk r R
if_ok-both (Ok x) P Q R p q f = f x p q
if_ok-both (Err e) P Q R p q f = tt

pub if_err-map : {T E : Type 0} (r : Result T E) (P Q : E → Type 0) → IfErr r P → ((x : E) → P x → Q x) → IfErr r Q
if_err-map (Ok x) P Q p f = tt
if_err-map (Err e) P Q p f = f e p

pub if_some-map : {T : Type 0} (o : Option T) (P Q : T → Type 0) → IfSome o P → ((x : T) → P x → Q x) → IfSome o Q
if_some-map None P Q p f = tt
if_some-map (Some x) P Q p f = f x p

-- a piece more of the front
pub grown : (o p : Option (List ℕ)) (front piece new : List ℕ) (count at : ℕ) → at ≡ length front → p ≡ o → IfSome o (λ b. front ≡ take (length front) b) → IfSome p (λ b. piece ≡ take count (drop at b))
    → length piece ≡ count → new ≡ front ++ piece → IfSome o (λ b. new ≡ take (length new) b)
grown None p front piece new count at at_is same so_far reads size new_is = tt
grown (Some b) p front piece new count at at_is same so_far reads size new_is =
    let long : length new ≡ length front + count = omega (arith, ap length new_is, length-append front piece, size) in
    new_is
    ∙ ap (λ l. l ++ piece) so_far
    ∙ ap (λ l. take (length front) b ++ l) (held p (λ b. piece ≡ take count (drop at b)) b same reads ∙ ap (λ n. take count (drop n b)) at_is)
    ∙ sym (take-add (length front) count b)
    ∙ ap (λ n. take n b) (sym long)

pub grown-most : (front piece new : List ℕ) (room most : ℕ) → length front < most → length piece ≤ room → room ≤ most - length front → new ≡ front ++ piece → length new ≤ most
grown-most front piece new room most low fits roomy new_is = omega (arith, low, fits, roomy, ap length new_is, length-append front piece)

-- nothing more is there
pub front-ends : (o p : Option (List ℕ)) (front : List ℕ) (count room most at : ℕ) → at ≡ length front → p ≡ o → IfSome o (λ b. front ≡ take (length front) b) → IfSome p (λ b. count ≡ min room (length b - at))
    → count ≡ 0 → 0 < room → length front ≤ most → IfSome o (λ b. front ≡ take most b)
front-ends None p front count room most at at_is same so_far reads zero_is roomy low = tt
front-ends (Some b) p front count room most at at_is same so_far reads zero_is roomy low =
    let whole : length b ≤ length front = omega (arith, held p (λ b. count ≡ min room (length b - at)) b same reads, zero_is, roomy, at_is) in
    so_far ∙ take_all (length front) b whole ∙ sym (take_all most b (omega (arith, whole, low)))

-- the front is full
pub front-full : (o : Option (List ℕ)) (front : List ℕ) (most : ℕ) → IfSome o (λ b. front ≡ take (length front) b) → length front ≤ most → most ≤ length front → IfSome o (λ b. front ≡ take most b)
front-full None front most so_far low high = tt
front-full (Some b) front most so_far low high = so_far ∙ ap (λ n. take n b) (omega (arith, low, high))

-- the scan of the front is that of the file
pub from-front : (o p : Option (List ℕ)) (front : List ℕ) (P : Scanned → Type 0) → p ≡ option_map settled o → IfSome p (λ b. front ≡ take FRONT_BYTES b) → P (scan front) → IfSome o (λ b. P (found b))
from-front None p front P e is holds = tt
from-front (Some b) p front P e is holds =
    subst P (ap scan (held p (λ b. front ≡ take FRONT_BYTES b) (settled b) e is) ∙ front-scan FRONT_BYTES (settled b) (omega arith)) holds

module _ {D : Type 0} (content : D → Option (List ℕ)) (images : D → List ℕ → Type 0) (moment : D → ℕ) (since : D → ℕ → List ℕ → Type 0) where
  -- one more call that only reads
  pub only_reads-more : ((disk : D) (t : ℕ) (image : List ℕ) → t ≤ moment disk → images disk image → since disk t image)
      → (old mid new : D) → OnlyReads content images moment since old mid → content new ≡ content mid → AreAmong (images new) (images mid)
      → AreAmong (since new (moment mid)) (images mid) → GoesOn (moment mid) (moment new) (since mid) (since new) → OnlyReads content images moment since old new
  only_reads-more counts_now old mid new r same among during time = record {
    same = same ∙ r.same;
    after = λ c left. r.after c (among c left);
    during = λ c left. ⊎_elim (r.during c) (λ now. r.after c (during c now)) (time.joins (moment old) c r.time.later left);
    time = record {
      later = omega (arith, r.time.later, time.later);
      joins = λ t c le left. ⊎_elim (λ was. ⊎_elim inl (λ now. inl (counts_now old t c le (r.during c now))) (r.time.joins t c le was)) (λ now. inl (counts_now old t c le (r.after c (during c now)))) (time.joins t c (omega (arith, le, r.time.later)) left);
    };
  }

  -- what was read is kept
  pub read-kept : (settled_disk read_disk : D) (front : List ℕ) (gate : ℕ) (lines : List (List ℕ)) → content read_disk ≡ content settled_disk
      → IfSome (content settled_disk) (λ b. front ≡ take FRONT_BYTES b) → IfSome (content settled_disk) (λ b. Only b (images settled_disk))
      → AreAmong (images read_disk) (images settled_disk) → scan front ≡ Ended lines → gate ≡ records_size lines → IsKept content images read_disk gate lines
  read-kept settled_disk read_disk front gate lines same is only among ends gate_is = record {
    closed = λ bytes told.
        let front_is = held (content settled_disk) (λ b. front ≡ take FRONT_BYTES b) bytes (sym same ∙ told) is in
        let whole : scan bytes ≡ Ended lines = sym (front-scan FRONT_BYTES bytes (omega arith)) ∙ ap scan (sym front_is) ∙ ends in
        subst (λ g. IsClosedAt g bytes lines) (sym gate_is) (ended-closed bytes lines whole);
    durable = λ bytes told image left. held (content settled_disk) (λ b. Only b (images settled_disk)) bytes (sym same ∙ told) only image (among image left);
  }
