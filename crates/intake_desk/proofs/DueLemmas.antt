-- What an intake that has ended has kept, told and left.
use Rattle.std.proofs.Common.{◌≡◌, inl, inr, ⊎_elim, ℕ, suc, ◌+◌, ◌-◌, ◌≤◌, ◌<◌, [], ◌∷◌, ◌++◌, length, take, drop, refl, sym, ◌∙◌, ap, subst, arith, append_assoc, length-append, Option, Some, None, IfSome, IsTrue, is_some}
use Rattle.std.specs.Option.{option_map}
use Rattle.std.proofs.Math.Seq.{take-append_seam}
use Rattle.std.proofs.lemmas.List.{length_push, take-append-drop}
use Rattle.house_base.specs.Text.{Text}
use Rattle.house_io.specs.Sink.{AppendsWhereTold}
use Rattle.house_model.specs.Text.{Lines, lines}
use Rattle.disk_io.specs.Laws.{below_or}
use Rattle.disk_io.specs.Disk.{LeavesOnly}
use Rattle.intake_log.specs.Journal.{StandsFor}
use Rattle.intake_log.specs.Log.{LeavesLines, Logged}
use Rattle.intake_log.proofs.JournalLemmas.{mapped}
use Rattle.intake_desk.specs.Due.{Gives, GivesWhole, HasAtLeast, IsDue, IsWhole}
use Rattle.intake_desk.specs.Intake.{intake_end, kept_behind, told, told_line}
use Rattle.intake_desk.specs.Progress.{AreAdmitted, EndsBehind, GivesFront, HasTaken, IsFront, Stays}
use Rattle.intake_desk.specs.declared.status.DeskStatus.{DeskStatus}
use Rattle.intake_desk.specs.declared.status.DeskStatus.TheVariants as status
use Rattle.intake_desk.proofs.KeptLemmas.{admitted-more, all-kept, end-done, end-full, end-long, kept-before, kept-longer, refused-full, refused-long}
use Rattle.intake_desk.proofs.ToldLemmas.{told-front, told-longer, told-push}

-- what was given is the front of more
gives-front : (given now : Option Text) (part rest whole : Text) → whole ≡ part ++ rest → AppendsWhereTold given now part → GivesFront given now whole
gives-front given now part rest whole is gives =
    (length part, subst (AppendsWhereTold given now) (sym (ap (take (length part)) is ∙ take-append_seam part rest)) gives)

-- fewer lines are told in fewer bytes
pub told-fewer : (old n k : ℕ) → length (told old n) ≤ length (told old k) → n ≤ k
told-fewer old n k le =
    ⊎_elim (λ few. few)
    (λ more.
    let count : n ≡ suc (n - k - 1) + k = omega (arith, more) in
    let longer : length (told old k) < length (told old n) = subst (λ m. length (told old k) < length (told old m)) (sym count) (told-longer old k (n - k - 1)) in
    absurd (omega (arith, le, longer)))
    (below_or n k)

-- a text that was given whole is no longer than all that was given
pub whole-within : (given now : Option Text) (text part : Text) → GivesWhole given now text → AppendsWhereTold given now part → length text ≤ length part
whole-within None now text part whole gives = let e : None ≡ Some whole.past = whole.before in absurd (cc)
whole-within (Some past) None text part whole gives = let e : None ≡ Some (whole.past ++ (text ++ whole.more)) = whole.after in absurd (cc)
whole-within (Some past) (Some now) text part whole gives =
    let same : past ≡ whole.past = let e = whole.before in cc in
    let after : now ≡ whole.past ++ (text ++ whole.more) = let e = whole.after in cc in
    let size : length (past ++ part) ≡ length (past ++ (text ++ whole.more)) = ap length (sym gives ∙ after ∙ ap (λ l. l ++ (text ++ whole.more)) (sym same)) in
    omega (arith, size, length-append past part, length-append past (text ++ whole.more), length-append text whole.more)

module _ {D : Type 0} (content : D → Option Text) (images : D → Text → Type 0) (text : Text) (left given now : Option Text) (old new : Logged D) (done : Lines) (admitted : AreAdmitted old.lines done) where
  due-ends : (ended : DeskStatus) → EndsBehind content images (Some text) left given now old new done ended → IsDue (intake_end old.lines (lines text)) ended
  due-ends status.Done ends = sym (end-done old.lines done (lines text) admitted ends.1)
  due-ends (status.Long number) ends = ap status.Long ends.1 ∙ sym (end-long old.lines done (lines text) admitted ends.2.0 ends.2.1 ends.2.2 ends.2.3)
  due-ends status.Full ends = sym (end-full old.lines done (lines text) admitted ends.1.0 ends.1.1 ends.1.2 ends.1.3.0 ends.1.3.1)
  due-ends status.ReadFault ends = tt
  due-ends status.WriteFault ends = tt
  due-ends status.DiskFault ends = tt
  due-ends status.Memory ends = tt
  due-ends status.Usage ends = absurd ends
  due-ends (status.BadJournal place) ends = absurd ends

  -- of a whole intake the lines kept are those that were put
  kept-ends : (ended : DeskStatus) → IsWhole ended → EndsBehind content images (Some text) left given now old new done ended → kept_behind old.lines (lines text) ≡ done
  kept-ends status.Done whole ends = all-kept old.lines done (lines text) admitted ends.1
  kept-ends (status.Long number) whole ends = kept-before old.lines done (lines text) admitted ends.2.0 ends.2.1 ends.2.2 (refused-long (old.lines ++ done) ends.2.0 ends.2.3)
  kept-ends status.Full whole ends = kept-before old.lines done (lines text) admitted ends.1.0 ends.1.1 ends.1.2 (refused-full (old.lines ++ done) ends.1.0 ends.1.3.1)
  kept-ends status.ReadFault whole ends = absurd (⊎_elim (λ e. cc) (λ more. ⊎_elim (λ e. let is = e.1 in cc) (λ e. cc) more) whole)
  kept-ends status.WriteFault whole ends = absurd (⊎_elim (λ e. cc) (λ more. ⊎_elim (λ e. let is = e.1 in cc) (λ e. cc) more) whole)
  kept-ends status.DiskFault whole ends = absurd (⊎_elim (λ e. cc) (λ more. ⊎_elim (λ e. let is = e.1 in cc) (λ e. cc) more) whole)
  kept-ends status.Memory whole ends = absurd (⊎_elim (λ e. cc) (λ more. ⊎_elim (λ e. let is = e.1 in cc) (λ e. cc) more) whole)
  kept-ends status.Usage whole ends = absurd ends
  kept-ends (status.BadJournal place) whole ends = absurd ends

  stays-ends : (ended : DeskStatus) → IsWhole ended → EndsBehind content images (Some text) left given now old new done ended → Stays content images given now old new done
  stays-ends status.Done whole ends = ends.0
  stays-ends (status.Long number) whole ends = ends.0
  stays-ends status.Full whole ends = ends.0
  stays-ends status.ReadFault whole ends = ends.0
  stays-ends status.WriteFault whole ends = absurd (⊎_elim (λ e. cc) (λ more. ⊎_elim (λ e. let is = e.1 in cc) (λ e. cc) more) whole)
  stays-ends status.DiskFault whole ends = absurd (⊎_elim (λ e. cc) (λ more. ⊎_elim (λ e. let is = e.1 in cc) (λ e. cc) more) whole)
  stays-ends status.Memory whole ends = ends
  stays-ends status.Usage whole ends = absurd ends
  stays-ends (status.BadJournal place) whole ends = absurd ends

  lines-ends : (ended : DeskStatus) → EndsBehind content images (Some text) left given now old new done ended → IsWhole ended → LeavesLines content images new.disk (old.lines ++ kept_behind old.lines (lines text))
  lines-ends ended ends whole =
      subst (λ l. LeavesLines content images new.disk (old.lines ++ l)) (sym (kept-ends ended whole ends)) (stays-ends ended whole ends).holds.durable

  module _ (more : Lines) (front : (lines text) ≡ done ++ more) where
    -- the lines told are the first of those that are due
    told-part : (rest : Text) × (told (length old.lines) (length (kept_behind old.lines (lines text))) ≡ told (length old.lines) (length done) ++ rest)
    told-part =
        let longer = kept-longer old.lines done (lines text) admitted more front in
        let shorter = told-front (length old.lines) (length done) longer.0 in
        (shorter.0, ap (told (length old.lines)) longer.1 ∙ shorter.1)

    gives-part : AppendsWhereTold given now (told (length old.lines) (length done)) → GivesFront given now (told (length old.lines) (length (kept_behind old.lines (lines text))))
    gives-part tells = gives-front given now _ told-part.0 _ told-part.1 tells

    gives-all : (ended : DeskStatus) → IsWhole ended → EndsBehind content images (Some text) left given now old new done ended → AppendsWhereTold given now (told (length old.lines) (length (kept_behind old.lines (lines text))))
    gives-all ended whole ends =
        subst (λ l. AppendsWhereTold given now (told (length old.lines) (length l))) (sym (kept-ends ended whole ends)) (stays-ends ended whole ends).tells

    stays-within : (count : ℕ) → Stays content images given now old new done → GivesWhole given now (told (length old.lines) count)
        → IsTrue (is_some (content new.disk)) → (image : Text) → images new.disk image → HasAtLeast count old.lines (lines text) image
    stays-within count stays whole told image left = (
      length done,
      told-fewer (length old.lines) count (length done) (whole-within given now _ _ whole stays.tells),
      omega (arith, ap length front, length-append done more),
      subst (λ l. StandsFor image (old.lines ++ l)) (sym (ap (take (length done)) front ∙ take-append_seam done more)) (stays.holds.durable told image left),
    )

-- with one line more
written-part : (old : ℕ) (done : Lines) (line : Text) (count : ℕ) → (rest : Text) × (told old (length (done ++ line ∷ [])) ≡ (told old (length done) ++ take count (told_line (old + length done + 1))) ++ rest)
written-part old done line count =
    let last = told_line (old + length done + 1) in
    let size : length (done ++ line ∷ []) ≡ suc (length done) = omega (arith, length_push done line) in (
      drop count last,
      ap (told old) size ∙ told-push old (length done) ∙ ap (λ l. told old (length done) ++ l) (sym (take-append-drop count last)) ∙ sym (append_assoc (told old (length done)) (take count last) (drop count last)),
    )

module _ {D : Type 0} (content : D → Option Text) (images : D → Text → Type 0) (text : Text) (left given now : Option Text) (old new : Logged D) (done : Lines) (admitted : AreAdmitted old.lines done)
    (more : Lines) (front : lines text ≡ done ++ more) where
  gives-written : EndsBehind content images (Some text) left given now old new done status.WriteFault → GivesFront given now (told (length old.lines) (length (kept_behind old.lines (lines text))))
  gives-written ends =
      let line = ends.0 in
      let next = ends.2 in
      let longer : lines text ≡ (done ++ line ∷ []) ++ next.1 = next.2 ∙ ap (λ l. done ++ l ∷ next.1) next.3 ∙ sym (append_assoc done (line ∷ []) next.1) in
      let part = told-part content images text left given now old new (done ++ line ∷ []) (admitted-more old.lines done line admitted ends.1) next.1 longer in
      let written = written-part (length old.lines) done line ends.4 in
      gives-front given now _ (written.0 ++ part.0) _ (part.1 ∙ ap (λ l. l ++ part.0) written.1 ∙ append_assoc _ written.0 part.0) ends.5

  gives-ends : (ended : DeskStatus) → EndsBehind content images (Some text) left given now old new done ended → Gives ended given now (told (length old.lines) (length (kept_behind old.lines (lines text))))
  gives-ends status.Done ends = gives-all content images text left given now old new done admitted more front status.Done (inl refl) ends
  gives-ends (status.Long number) ends = gives-all content images text left given now old new done admitted more front (status.Long number) (inr (inl (number, refl))) ends
  gives-ends status.Full ends = gives-all content images text left given now old new done admitted more front status.Full (inr (inr refl)) ends
  gives-ends status.ReadFault ends = gives-part content images text left given now old new done admitted more front ends.0.tells
  gives-ends status.WriteFault ends = gives-written ends
  gives-ends status.DiskFault ends = gives-part content images text left given now old new done admitted more front ends.2
  gives-ends status.Memory ends = gives-part content images text left given now old new done admitted more front ends.tells
  gives-ends status.Usage ends = absurd ends
  gives-ends (status.BadJournal place) ends = absurd ends

  stays-least : (count : ℕ) → Stays content images given now old new done → GivesWhole given now (told (length old.lines) count)
      → IsTrue (is_some (content new.disk)) → (image : Text) → images new.disk image → HasAtLeast count old.lines (lines text) image
  stays-least = stays-within content images text left given now old new done admitted more front

  least-ends : (ended : DeskStatus) → EndsBehind content images (Some text) left given now old new done ended → (count : ℕ) → GivesWhole given now (told (length old.lines) count)
      → IsTrue (is_some (content new.disk)) → (image : Text) → images new.disk image → HasAtLeast count old.lines (lines text) image
  least-ends status.Done ends count whole told_now image here = stays-least count ends.0 whole told_now image here
  least-ends (status.Long number) ends count whole told_now image here = stays-least count ends.0 whole told_now image here
  least-ends status.Full ends count whole told_now image here = stays-least count ends.0 whole told_now image here
  least-ends status.ReadFault ends count whole told_now image here = stays-least count ends.0 whole told_now image here
  least-ends status.Memory ends count whole told_now image here = stays-least count ends whole told_now image here
  least-ends status.WriteFault ends count whole told_now image here =
      let line = ends.0 in
      let next = ends.2 in
      let longer : lines text ≡ (done ++ line ∷ []) ++ next.1 = next.2 ∙ ap (λ l. done ++ l ∷ next.1) next.3 ∙ sym (append_assoc done (line ∷ []) next.1) in
      let written = written-part (length old.lines) done line ends.4 in
      let within = whole-within given now _ _ whole ends.5 in
      let size = ap length written.1 ∙ length-append _ written.0 in (
        length (done ++ line ∷ []),
        told-fewer (length old.lines) count (length (done ++ line ∷ [])) (omega (arith, within, size)),
        omega (arith, ap length longer, length-append (done ++ line ∷ []) next.1),
        subst (λ l. StandsFor image (old.lines ++ l)) (sym (ap (take (length (done ++ line ∷ []))) longer ∙ take-append_seam (done ++ line ∷ []) next.1)) (ends.3.durable told_now image here),
      )
  least-ends status.DiskFault ends count whole told_now image here =
      let line = ends.0 in
      let next = ends.1 in
      let longer : lines text ≡ (done ++ line ∷ []) ++ next.1 = next.2 ∙ ap (λ l. done ++ l ∷ next.1) next.3 ∙ sym (append_assoc done (line ∷ []) next.1) in
      let few = told-fewer (length old.lines) count (length done) (whole-within given now _ _ whole ends.2) in
      ⊎_elim
      (λ stands. (
        length done,
        few,
        omega (arith, ap length front, length-append done more),
        subst (λ l. StandsFor image (old.lines ++ l)) (sym (ap (take (length done)) front ∙ take-append_seam done more)) stands,
      ))
      (λ stands. (
        length (done ++ line ∷ []),
        omega (arith, few, length_push done line),
        omega (arith, ap length longer, length-append (done ++ line ∷ []) next.1),
        subst (λ l. StandsFor image (old.lines ++ l)) (sym (ap (take (length (done ++ line ∷ []))) longer ∙ take-append_seam (done ++ line ∷ []) next.1))
            (subst (StandsFor image) (append_assoc old.lines done (line ∷ [])) stands),
      ))
      (ends.3 told_now image here)
  least-ends status.Usage ends count whole told_now image here = absurd ends
  least-ends (status.BadJournal place) ends count whole told_now image here = absurd ends

module _ {D : Type 0} (content : D → Option Text) (images : D → Text → Type 0) (moment : D → ℕ) (since : D → ℕ → Text → Type 0) (left given now : Option Text) (old new : Logged D) (ended : DeskStatus) where
  pub due-taken : (before : Option Text) → HasTaken content images moment since before left given now old new ended → IfSome (option_map lines before) (λ input. IsDue (intake_end old.lines input) ended)
  due-taken None h = tt
  due-taken (Some text) h = due-ends content images text left given now old new h.done h.admitted ended h.ends

  pub gives-taken : (before : Option Text) → HasTaken content images moment since before left given now old new ended
      → IfSome (option_map lines before) (λ input. Gives ended given now (told (length old.lines) (length (kept_behind old.lines input))))
  gives-taken None h = tt
  gives-taken (Some text) h = gives-ends content images text left given now old new h.done h.admitted h.front.0 h.front.1 ended h.ends

  pub lines-taken : (before : Option Text) → HasTaken content images moment since before left given now old new ended
      → IfSome (option_map lines before) (λ input. IsWhole ended → LeavesLines content images new.disk (old.lines ++ kept_behind old.lines input))
  lines-taken None h = tt
  lines-taken (Some text) h = lines-ends content images text left given now old new h.done h.admitted ended h.ends

  pub least-taken : (before : Option Text) → HasTaken content images moment since before left given now old new ended
      → IfSome (option_map lines before) (λ input. (count : ℕ) → GivesWhole given now (told (length old.lines) count)
      → IsTrue (is_some (content new.disk)) → (image : Text) → images new.disk image → HasAtLeast count old.lines input image)
  least-taken None h = tt
  least-taken (Some text) h = least-ends content images text left given now old new h.done h.admitted h.front.0 h.front.1 ended h.ends

  pub moments-taken : (before : Option Text) → HasTaken content images moment since before left given now old new ended
      → (input : Lines) (bytes : Text) → option_map lines before ≡ Some input → content old.disk ≡ Some bytes → LeavesOnly moment since old.disk new.disk (IsFront old.lines input)
  moments-taken before h input bytes is reads =
      let text = mapped lines before input is in
      subst (λ l. LeavesOnly moment since old.disk new.disk (IsFront old.lines l)) (sym text.2) (h.moments text.0 bytes text.1 reads)
