-- What a crash may leave at each moment of some calls.
use Rattle.std.proofs.Common.{◌≡◌, inl, inr, ⊎_elim, ℕ, [], ◌∷◌, ◌++◌, length, take, refl, sym, ◌∙◌, ap, subst, arith, append-nil, append_assoc, Option, Some, None, IsTrue, is_some, true, false}
use Rattle.std.proofs.Math.Seq.{take-append_seam}
use Rattle.house_base.specs.Text.{Text}
use Rattle.house_model.specs.Text.{Lines, lines}
use Rattle.disk_io.specs.Disk.{LeavesOnly}
use Rattle.intake_log.specs.Journal.{IsBeforeOrAfter, StandsFor}
use Rattle.intake_log.specs.Log.{LeavesLines}
use Rattle.intake_log.proofs.JournalLemmas.{held, started}
use Rattle.intake_desk.specs.Input.{IsFollowed}
use Rattle.intake_desk.specs.Progress.{IsFront, LeavesFronts}

module _ {D : Type 0} (moment : D → ℕ) (since : D → ℕ → Text → Type 0) where
  pub wider : (old new : D) (P Q : Text → Type 0) → LeavesOnly moment since old new P → ((image : Text) → P image → Q image) → LeavesOnly moment since old new Q
  wider old new P Q leaves more = record {
    later = leaves.later;
    each = λ image left. more image (leaves.each image left);
    before = λ t image le left. ⊎_elim (λ past. inl past) (λ now. inr (more image now)) (leaves.before t image le left);
  }

  -- one run of calls and then another
  pub joined : (old mid new : D) (P : Text → Type 0) → LeavesOnly moment since old mid P → LeavesOnly moment since mid new P → LeavesOnly moment since old new P
  joined old mid new P first second = record {
    later = omega (arith, first.later, second.later);
    each = λ image left. ⊎_elim (first.each image) (λ now. now) (second.before (moment old) image first.later left);
    before = λ t image le left. ⊎_elim (first.before t image le) (λ now. inr now) (second.before t image (omega (arith, le, first.later)) left);
  }

-- what is told before is told afterwards
pub told-value : (before after : Option Text) (bytes : Text) → is_some after ≡ is_some before → before ≡ Some bytes → (now : Text) × (after ≡ Some now)
told-value before None bytes told is = let e : false ≡ true = told ∙ ap is_some is in absurd (cc)
told-value before (Some now) bytes told is = (now, refl)

-- a disk that tells is one of which something is told
pub is-told : (file : Option Text) (bytes : Text) → file ≡ Some bytes → IsTrue (is_some file)
is-told file bytes is = ap is_some is

-- an image with a line more, or without it, is one with the first of the new lines
pub either-front : (old done input more : Lines) (line image : Text) → input ≡ done ++ line ∷ more → IsBeforeOrAfter (old ++ done) line image → IsFront old input image
either-front old done input more line image is (inl stands) =
    (length done, subst (λ l. StandsFor image (old ++ l)) (sym (ap (take (length done)) is ∙ take-append_seam done (line ∷ more))) stands)
either-front old done input more line image is (inr stands) =
    let longer : input ≡ (done ++ line ∷ []) ++ more = is ∙ sym (append_assoc done (line ∷ []) more) in (
      length (done ++ line ∷ []),
      subst (λ l. StandsFor image (old ++ l)) (sym (ap (take (length (done ++ line ∷ []))) longer ∙ take-append_seam (done ++ line ∷ []) more))
          (subst (StandsFor image) (append_assoc old done (line ∷ [])) stands),
    )

module _ {D : Type 0} (content : D → Option Text) (images : D → Text → Type 0) (moment : D → ℕ) (since : D → ℕ → Text → Type 0) where
  -- nothing was called yet
  pub fronts-none : ((disk : D) (image : Text) → since disk (moment disk) image → images disk image) → (before : Option Text) (disk : D) (old : Lines) → LeavesLines content images disk old
      → LeavesFronts content images moment since before disk disk old
  fronts-none only_now before disk old durable text bytes told reads =
      started moment since disk _
      (λ image left. (0, subst (StandsFor image) (sym (append-nil old)) (durable (is-told (content disk) bytes reads) image (only_now disk image left))))

  -- a line more is put, or not
  pub fronts-more : (before : Option Text) (first mid new : D) (old done : Lines) (line : Text) → LeavesFronts content images moment since before first mid old
      → ((bytes : Text) → content mid ≡ Some bytes → LeavesOnly moment since mid new (IsBeforeOrAfter (old ++ done) line))
      → IsFollowed before done (λ next. next ≡ line) → is_some (content mid) ≡ is_some (content first)
      → LeavesFronts content images moment since before first new old
  fronts-more before first mid new old done line so_far puts followed same text bytes told reads =
      let now = told-value (content first) (content mid) bytes same reads in
      let next = held before _ text told followed in
      let input : lines text ≡ done ++ line ∷ next.1 = next.2 ∙ ap (λ l. done ++ l ∷ next.1) next.3 in
      joined moment since first mid new (IsFront old (lines text)) (so_far text bytes told reads)
      (wider moment since mid new (IsBeforeOrAfter (old ++ done) line) (IsFront old (lines text)) (puts now.0 now.1)
      (λ image. either-front old done (lines text) next.1 line image input))
