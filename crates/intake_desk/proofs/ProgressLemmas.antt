-- An intake, step by step.
use Rattle.std.proofs.Common.{◌≡◌, ℕ, suc, ◌+◌, ◌≤◌, ◌<◌, [], ◌∷◌, ◌++◌, length, take, drop, refl, sym, ◌∙◌, ap, subst, arith, append-nil, append_assoc, length-append, Option, Some, IfSome, is_some, Bool, true, false, Ok, Err}
use Rattle.std.proofs.lemmas.List.{length_push}
use Rattle.house_base.specs.Text.{Text}
use Rattle.house_io.specs.Sink.{AppendsWhereTold}
use Rattle.house_io.proofs.Told.{AppendsWhereTold-refl, AppendsWhereTold-trans}
use Rattle.house_model.specs.Text.{Lines, lines, without_return}
use Rattle.command_text.specs.Held.{HasNoFeed}
use Rattle.disk_io.specs.Disk.{LeavesOnly}
use Rattle.intake_log.specs.declared.limits.TheConstants.{MOST_LINE_BYTES}
use Rattle.intake_log.specs.Journal.{IsBeforeOrAfter}
use Rattle.intake_log.specs.Limits.{IsFull}
use Rattle.intake_log.specs.Log.{LeavesLines, Logged}
use Rattle.intake_log.proofs.StartLemmas.{if_some-map}
use Rattle.intake_desk.specs.Input.{HasCome, IsCut, IsFollowed, IsNext, uncut}
use Rattle.intake_desk.specs.Intake.{is_refused, told, told_line}
use Rattle.intake_desk.specs.Progress.{AreAdmitted, EndsBehind, GoesOnWith, HasTaken, Holds, KeepsLine, LeavesFronts, Stays}
use Rattle.intake_desk.specs.declared.waiting.Came.TheVariants as came
use Rattle.intake_desk.specs.declared.status.DeskStatus.{DeskStatus}
use Rattle.intake_desk.specs.declared.status.DeskStatus.TheVariants as status
use Rattle.intake_desk.proofs.InputLemmas.{cut-front, cut-moved, cut-none, end-cut, fault-cut, fed-cut, last-next, long-next, next-followed}
use Rattle.intake_desk.proofs.KeptLemmas.{admitted-more, admitted-none}
use Rattle.intake_desk.proofs.MomentLemmas.{fronts-more, fronts-none}
use Rattle.intake_desk.proofs.ToldLemmas.{told-push}

-- one line more is told
pub tells-more : (given now later : Option Text) (old done : Lines) (line : Text) (count : ℕ) → AppendsWhereTold given now (told (length old) (length done)) → count ≡ length (old ++ done)
    → AppendsWhereTold now later (told_line (count + 1)) → AppendsWhereTold given later (told (length old) (length (done ++ line ∷ [])))
tells-more given now later old done line count so_far is more =
    let size : length (done ++ line ∷ []) ≡ suc (length done) = omega (arith, length_push done line) in
    subst (AppendsWhereTold given later)
    (ap (λ n. told (length old) (length done) ++ told_line n) (omega (arith, is, length-append old done)) ∙ sym (ap (told (length old)) size ∙ told-push (length old) (length done)))
    (AppendsWhereTold-trans given now later _ _ so_far more)

module _ {D : Type 0} (content : D → Option Text) (images : D → Text → Type 0) (moment : D → ℕ) (since : D → ℕ → Text → Type 0) where
  -- an intake begins
  pub goes-first : ((disk : D) (image : Text) → since disk (moment disk) image → images disk image) → (before given : Option Text) (log : Logged D) → log.broken ≡ false → LeavesLines content images log.disk log.lines
      → GoesOnWith content images moment since before before given given log log [] []
  goes-first only_now before given log unbroken durable = record {
    admitted = admitted-none log.lines;
    cut = cut-none before;
    stays = record {
      tells = AppendsWhereTold-refl given;
      holds = record { lines_are = sym (append-nil log.lines); unbroken = unbroken; durable = subst (LeavesLines content images log.disk) (sym (append-nil log.lines)) durable };
    };
    moments = fronts-none content images moment since only_now before log.disk log.lines durable;
    told = refl;
  }

  module _ (before left given now : Option Text) (old mid : Logged D) (waiting : Text) (done : Lines)
      (p : GoesOnWith content images moment since before left given now old mid waiting done)
      (later : Option Text) (more : Text) (moved : uncut more later ≡ uncut waiting left) where
    cut : IsCut before later more done
    cut = cut-moved before left later waiting more done moved p.cut

    taken : (ended : DeskStatus) → EndsBehind content images before later given now old mid done ended → HasTaken content images moment since before later given now old mid ended
    taken ended ends = record { done = done; admitted = p.admitted; front = cut-front before later more done cut; ends = ends; moments = p.moments }

    -- the input fails, ends, or has a line that is too long
    pub ends-fault : HasNoFeed more → HasTaken content images moment since before later given now old mid status.ReadFault
    ends-fault none = taken status.ReadFault (p.stays, fault-cut before later more done none cut)

    pub ends-done : HasCome more later came.End → HasTaken content images moment since before later given now old mid status.Done
    ends-done ends = taken status.Done (p.stays, end-cut before later more done ends.0 ends.1 cut)

    pub ends-long : (number : ℕ) → number ≡ length done + 1 → HasCome more later came.Long → HasTaken content images moment since before later given now old mid (status.Long number)
    ends-long number is long = taken (status.Long number) (p.stays, is, long-next before later more done long.0 long.1 cut)

    -- a line is put
    module _ (new : Logged D) (next : Option Text) (end : ℕ) (is_last : Bool) (line : Text) (number : ℕ) (comes : IsNext more later end is_last) (line_is : line ≡ without_return (take end more))
        (number_is : number ≡ length done + 1)
        (puts : (bytes : Text) → content mid.disk ≡ Some bytes → LeavesOnly moment since mid.disk new.disk (IsBeforeOrAfter mid.lines line)) where
      followed : IsFollowed before done (λ l. l ≡ line)
      followed = subst (λ l. IsFollowed before done (λ k. k ≡ l)) (sym line_is) (next-followed before later more end is_last done comes cut)

      front : LeavesFronts content images moment since before old.disk new.disk old.lines
      front = fronts-more content images moment since before old.disk mid.disk new.disk old.lines done line p.moments
          (subst (λ l. (bytes : Text) → content mid.disk ≡ Some bytes → LeavesOnly moment since mid.disk new.disk (IsBeforeOrAfter l line)) p.stays.holds.lines_are puts) followed p.told

      kept-more : {T : Type 0} (x : T) → KeepsLine content images mid new now next line number (Ok x) → Stays content images given next old new (done ++ line ∷ [])
      kept-more x keeps = record {
        tells = tells-more given now next old.lines done line (length mid.lines) p.stays.tells (ap length p.stays.holds.lines_are) keeps.2;
        holds = subst (Holds content images new) (ap (λ l. l ++ line ∷ []) p.stays.holds.lines_are ∙ append_assoc old.lines done (line ∷ [])) keeps.1;
      }

      admitted : is_refused mid.lines line ≡ false → AreAdmitted old.lines (done ++ line ∷ [])
      admitted is = admitted-more old.lines done line p.admitted (ap (λ l. is_refused l line) (sym p.stays.holds.lines_are) ∙ is)

      -- it is kept, and more may come
      pub goes-on : {T : Type 0} (x : T) → is_last ≡ false → is_some (content new.disk) ≡ is_some (content mid.disk) → KeepsLine content images mid new now next line number (Ok x)
          → GoesOnWith content images moment since before later given next old new (drop (end + 1) more) (done ++ line ∷ [])
      goes-on x e told keeps = record {
        admitted = admitted keeps.0;
        cut = subst (λ l. IsCut before later (drop (end + 1) more) (done ++ l ∷ [])) (sym line_is)
            (fed-cut more end (subst (IsNext more later end) e comes) before later done cut);
        stays = kept-more x keeps;
        moments = front;
        told = told ∙ p.told;
      }

      -- it is the last
      last-line : is_last ≡ true → IfSome before (λ text. lines text ≡ done ++ line ∷ [])
      last-line e =
          let last = subst (IsNext more later end) e comes in
          subst (λ l. IfSome before (λ text. lines text ≡ done ++ l ∷ [])) (sym line_is) (last-next before later more end done last.0 last.1 last.2 last.3 cut)

      pub ends-last : {T : Type 0} (x : T) → is_last ≡ true → KeepsLine content images mid new now next line number (Ok x) → HasTaken content images moment since before later given next old new status.Done
      ends-last x e keeps = record {
        done = done ++ line ∷ [];
        admitted = admitted keeps.0;
        front = if_some-map before _ _ (last-line e) (λ text is. ([], is ∙ sym (append-nil (done ++ line ∷ []))));
        ends = (kept-more x keeps, last-line e);
        moments = front;
      }

      -- it is not kept, or not told
      stays-same : new ≡ mid → next ≡ now → Stays content images given next old new done
      stays-same same silent = subst (λ log. Stays content images given next old log done) (sym same) (subst (λ g. Stays content images given g old mid done) (sym silent) p.stays)

      fails : (T : Type 0) (ended : DeskStatus) → KeepsLine content images {T = T} mid new now next line number (Err ended) → EndsBehind content images before later given next old new done ended
      fails T status.WriteFault keeps = (
        line,
        ap (λ l. is_refused l line) (sym p.stays.holds.lines_are) ∙ keeps.0,
        followed,
        subst (Holds content images new) (ap (λ l. l ++ line ∷ []) p.stays.holds.lines_are ∙ append_assoc old.lines done (line ∷ [])) keeps.1,
        keeps.2.0,
        subst (λ n. AppendsWhereTold given next (told (length old.lines) (length done) ++ take keeps.2.0 (told_line n)))
            (omega (arith, ap length p.stays.holds.lines_are, length-append old.lines done))
            (AppendsWhereTold-trans given now next _ _ p.stays.tells keeps.2.1),
      )
      fails T status.DiskFault keeps = (
        line,
        followed,
        subst (λ g. AppendsWhereTold given g (told (length old.lines) (length done))) (sym keeps.0) p.stays.tells,
        λ told image left. subst (λ l. IsBeforeOrAfter l line image) p.stays.holds.lines_are (keeps.1 told image left),
      )
      fails T (status.Long at) keeps = (
        stays-same keeps.2 keeps.3,
        keeps.0 ∙ number_is,
        if_some-map before _ _ followed (λ text next. (next.0, next.1, next.2, subst (λ l. MOST_LINE_BYTES < length l) (sym next.3) keeps.1)),
      )
      fails T status.Full keeps = (
        stays-same keeps.2 keeps.3,
        if_some-map before _ _ followed
            (λ text next. (
              next.0,
              next.1,
              next.2,
              (
                subst (λ l. length l ≤ MOST_LINE_BYTES) (sym next.3) keeps.0,
                subst (λ l. IsFull (old.lines ++ done) l) (sym next.3) (subst (λ l. IsFull l line) p.stays.holds.lines_are keeps.1),
              ),
            )),
      )
      fails T status.Memory keeps = stays-same keeps.0 keeps.1
      fails T status.Done keeps = absurd keeps
      fails T status.Usage keeps = absurd keeps
      fails T status.ReadFault keeps = absurd keeps
      fails T (status.BadJournal place) keeps = absurd keeps

      pub ends-kept : (T : Type 0) (ended : DeskStatus) → KeepsLine content images {T = T} mid new now next line number (Err ended) → HasTaken content images moment since before later given next old new ended
      ends-kept T ended keeps = record { done = done; admitted = p.admitted; front = cut-front before later more done cut; ends = fails T ended keeps; moments = front }
