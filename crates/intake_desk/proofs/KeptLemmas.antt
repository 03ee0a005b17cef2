-- Which lines are kept.
use Rattle.std.proofs.Common.{◌≡◌, ℕ, ◌+◌, ◌≤◌, ◌<◌, ◌||◌, Bool, true, false, cond, nat_lt, [], ◌∷◌, ◌++◌, length, drop, refl, sym, ◌∙◌, ap, arith, append-nil, append_assoc, length-append, Decides, ⊎_elim, inl}
use Rattle.house_model.specs.declared.limits.TheConstants.{MOST_LINES}
use Rattle.disk_io.specs.Laws.{below_or}
use Rattle.std.proofs.lemmas.Bool.Decides.{nat_tests}
use Rattle.house_base.specs.Text.{Text}
use Rattle.house_model.specs.Text.{Lines}
use Rattle.intake_log.specs.declared.limits.TheConstants.{MOST_LINE_BYTES}
use Rattle.intake_log.specs.Limits.{IsFull}
use Rattle.intake_log.proofs.ScanLemmas.{is_full-Decides}
use Rattle.intake_desk.specs.declared.status.DeskStatus.TheVariants as status
use Rattle.intake_desk.specs.Intake.{end_at, intake_end, is_refused, kept_behind}
use Rattle.intake_desk.specs.Progress.{AreAdmitted}

no-bool : (b : Bool) → (b ≡ true → ⊥) → b ≡ false
no-bool true h = absurd (h refl)
no-bool false h = refl

or-false : (a b : Bool) → a ≡ false → b ≡ false → (a || b) ≡ false
or-false true b x y = absurd (cc)
or-false false b x y = y

or-first : (a b : Bool) → a ≡ true → (a || b) ≡ true
or-first true b x = refl
or-first false b x = absurd (cc)

or-second : (a b : Bool) → b ≡ true → (a || b) ≡ true
or-second true b x = refl
or-second false b x = x

pub not-above : (n : ℕ) → (MOST_LINE_BYTES < n → ⊥) → n ≤ MOST_LINE_BYTES
not-above n h = ⊎_elim (λ le. le) (λ above. absurd (h above)) (below_or n MOST_LINE_BYTES)

long-test : (line : Text) → Decides (nat_lt MOST_LINE_BYTES (length line)) (MOST_LINE_BYTES < length line)
long-test line = grind (arith, nat_tests)

pub is-kept : (held : Lines) (line : Text) → (MOST_LINE_BYTES < length line → ⊥) → (IsFull held line → ⊥) → is_refused held line ≡ false
is-kept held line short room =
    or-false _ _ (no-bool _ (λ is. short ((long-test line).0 is))) (no-bool _ (λ is. room ((is_full-Decides held line).0 is)))

pub refused-long : (held : Lines) (line : Text) → MOST_LINE_BYTES < length line → is_refused held line ≡ true
refused-long held line long = or-first _ _ ((long-test line).1 long)

pub refused-full : (held : Lines) (line : Text) → IsFull held line → is_refused held line ≡ true
refused-full held line full = or-second _ _ ((is_full-Decides held line).1 full)

kept-first : (held : Lines) (line : Text) (more : Lines) → is_refused held line ≡ false → kept_behind held (line ∷ more) ≡ line ∷ kept_behind (held ++ line ∷ []) more
unfolding kept_behind
kept-first held line more is = ap (λ b. cond b [] (line ∷ kept_behind (held ++ line ∷ []) more)) is

kept-refused : (held : Lines) (line : Text) (more : Lines) → is_refused held line ≡ true → kept_behind held (line ∷ more) ≡ []
unfolding kept_behind
kept-refused held line more is = ap (λ b. cond b [] (line ∷ kept_behind (held ++ line ∷ []) more)) is

pub kept-none : (held : Lines) → kept_behind held [] ≡ []
unfolding kept_behind
kept-none held = refl

-- nothing was put yet
pub admitted-none : (old : Lines) → AreAdmitted old []
admitted-none old more = ap (λ held. kept_behind held more) (sym (append-nil old))

-- one line more
pub admitted-more : (old done : Lines) (line : Text) → AreAdmitted old done → is_refused (old ++ done) line ≡ false → AreAdmitted old (done ++ line ∷ [])
admitted-more old done line so_far is more =
    ap (kept_behind old) (append_assoc done (line ∷ []) more)
    ∙ so_far (line ∷ more)
    ∙ ap (λ l. done ++ l) (kept-first (old ++ done) line more is ∙ ap (λ held. line ∷ kept_behind held more) (append_assoc old done (line ∷ [])))
    ∙ sym (append_assoc done (line ∷ []) _)

drop-front : (done more : Lines) → drop (length done) (done ++ more) ≡ more
drop-front [] more = refl
drop-front (line ∷ done) more = drop-front done more

module _ (old done input : Lines) (admitted : AreAdmitted old done) where
  -- all were kept
  pub all-kept : input ≡ done → kept_behind old input ≡ done
  all-kept is = ap (kept_behind old) (is ∙ sym (append-nil done)) ∙ admitted [] ∙ ap (λ l. done ++ l) (kept-none (old ++ done)) ∙ append-nil done

  pub end-done : input ≡ done → intake_end old input ≡ status.Done
  end-done is =
      ap (λ kept. end_at (length kept + 1) (drop (length kept) input)) (all-kept is)
      ∙ ap (λ l. end_at (length done + 1) (drop (length done) l)) (is ∙ sym (append-nil done)) ∙ ap (end_at (length done + 1)) (drop-front done [])

  -- those before a refused line were kept
  pub kept-before : (line : Text) (more : Lines) → input ≡ done ++ line ∷ more → is_refused (old ++ done) line ≡ true → kept_behind old input ≡ done
  kept-before line more is refused =
      ap (kept_behind old) is ∙ admitted (line ∷ more) ∙ ap (λ l. done ++ l) (kept-refused (old ++ done) line more refused) ∙ append-nil done

  end-before : (line : Text) (more : Lines) → input ≡ done ++ line ∷ more → is_refused (old ++ done) line ≡ true → intake_end old input ≡ end_at (length done + 1) (line ∷ more)
  end-before line more is refused =
      ap (λ kept. end_at (length kept + 1) (drop (length kept) input)) (kept-before line more is refused)
      ∙ ap (λ l. end_at (length done + 1) (drop (length done) l)) is ∙ ap (end_at (length done + 1)) (drop-front done (line ∷ more))

  pub end-long : (line : Text) (more : Lines) → input ≡ done ++ line ∷ more → MOST_LINE_BYTES < length line → intake_end old input ≡ status.Long (length done + 1)
  end-long line more is long =
      end-before line more is (refused-long (old ++ done) line long)
      ∙ ap (λ b. cond b (status.Long (length done + 1)) status.Full) ((long-test line).1 long)

  pub end-full : (line : Text) (more : Lines) → input ≡ done ++ line ∷ more → length line ≤ MOST_LINE_BYTES → IsFull (old ++ done) line → intake_end old input ≡ status.Full
  end-full line more is short full =
      end-before line more is (refused-full (old ++ done) line full)
      ∙ ap (λ b. cond b (status.Long (length done + 1)) status.Full) (no-bool _ (λ is. let long : MOST_LINE_BYTES < length line = (long-test line).0 is in omega (arith, short, long)))

  -- at least those that were put are kept
  pub kept-longer : (more : Lines) → input ≡ done ++ more → (rest : ℕ) × (length (kept_behind old input) ≡ rest + length done)
  kept-longer more is =
      (length (kept_behind (old ++ done) more), omega (arith, ap (λ l. length (kept_behind old l)) is, ap length (admitted more), length-append done (kept_behind (old ++ done) more)))

-- where a line is put there is room
pub kept-room : (held : Lines) (line : Text) → is_refused held line ≡ false → length held < MOST_LINES
kept-room held line is = ⊎_elim (λ full. let refused : true ≡ false = sym (refused-full held line (inl full)) ∙ is in absurd (cc)) (λ few. few) (below_or MOST_LINES (length held))
