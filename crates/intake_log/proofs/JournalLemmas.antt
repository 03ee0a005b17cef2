-- What a put may leave, step by step.
use Rattle.std.proofs.Common.{◌≡◌, ◌≢◌, inl, inr, ⊎_elim, ℕ, zero, suc, ◌+◌, ◌≤◌, List, [], ◌∷◌, ◌++◌, length, get_or, take, drop, refl, sym, ◌∙◌, ap, subst, arith, Option, Some, None, IfSome, option_map, append_assoc, length-append, take-append-drop}
use Rattle.std.proofs.lemmas.List.{take_at, drop_at, drop_more, append-nil}
use Rattle.std.specs.Int.{to_be_bytes, w32}
use Rattle.disk_io.specs.Disk.{Torn, GoesOn, LeavesOnly, Follows, Only, written}
use Rattle.intake_log.specs.Journal.{IsJournalLine, AreRecords, IsClosedAt, StandsFor, IsBeforeOrAfter, entry}

-- one record more
pub are-more : (r : List ℕ) (lines : List (List ℕ)) (x : ℕ) (line : List ℕ) → AreRecords r lines → x ≢ 0 → IsJournalLine line
    → AreRecords (r ++ x ∷ (to_be_bytes w32 (length line) ++ line)) (lines ++ line ∷ [])
are-more r [] x line none gate short =
    let bytes = to_be_bytes w32 (length line) in (
      x,
      [],
      gate,
      short,
      ap (λ (l : List ℕ). l ++ x ∷ (bytes ++ line)) none ∙ ap (λ (l : List ℕ). x ∷ (bytes ++ l)) (sym (append-nil line)),
      refl,
    )
are-more r (l ∷ ls) x line hold gate short =
    let rest = hold.1 in
    let more = x ∷ (to_be_bytes w32 (length line) ++ line) in
    let head = to_be_bytes w32 (length l) in (
      hold.0,
      rest ++ more,
      hold.2,
      hold.3,
      ap (λ (k : List ℕ). k ++ more) hold.4
          ∙ ap (λ (k : List ℕ). hold.0 ∷ k) (append_assoc head (l ++ rest) more ∙ ap (λ (k : List ℕ). head ++ k) (append_assoc l rest more)),
      are-more rest ls x line hold.5 gate short,
    )

pub closed-stands : (r behind : List ℕ) (lines : List (List ℕ)) (c : List ℕ) → AreRecords r lines → c ≡ r ++ 0 ∷ behind → StandsFor c lines
closed-stands r behind lines c hold is = inr (length r, record { records = r; behind = behind; hold = hold; gate_is = refl; parts = is })

module _ (gate : ℕ) (r : List ℕ) (lines : List (List ℕ)) (hold : AreRecords r lines) (gate_is : gate ≡ length r) where
  through : (behind : List ℕ) → take (gate + 1) (r ++ 0 ∷ behind) ≡ r ++ 0 ∷ []
  through behind =
      ap (λ (l : List ℕ). take (gate + 1) l) (sym (append_assoc r (0 ∷ []) behind))
      ∙ take_at (r ++ 0 ∷ []) behind (gate + 1) (omega (arith, gate_is, length-append r (0 ∷ [])))

  past : (x : ℕ) (tail : List ℕ) → drop (gate + 1) (r ++ x ∷ tail) ≡ tail
  past x tail =
      ap (λ (l : List ℕ). drop (gate + 1) l) (sym (append_assoc r (x ∷ []) tail))
      ∙ drop_at (r ++ x ∷ []) tail (gate + 1) (omega (arith, gate_is, length-append r (x ∷ [])))

  -- the closed gate stands in each image of the first write
  pub torn-behind : (behind : List ℕ) (n : ℕ) (c : List ℕ) → Torn (gate + 1) n (r ++ 0 ∷ behind) c → StandsFor c lines
  torn-behind behind n c torn =
      closed-stands r (drop (gate + 1) c) lines c hold
      (sym (take-append-drop (gate + 1) c)
      ∙ ap (λ (l : List ℕ). l ++ drop (gate + 1) c) (torn.before ∙ through behind)
      ∙ append_assoc r (0 ∷ []) (drop (gate + 1) c))

  -- the file with an entry behind the closed gate
  pub staged : (behind line : List ℕ) → List ℕ
  staged behind line = to_be_bytes w32 (length line) ++ line ++ 0 ∷ drop (gate + 1 + length (entry line)) (r ++ 0 ∷ behind)

  pub written-behind : (behind line : List ℕ) → written (r ++ 0 ∷ behind) (gate + 1) (entry line) ≡ r ++ 0 ∷ staged behind line
  unfolding staged
  written-behind behind line =
      let more = drop (gate + 1 + length (entry line)) (r ++ 0 ∷ behind) in
      let bytes = to_be_bytes w32 (length line) in
      ap (λ (l : List ℕ). l ++ entry line ++ more) (through behind)
      ∙ append_assoc (r ++ 0 ∷ []) (entry line) more
      ∙ append_assoc r (0 ∷ []) (entry line ++ more)
      ∙ ap (λ (l : List ℕ). r ++ 0 ∷ l) (append_assoc (bytes ++ line) (0 ∷ []) more)

  -- any byte stands in the gate in an image of the second write, and nothing else changes
  pub torn-gate : (tail c : List ℕ) → Torn gate 1 (r ++ 0 ∷ tail) c → c ≡ r ++ get_or c gate 0 ∷ tail
  torn-gate tail c torn =
      let x = get_or c gate 0 in
      let rest : drop gate c ≡ x ∷ tail =
      drop_more c gate 0 (omega (arith, torn.no_shorter, gate_is, length-append r (0 ∷ tail))) ∙ ap (λ (l : List ℕ). x ∷ l) (torn.after ∙ past 0 tail) in
      sym (take-append-drop gate c)
      ∙ ap (λ (l : List ℕ). l ++ drop gate c) (torn.before ∙ take_at r (0 ∷ tail) gate (sym gate_is))
      ∙ ap (λ (l : List ℕ). r ++ l) rest

  pub written-gate : (tail : List ℕ) → written (r ++ 0 ∷ tail) gate (1 ∷ []) ≡ r ++ 1 ∷ tail
  written-gate tail =
      ap (λ (l : List ℕ). l ++ (1 ∷ []) ++ drop (gate + 1) (r ++ 0 ∷ tail)) (take_at r (0 ∷ tail) gate (sym gate_is))
      ∙ ap (λ (l : List ℕ). r ++ (1 ∷ []) ++ l) (past 0 tail)
      ∙ append_assoc r (1 ∷ []) tail

  pub regrouped : (x : ℕ) (behind line : List ℕ) → r ++ x ∷ staged behind line
      ≡ (r ++ x ∷ (to_be_bytes w32 (length line) ++ line)) ++ 0 ∷ drop (gate + 1 + length (entry line)) (r ++ 0 ∷ behind)
  unfolding staged
  regrouped x behind line =
      let more = drop (gate + 1 + length (entry line)) (r ++ 0 ∷ behind) in
      let bytes = to_be_bytes w32 (length line) in
      ap (λ (l : List ℕ). r ++ x ∷ l) (sym (append_assoc bytes line (0 ∷ more))) ∙ sym (append_assoc r (x ∷ (bytes ++ line)) (0 ∷ more))

  pub gate-stands : (x : ℕ) (behind line c : List ℕ) → IsJournalLine line → c ≡ r ++ x ∷ staged behind line → IsBeforeOrAfter lines line c
  gate-stands zero behind line c short is = inl (closed-stands r (staged behind line) lines c hold is)
  gate-stands (suc x) behind line c short is =
      inr (closed-stands (r ++ suc x ∷ (to_be_bytes w32 (length line) ++ line)) (drop (gate + 1 + length (entry line)) (r ++ 0 ∷ behind)) (lines ++ line ∷ []) c
      (are-more r lines (suc x) line hold (λ e. absurd (omega (arith, e))) short)
      (is ∙ regrouped (suc x) behind line))

pub if_some : {A : Type 0} (o : Option A) (P : A → Type 0) → ((x : A) → o ≡ Some x → P x) → IfSome o P
if_some None P f = tt
if_some (Some x) P f = f x refl

pub held : {A : Type 0} (o : Option A) (P : A → Type 0) (x : A) → o ≡ Some x → IfSome o P → P x
held o P x e h = subst (λ q. IfSome q P) e h

pub mapped : {A B : Type 0} (f : A → B) (o : Option A) (y : B) → option_map f o ≡ Some y → (x : A) × (o ≡ Some x) × (y ≡ f x)
mapped f None y e = absurd (none_is_not y e)
  where
    none_is_not : {B : Type 0} (y : B) → None ≡ Some y → ⊥
    none_is_not y e = subst (λ o. is-none o) e tt
      where
        is-none : {B : Type 0} → Option B → Type 0
        is-none None = Unit {0}
        is-none (Some x) = ⊥
mapped f (Some x) y e = (x, refl, sym (out e))
  where
    out : {B : Type 0} {u v : B} → Some u ≡ Some v → u ≡ v
    out {B} {u} {v} e = ap (λ o. value o u) e
      where
        value : {B : Type 0} → Option B → B → B
        value None d = d
        value (Some x) d = x

module _ {D : Type 0} (moment : D → ℕ) (since : D → ℕ → List ℕ → Type 0) where
  pub started : (old : D) (P : List ℕ → Type 0) → ((c : List ℕ) → since old (moment old) c → P c) → LeavesOnly moment since old old P
  started old P here = record { later = omega arith; each = here; before = λ t c le left. inl left }

  pub goes_on : (old mid new : D) (P : List ℕ → Type 0) → LeavesOnly moment since old mid P → GoesOn (moment mid) (moment new) (since mid) (since new)
      → ((c : List ℕ) → since new (moment mid) c → P c) → LeavesOnly moment since old new P
  goes_on old mid new P so_far time here = record {
    later = omega (arith, so_far.later, time.later);
    each = λ c left. ⊎_elim (so_far.each c) (here c) (time.joins (moment old) c so_far.later left);
    before = λ t c le left. ⊎_elim (so_far.before t c le) (λ now. inr (here c now)) (time.joins t c (omega (arith, le, so_far.later)) left);
  }

-- the steps of a put on a disk that tells
module _ (gate : ℕ) (bytes line piece : List ℕ) (lines : List (List ℕ)) (z : IsClosedAt gate bytes lines) (short : IsJournalLine line) (is : piece ≡ entry line) where
  r : List ℕ
  r = z.records

  tail : List ℕ
  tail = staged gate z.records lines z.hold z.gate_is z.behind line

  pub is-staged : written bytes (gate + 1) piece ≡ z.records ++ 0 ∷ staged gate z.records lines z.hold z.gate_is z.behind line
  is-staged = ap (λ (b : List ℕ). written b (gate + 1) piece) z.parts ∙ ap (λ (p : List ℕ). written (z.records ++ 0 ∷ z.behind) (gate + 1) p) is
      ∙ written-behind gate z.records lines z.hold z.gate_is z.behind line

  pub gate-below : gate + 1 ≤ length bytes
  gate-below = omega (arith, z.gate_is, ap length z.parts, length-append z.records (0 ∷ z.behind))

  pub gate-below-staged : gate ≤ length (written bytes (gate + 1) piece)
  gate-below-staged = omega (arith, z.gate_is, ap length is-staged, length-append z.records (0 ∷ staged gate z.records lines z.hold z.gate_is z.behind line))

  pub stands : (c : List ℕ) → c ≡ bytes → StandsFor c lines
  stands c e = closed-stands z.records z.behind lines c z.hold (e ∙ z.parts)

  pub first-stands : (n : ℕ) (old new : List ℕ → Type 0) → Only bytes old → Follows (Torn (gate + 1) n) old new → (c : List ℕ) → new c → StandsFor c lines
  first-stands n old new only follows c left =
      let from = follows c left in
      torn-behind gate z.records lines z.hold z.gate_is z.behind n c (subst (λ f. Torn (gate + 1) n f c) (only from.0 from.1 ∙ z.parts) from.2)

  pub second-stands : (old new : List ℕ → Type 0) → Only (written bytes (gate + 1) piece) old → Follows (Torn gate 1) old new → (c : List ℕ) → new c → IsBeforeOrAfter lines line c
  second-stands old new only follows c left =
      let from = follows c left in
      gate-stands gate z.records lines z.hold z.gate_is (get_or c gate 0) z.behind line c short
      (torn-gate gate z.records lines z.hold z.gate_is (staged gate z.records lines z.hold z.gate_is z.behind line) c (subst (λ f. Torn gate 1 f c) (only from.0 from.1 ∙ is-staged) from.2))

  pub closed-again : (b : List ℕ) → b ≡ written (written bytes (gate + 1) piece) gate (1 ∷ []) → IsClosedAt (gate + length piece) b (lines ++ line ∷ [])
  closed-again b e = record {
    records = z.records ++ 1 ∷ (to_be_bytes w32 (length line) ++ line);
    behind = drop (gate + 1 + length (entry line)) (z.records ++ 0 ∷ z.behind);
    hold = are-more z.records lines 1 line z.hold (λ o. absurd (omega (arith, o))) short;
    gate_is = omega (
      arith,
      z.gate_is,
      ap length is,
      length-append z.records (1 ∷ (to_be_bytes w32 (length line) ++ line)),
      length-append (to_be_bytes w32 (length line)) line,
      length-append (to_be_bytes w32 (length line)) (line ++ 0 ∷ []),
      length-append line (0 ∷ []),
    );
    parts = e ∙ ap (λ (l : List ℕ). written l gate (1 ∷ [])) is-staged
        ∙ written-gate gate z.records lines z.hold z.gate_is (staged gate z.records lines z.hold z.gate_is z.behind line)
        ∙ regrouped gate z.records lines z.hold z.gate_is 1 z.behind line;
  }
