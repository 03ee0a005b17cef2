-- One read of a reader between two records.
use Rattle.std.proofs.Common.{◌≡◌, ◌≢◌, ℕ, zero, suc, ◌+◌, ◌<◌, true, false, List, [], ◌∷◌, length, Option, None, Some, Bor, refl, sym, ap, ◌∙◌, subst, inl, arith, add-one}
use Rattle.csv.specs.Machine.{Read, ends_at_end, next_record}
use Rattle.csv.specs.Reading.{Reached, ReadRecord, NextIs, ReadsNext, TookRecord, default_config, expected_len, is_flexible, pending_of, records_from, records_next, took_first}
use Rattle.csv.specs.declared.parser.Config.{Config}
use Rattle.csv.specs.declared.parser.State.{State}
use Rattle.csv.proofs.ReadFacts.{rows-end, rows-more}
use Rattle.call_file.specs.Records.{BeginsUneven, IsReading, Reading, left_of, rows_from, rows_left}
use Rattle.call_file.specs.Register.{Fields}
use Rattle.call_file.proofs.RecordLemmas.{border_behind, takes_some}

-- more turns than bytes give no more records
pub enough : (cfg : Config) (n m : ℕ) (s : State) (xs : List ℕ) → ends_at_end s ≡ false → length xs < n → length xs < m → records_from cfg n s xs ≡ records_from cfg m s xs
unfolding records_from
enough cfg zero m s xs border a b = absurd (omega (arith, a))
enough cfg (suc n) zero s xs border a b = absurd (omega (arith, b))
enough cfg (suc n) (suc m) s xs border a b = by_read (next_record cfg s [] [] xs) refl (λ t ys at x y. enough cfg n m t ys at x y) where
  by_read : (o : Option Read) → next_record cfg s [] [] xs ≡ o →
      ((t : State) (ys : List ℕ) → ends_at_end t ≡ false → length ys < n → length ys < m → records_from cfg n t ys ≡ records_from cfg m t ys) →
      records_next (records_from cfg n) o ≡ records_next (records_from cfg m) o
  by_read None found more = refl
  by_read (Some p) found more =
      let fewer = takes_some cfg s xs p border found in
      ap (λ rows. p.0 ∷ rows) (more p.1 p.2 (border_behind cfg s [] [] xs p found) (omega (arith, fewer, a)) (omega (arith, fewer, b)))

-- what a reader has left begins with what is read next
left_now : (a : Reading) (here : IsReading a) → rows_left a ≡ records_next (records_from default_config (length here.left)) (next_record default_config a.state [] [] here.left)
unfolding rows_left records_from
left_now a here =
    ap (rows_from a.state) here.left_is ∙ ap (λ n. records_from default_config n a.state here.left) (add-one (length here.left))

-- a read that found a record gave the first of those left, and the reader stands behind it
pub row_read : (a b : Reading) (f : Fields) → IsReading a → ReadRecord (λ bytes. Some bytes.now) a b true f → took_first b ≡ true → is_flexible b ≡ is_flexible a →
    IsReading b × (rows_left a ≡ f ∷ rows_left b)
unfolding rows_left Reached
row_read a b f here read first flexible =
    let more = rows-more (λ (bytes : Bor (List ℕ)). Some bytes.now) a b f default_config a.state here.left here.left [] here.config here.left_is (refl, refl) read in
    let z = more.0 in
    let p = more.2.0 in
    let found : next_record default_config a.state [] [] here.left ≡ Some p = more.2.1 in
    let border : ends_at_end p.1 ≡ false = border_behind default_config a.state [] [] here.left p found in
    let fewer : length p.2 < length here.left = takes_some default_config a.state here.left p here.at_border found in
    let behind : records_from default_config (length p.2 + 1) p.1 p.2 ≡ rows_from b.state (left_of b) =
    ap (λ t. records_from default_config (length p.2 + 1) t p.2) more.2.3.0
    ∙ ap (λ ys. records_from default_config (length ys + 1) b.state ys) more.2.3.1
    ∙ sym (ap (rows_from b.state) more.1) in (
      record {
        trims_nothing = read.3 ∙ here.trims_nothing;
        ready = inl first;
        config = read.2 ∙ here.config;
        uneven_is_refused = flexible ∙ here.uneven_is_refused;
        left = z;
        left_is = more.1;
        at_border = subst (λ t. ends_at_end t ≡ false) more.2.3.0 border;
      },
      left_now a here
          ∙ ap (records_next (records_from default_config (length here.left))) found
          ∙ ap (λ rows. p.0 ∷ rows) (enough default_config (length here.left) (length p.2 + 1) p.1 p.2 border fewer (omega arith) ∙ behind)
          ∙ ap (λ x. x ∷ rows_from b.state (left_of b)) (sym more.2.2),
    )

-- a read that found no record stands at the end
pub row_ends : (a b : Reading) (f : Fields) → IsReading a → ReadRecord (λ bytes. Some bytes.now) a b false f → rows_left a ≡ []
row_ends a b f here read =
    left_now a here
    ∙ ap (records_next (records_from default_config (length here.left))) (rows-end (λ (bytes : Bor (List ℕ)). Some bytes.now) a b f default_config here.left here.config here.left_is read)

-- the record that a read took
took : (cfg : Config) (s : State) (xs : List ℕ) (after : Option (List ℕ)) (f : Fields) (s2 : State) → ReadsNext cfg s (Some xs) after true f s2 → (p : Read) × (next_record cfg s [] [] xs ≡ Some p) × (f ≡ p.0)
took cfg s xs None f s2 h = absurd h
took cfg s xs (Some ys) f s2 h = by_read (next_record cfg s [] [] xs) refl h where
  by_read : (o : Option Read) → next_record cfg s [] [] xs ≡ o → NextIs o true f s2 ys → (p : Read) × (next_record cfg s [] [] xs ≡ Some p) × (f ≡ p.0)
  by_read None found h = absurd (let wrong : ⊥ = cc in wrong)
  by_read (Some p) found h = (p, found, h.1)

-- a record of another length than expected is the first of those left
pub row_uneven : (a b : Reading) (f : Fields) (expected : ℕ) → IsReading a → expected_len a ≡ Some expected → expected ≢ length f → TookRecord (λ bytes. Some bytes.now) a b f → BeginsUneven (expected_len a) (rows_left a)
row_uneven a b f expected here is uneven read =
    let at : ReadsNext default_config a.state (Some here.left) (pending_of (Some b.rdr.now) b) true f b.state = rw (here.config, here.left_is) at read in
    let first = took default_config a.state here.left (pending_of (Some b.rdr.now) b) f b.state at in
    let rows : rows_left a ≡ first.0.0 ∷ records_from default_config (length here.left) first.0.1 first.0.2 =
    left_now a here ∙ ap (records_next (records_from default_config (length here.left))) first.1 in
    let other : BeginsUneven (Some expected) (first.0.0 ∷ records_from default_config (length here.left) first.0.1 first.0.2) =
    λ e. uneven (e ∙ ap length (sym first.2)) in
    subst (λ o. BeginsUneven o (rows_left a)) (sym is) (subst (BeginsUneven (Some expected)) (sym rows) other)
