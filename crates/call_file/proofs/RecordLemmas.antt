-- Records of a text, one after another.
use Rattle.std.proofs.Common.{◌≡◌, ℕ, zero, suc, ◌<◌, ◌≤◌, Bool, true, false, cond, ◌==◌, List, [], ◌∷◌, ◌++◌, length, Some, None, refl, sym, ap, ◌∙◌, subst, arith}
use Rattle.std.specs.Prelude.{◌&&◌}
use Rattle.csv.specs.Machine.{Read, next_record, step, is_end, ends_at_end, fields_after, field_after, after_end, ends_with, is_byte, in_field, start_field, start_record}
use Rattle.csv.specs.Reading.{Reached, records_from, records_next}
use Rattle.csv.specs.declared.parser.Config.{Config}
use Rattle.csv.specs.declared.parser.Action.{Action}
use Rattle.csv.specs.declared.parser.Action.TheVariants as act
use Rattle.csv.specs.declared.parser.State.{State}
use Rattle.csv.specs.declared.parser.State.TheVariants as st
use Rattle.csv.specs.declared.parser.Terminator.{Terminator}
use Rattle.csv.specs.declared.parser.Terminator.TheVariants as term

-- what is left behind a record is no longer than what was there
pub shorter : (cfg : Config) (s : State) (f : List (List ℕ)) (p xs : List ℕ) (q : Read) → next_record cfg s f p xs ≡ Some q → length q.2 ≤ length xs
unfolding next_record
shorter cfg s f p [] q h = at_end (ends_at_end s) h where
  at_end : (b : Bool) → cond b (Some (f ++ (p ∷ []), st.StartRecord, [])) None ≡ Some q → length q.2 ≤ 0
  at_end true h = let e : q ≡ (f ++ (p ∷ []), st.StartRecord, []) = cc in rw e (omega arith)
  at_end false h = absurd (let wrong : ⊥ = cc in wrong)
shorter cfg s f p (c ∷ rest) q h =
    at_byte (is_end (step cfg s c).1) (λ more. shorter cfg (step cfg s c).0 (fields_after (step cfg s c).1 f p) (field_after (step cfg s c).1 c p) rest q more) h
  where
    at_byte : (b : Bool) → (next_record cfg (step cfg s c).0 (fields_after (step cfg s c).1 f p) (field_after (step cfg s c).1 c p) rest ≡ Some q → length q.2 ≤ length rest) →
        cond b (Some (fields_after (step cfg s c).1 f p, (step cfg s c).0, rest))
        (next_record cfg (step cfg s c).0 (fields_after (step cfg s c).1 f p) (field_after (step cfg s c).1 c p) rest) ≡ Some q → length q.2 ≤ suc (length rest)
    at_byte true less h = let e : q ≡ (fields_after (step cfg s c).1 f p, (step cfg s c).0, rest) = cc in rw e (omega arith)
    at_byte false less h = let fewer = less h in omega (arith, fewer)

-- a record that begins takes at least one byte
pub takes_some : (cfg : Config) (s : State) (xs : List ℕ) (q : Read) → ends_at_end s ≡ false → next_record cfg s [] [] xs ≡ Some q → length q.2 < length xs
unfolding next_record
takes_some cfg s [] q border h = absurd (let wrong : None ≡ Some q = ap (λ b. cond b (Some ([] ++ ([] ∷ []), st.StartRecord, [])) None) (sym border) ∙ h in cc)
takes_some cfg s (c ∷ rest) q border h =
    at_byte (is_end (step cfg s c).1) (λ more. shorter cfg (step cfg s c).0 (fields_after (step cfg s c).1 [] []) (field_after (step cfg s c).1 c []) rest q more) h
  where
    at_byte : (b : Bool) → (next_record cfg (step cfg s c).0 (fields_after (step cfg s c).1 [] []) (field_after (step cfg s c).1 c []) rest ≡ Some q → length q.2 ≤ length rest) →
        cond b (Some (fields_after (step cfg s c).1 [] [], (step cfg s c).0, rest))
        (next_record cfg (step cfg s c).0 (fields_after (step cfg s c).1 [] []) (field_after (step cfg s c).1 c []) rest) ≡ Some q → length q.2 < suc (length rest)
    at_byte true less h = let e : q ≡ (fields_after (step cfg s c).1 [] [], (step cfg s c).0, rest) = cc in rw e (omega arith)
    at_byte false less h = let fewer = less h in omega (arith, fewer)

-- Behind a record another may begin.

after_end-border : (t : Terminator) (c : ℕ) → ends_at_end (after_end t c) ≡ false
after_end-border term.CRLF c = by_byte (c == 13) where
  by_byte : (b : Bool) → ends_at_end (cond b st.AfterCr st.StartRecord) ≡ false
  by_byte true = refl
  by_byte false = refl
after_end-border (term.Any t) c = refl

-- a step that ends a record
abbrev EndsWell : State × Action → Type 0
EndsWell r = is_end r.1 ≡ true → ends_at_end r.0 ≡ false

well_cond : (b : Bool) (x y : State × Action) → EndsWell x → EndsWell y → EndsWell (cond b x y)
well_cond true x y wx wy = wx
well_cond false x y wx wy = wy

goes_well : (s : State) (a : Action) → is_end a ≡ false → EndsWell (s, a)
goes_well s a h = λ e. absurd (let wrong : true ≡ false = sym e ∙ h in cc)

in_field-well : (cfg : Config) (c : ℕ) → EndsWell (in_field cfg c)
in_field-well cfg c =
    well_cond (c == cfg.delimiter) (st.StartField, act.EndField) _ (goes_well st.StartField act.EndField refl)
    (well_cond (ends_with cfg.terminator c) (after_end cfg.terminator c, act.EndRecord) (st.InField, act.Copy) (λ e. after_end-border cfg.terminator c) (goes_well st.InField act.Copy refl))

start_field-well : (cfg : Config) (c : ℕ) → EndsWell (start_field cfg c)
start_field-well cfg c = well_cond (cfg.quoting && (c == cfg.quote)) (st.InQuoted, act.Skip) (in_field cfg c) (goes_well st.InQuoted act.Skip refl) (in_field-well cfg c)

start_record-well : (cfg : Config) (c : ℕ) → EndsWell (start_record cfg c)
start_record-well cfg c =
    well_cond (ends_with cfg.terminator c) (st.StartRecord, act.Skip) _ (goes_well st.StartRecord act.Skip refl)
    (well_cond (is_byte cfg.comment c) (st.InComment, act.Skip) (start_field cfg c) (goes_well st.InComment act.Skip refl) (start_field-well cfg c))

step-well : (cfg : Config) (s : State) (c : ℕ) → EndsWell (step cfg s c)
step-well cfg st.StartRecord c = start_record-well cfg c
step-well cfg st.StartField c = start_field-well cfg c
step-well cfg st.InField c = in_field-well cfg c
step-well cfg st.InQuoted c =
    well_cond (cfg.quoting && (c == cfg.quote)) (st.AfterQuote, act.Skip) _ (goes_well st.AfterQuote act.Skip refl)
    (well_cond (cfg.quoting && is_byte cfg.escape c) (st.InEscape, act.Skip) (st.InQuoted, act.Copy) (goes_well st.InEscape act.Skip refl) (goes_well st.InQuoted act.Copy refl))
step-well cfg st.InEscape c = goes_well st.InQuoted act.Copy refl
step-well cfg st.AfterQuote c = well_cond ((cfg.quoting && cfg.double_quote) && (c == cfg.quote)) (st.InQuoted, act.Copy) (in_field cfg c) (goes_well st.InQuoted act.Copy refl) (in_field-well cfg c)
step-well cfg st.InComment c = well_cond (c == 10) (st.StartRecord, act.Skip) (st.InComment, act.Skip) (goes_well st.StartRecord act.Skip refl) (goes_well st.InComment act.Skip refl)
step-well cfg st.AfterCr c = well_cond (c == 10) (st.StartRecord, act.Skip) (start_record cfg c) (goes_well st.StartRecord act.Skip refl) (start_record-well cfg c)

pub border_behind : (cfg : Config) (s : State) (f : List (List ℕ)) (p xs : List ℕ) (q : Read) → next_record cfg s f p xs ≡ Some q → ends_at_end q.1 ≡ false
unfolding next_record
border_behind cfg s f p [] q h = at_end (ends_at_end s) h where
  at_end : (b : Bool) → cond b (Some (f ++ (p ∷ []), st.StartRecord, [])) None ≡ Some q → ends_at_end q.1 ≡ false
  at_end true h = let e : q ≡ (f ++ (p ∷ []), st.StartRecord, []) = cc in rw e refl
  at_end false h = absurd (let wrong : ⊥ = cc in wrong)
border_behind cfg s f p (c ∷ rest) q h =
    at_byte (is_end (step cfg s c).1) refl (λ more. border_behind cfg (step cfg s c).0 (fields_after (step cfg s c).1 f p) (field_after (step cfg s c).1 c p) rest q more) h
  where
    at_byte : (b : Bool) → is_end (step cfg s c).1 ≡ b →
        (next_record cfg (step cfg s c).0 (fields_after (step cfg s c).1 f p) (field_after (step cfg s c).1 c p) rest ≡ Some q → ends_at_end q.1 ≡ false) →
        cond b (Some (fields_after (step cfg s c).1 f p, (step cfg s c).0, rest))
        (next_record cfg (step cfg s c).0 (fields_after (step cfg s c).1 f p) (field_after (step cfg s c).1 c p) rest) ≡ Some q → ends_at_end q.1 ≡ false
    at_byte true is more h = let e : q ≡ (fields_after (step cfg s c).1 f p, (step cfg s c).0, rest) = cc in rw e (step-well cfg s c is)
    at_byte false is more h = more h

-- records that were reached, one after another, up to the end, are all
pub reached-records : (cfg : Config) (rows : List (List (List ℕ))) (s : State) (xs : List ℕ) (s2 : State) (ys : List ℕ) (n : ℕ) → ends_at_end s ≡ false → length xs < n →
    Reached cfg s xs rows s2 ys → next_record cfg s2 [] [] ys ≡ None → records_from cfg n s xs ≡ rows
unfolding records_from Reached
reached-records cfg rows s xs s2 ys zero border fits reached ends = absurd (omega (arith, fits))
reached-records cfg [] s xs s2 ys (suc n) border fits reached ends =
    ap (records_next (records_from cfg n)) (subst (λ t. next_record cfg t [] [] xs ≡ None) (sym reached.0) (subst (λ zs. next_record cfg s2 [] [] zs ≡ None) (sym reached.1) ends))
reached-records cfg (r ∷ rs) s xs s2 ys (suc n) border fits (p, found, same, more) ends =
    let fewer = takes_some cfg s xs p border found in
    ap (records_next (records_from cfg n)) found
    ∙ ap (λ t. p.0 ∷ t) (reached-records cfg rs p.1 p.2 s2 ys n (border_behind cfg s [] [] xs p found) (omega (arith, fewer, fits)) more ends)
    ∙ ap (λ x. x ∷ rs) (sym same)

-- records that were reached, one after another, are the first ones
pub reached-front : (cfg : Config) (rows : List (List (List ℕ))) (s : State) (xs : List ℕ) (s2 : State) (ys : List ℕ) (n : ℕ) → ends_at_end s ≡ false → length xs < n →
    Reached cfg s xs rows s2 ys → (m : ℕ) × (length ys < m) × (records_from cfg n s xs ≡ rows ++ records_from cfg m s2 ys)
unfolding records_from Reached
reached-front cfg rows s xs s2 ys zero border fits reached = absurd (omega (arith, fits))
reached-front cfg [] s xs s2 ys (suc n) border fits reached =
    (suc n, subst (λ zs. length zs < suc n) reached.1 fits, ap (λ t. records_from cfg (suc n) t xs) reached.0 ∙ ap (records_from cfg (suc n) s2) reached.1)
reached-front cfg (r ∷ rs) s xs s2 ys (suc n) border fits (p, found, same, more) =
    let fewer = takes_some cfg s xs p border found in
    let front = reached-front cfg rs p.1 p.2 s2 ys n (border_behind cfg s [] [] xs p found) (omega (arith, fewer, fits)) more in (
      front.0,
      front.1,
      ap (records_next (records_from cfg n)) found ∙ ap (λ t. p.0 ∷ t) front.2 ∙ ap (λ x. x ∷ (rs ++ records_from cfg front.0 s2 ys)) (sym same),
    )
