-- How many lines an opening has at most: no more than its register has bytes, and three.
use Rattle.std.proofs.Common.{◌≡◌, ℕ, zero, suc, ◌+◌, ◌≤◌, Bool, true, false, cond, not, List, [], ◌∷◌, ◌++◌, length, Option, None, Some, refl, arith, length-append}
use Rattle.std.specs.Prelude.{filter}
use Rattle.std.specs.List.{onto_first, slice_split}
use Rattle.csv.specs.Machine.{Read, ends_at_end, field_after, fields_after, is_end, next_record, step}
use Rattle.csv.specs.Reading.{default_config, records_from, records_next, strip_bom, is_bom}
use Rattle.csv.specs.declared.parser.Action.{Action}
use Rattle.csv.specs.declared.parser.Action.TheVariants as act
use Rattle.csv.specs.declared.parser.Config.{Config}
use Rattle.csv.specs.declared.parser.State.{State}
use Rattle.csv.specs.declared.parser.State.TheVariants as st
use Rattle.house_base.specs.Text.{Text}
use Rattle.house_model.specs.Text.{is_empty, is_gap, words}
use Rattle.call_file.specs.Opening.{Place, each_once, same_place}
use Rattle.call_file.specs.Records.{rows_of}
use Rattle.call_file.specs.Register.{Fields}

-- the bytes of a record's fields, and of all records
abbrev pub bytes_in : Fields → ℕ
bytes_in [] = 0
bytes_in (f ∷ fs) = length f + bytes_in fs

abbrev pub bytes_of : List Fields → ℕ
bytes_of [] = 0
bytes_of (r ∷ rs) = bytes_in r + bytes_of rs

one_field_more : (fs : Fields) (f : Text) → bytes_in (fs ++ f ∷ []) ≡ bytes_in fs + length f
one_field_more [] f = omega arith
one_field_more (g ∷ fs) f = let more = one_field_more fs f in omega (arith, more)

-- a byte adds at most itself
one_byte : (a : Action) (fs : Fields) (p : Text) (c : ℕ) → bytes_in (fields_after a fs p) + length (field_after a c p) ≤ bytes_in fs + length p + 1
one_byte act.Copy fs p c = let longer = length-append p (c ∷ []) in omega (arith, longer)
one_byte act.Skip fs p c = omega arith
one_byte act.EndField fs p c = let more = one_field_more fs p in omega (arith, more)
one_byte act.EndRecord fs p c = let more = one_field_more fs p in omega (arith, more)

-- a record has no more bytes than it took
record_bytes : (cfg : Config) (s : State) (fs : Fields) (p xs : List ℕ) (q : Read) → next_record cfg s fs p xs ≡ Some q → bytes_in q.0 + length q.2 ≤ bytes_in fs + length p + length xs
unfolding next_record
record_bytes cfg s fs p [] q h = at_end (ends_at_end s) h where
  at_end : (b : Bool) → cond b (Some (fs ++ (p ∷ []), st.StartRecord, [])) None ≡ Some q → bytes_in q.0 + length q.2 ≤ bytes_in fs + length p + 0
  at_end true h = let e : q ≡ (fs ++ (p ∷ []), st.StartRecord, []) = cc in rw e (let more = one_field_more fs p in omega (arith, more))
  at_end false h = absurd (let wrong : ⊥ = cc in wrong)
record_bytes cfg s fs p (c ∷ rest) q h =
    at_byte (is_end (step cfg s c).1) (λ more. record_bytes cfg (step cfg s c).0 (fields_after (step cfg s c).1 fs p) (field_after (step cfg s c).1 c p) rest q more) h
  where
    grown : bytes_in (fields_after (step cfg s c).1 fs p) + length (field_after (step cfg s c).1 c p) ≤ bytes_in fs + length p + 1
    grown = one_byte (step cfg s c).1 fs p c

    at_byte : (b : Bool) → (next_record cfg (step cfg s c).0 (fields_after (step cfg s c).1 fs p) (field_after (step cfg s c).1 c p) rest ≡ Some q →
        bytes_in q.0 + length q.2 ≤ bytes_in (fields_after (step cfg s c).1 fs p) + length (field_after (step cfg s c).1 c p) + length rest) →
        cond b (Some (fields_after (step cfg s c).1 fs p, (step cfg s c).0, rest))
        (next_record cfg (step cfg s c).0 (fields_after (step cfg s c).1 fs p) (field_after (step cfg s c).1 c p) rest) ≡ Some q → bytes_in q.0 + length q.2 ≤ bytes_in fs + length p + suc (length rest)
    at_byte true less h = let e : q ≡ (fields_after (step cfg s c).1 fs p, (step cfg s c).0, rest) = cc in rw e (omega (arith, grown))
    at_byte false less h = let fewer = less h in omega (arith, grown, fewer)

-- the records of a text have no more bytes than the text
pub records_bytes : (cfg : Config) (n : ℕ) (s : State) (xs : List ℕ) → bytes_of (records_from cfg n s xs) ≤ length xs
unfolding records_from
records_bytes cfg zero s xs = omega arith
records_bytes cfg (suc n) s xs = by_read (next_record cfg s [] [] xs) refl (λ t ys. records_bytes cfg n t ys) where
  by_read : (o : Option Read) → next_record cfg s [] [] xs ≡ o → ((t : State) (ys : List ℕ) → bytes_of (records_from cfg n t ys) ≤ length ys) → bytes_of (records_next (records_from cfg n) o) ≤ length xs
  by_read None found more = omega arith
  by_read (Some q) found more = let here = record_bytes cfg s [] [] xs q found in let behind = more q.1 q.2 in omega (arith, here, behind)

-- a text without its byte order mark is no longer
pub bom_shortens : (xs : List ℕ) → length (strip_bom xs) ≤ length xs
unfolding strip_bom
bom_shortens [] = omega arith
bom_shortens (a ∷ []) = omega arith
bom_shortens (a ∷ b ∷ []) = omega arith
bom_shortens (a ∷ b ∷ c ∷ rest) = elim (is_bom a b c) as (λ t. length (cond t rest (a ∷ b ∷ c ∷ rest)) ≤ length (a ∷ b ∷ c ∷ rest)) [ true ↦ omega arith | false ↦ omega arith ]

-- a text has no more words than bytes
one_part : (x : ℕ) (parts : List Text) → length (filter (λ w. not (is_empty w)) (onto_first x parts)) ≤ suc (length (filter (λ w. not (is_empty w)) parts))
one_part x [] = omega arith
one_part x ([] ∷ ws) = omega arith
one_part x ((y ∷ w) ∷ ws) = omega arith

parts_few : (text : Text) → length (filter (λ w. not (is_empty w)) (slice_split is_gap text)) ≤ length text
parts_few [] = omega arith
parts_few (x ∷ xs) =
    let fewer = parts_few xs in
    let one = one_part x (slice_split is_gap xs) in
    elim (is_gap x) as (λ b. length (filter (λ w. not (is_empty w)) (cond b ([] ∷ slice_split is_gap xs) (onto_first x (slice_split is_gap xs)))) ≤ suc (length xs)) [
      | true ↦ omega (arith, fewer)
      | false ↦ omega (arith, fewer, one)
    ]

pub words_few : (text : Text) → length (words text) ≤ length text
unfolding words
words_few text = parts_few text

filter_few : (test : Place → Bool) (ps : List Place) → length (filter test ps) ≤ length ps
filter_few test [] = omega arith
filter_few test (p ∷ ps) =
    let fewer = filter_few test ps in
    elim (test p) as (λ b. length (cond b (p ∷ filter test ps) (filter test ps)) ≤ suc (length ps)) [ true ↦ omega (arith, fewer) | false ↦ omega (arith, fewer) ]

-- places that are given once are no more
pub once_few : (ps : List Place) → length (each_once ps) ≤ length ps
once_few [] = omega arith
once_few (p ∷ ps) =
    let fewer = once_few ps in
    let others = filter_few (λ q. not (same_place p q)) (each_once ps) in
    omega (arith, fewer, others)

-- so many turns give no more records
pub turns_few : (cfg : Config) (n : ℕ) (s : State) (xs : List ℕ) → length (records_from cfg n s xs) ≤ n
unfolding records_from
turns_few cfg zero s xs = omega arith
turns_few cfg (suc n) s xs = by_read (next_record cfg s [] [] xs) (λ t ys. turns_few cfg n t ys) where
  by_read : (o : Option Read) → ((t : State) (ys : List ℕ) → length (records_from cfg n t ys) ≤ n) → length (records_next (records_from cfg n) o) ≤ suc n
  by_read None more = omega arith
  by_read (Some q) more = let behind = more q.1 q.2 in omega (arith, behind)

-- a register has no more records than bytes, but for one
pub rows_few : (register : Text) → length (rows_of register) ≤ length register + 1
unfolding rows_of
rows_few register =
    let turns = turns_few default_config (length (strip_bom register) + 1) st.StartRecord (strip_bom register) in
    let shorter = bom_shortens register in
    omega (arith, turns, shorter)
