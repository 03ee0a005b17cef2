-- A call file and a register, loaded and read.
use Rattle.std.proofs.Common.{◌≡◌, ℕ, ◌+◌, ◌-◌, ◌^◌, ◌<◌, ◌≤◌, Bool, true, false, cond, leb, [], ◌∷◌, Option, Some, None, Result, Ok, Err, length, sym, ap, ◌∙◌, subst, inl, inr, arith}
use Rattle.std.specs.Prelude.{IfOk, IfSome, IsSomeAnd, MatchOption}
use Rattle.std.specs.FinMap.{get}
use Rattle.std.proofs.lemmas.Bool.{le-leb, lt-leb}
use Rattle.call_file.specs.Opening.{opened}
use Rattle.call_file.specs.declared.fault.OpenFault.{OpenFault}
use Rattle.call_file.specs.declared.fault.OpenFault.TheVariants as fault
use Rattle.input_run.specs.declared.fault.InputFault.{InputFault}
use Rattle.house_base.specs.Text.{Text}
use Rattle.house_io.specs.Faults.{Rose}
use Rattle.house_io.specs.Files.{Contents, IsLonger}
use Rattle.house_model.specs.declared.limits.TheConstants.{MOST_BYTES, MOST_LINES}
use Rattle.house_model.specs.Text.{Lines}
use Rattle.house_top.specs.declared.opening.Opened.{Opened}
use Rattle.house_top.specs.declared.opening.Opened.TheVariants as files_opened
use Rattle.house_top.specs.declared.status.Status.{Status}
use Rattle.house_top.specs.declared.status.Status.TheVariants as status
use Rattle.house_top.specs.Given.{held}
use Rattle.house_top.specs.Opened.{IsOpened}
use Rattle.house_top.specs.Opening.{by_grammar, loaded, opened_by, opening_of, status_of_refusal}

within_limit : (bytes : Text) (fits : Bool) → leb (length bytes) MOST_BYTES ≡ fits → loaded (Some bytes) ≡ cond fits (Ok bytes) (Err status.TooLong)
within_limit bytes fits is = ap (λ b. cond b (Ok bytes) (Err status.TooLong)) is

-- a file within the limit is loaded
pub loaded_short : (file : Option Text) (bytes : Text) → file ≡ Some bytes → length bytes ≤ MOST_BYTES → loaded file ≡ Ok bytes
loaded_short file bytes is fits = ap loaded is ∙ within_limit bytes true (le-leb (length bytes) MOST_BYTES fits)

-- a file that is longer is not
pub loaded_long : (file : Option Text) → IsSomeAnd file (λ bytes. MOST_BYTES < length bytes) → loaded file ≡ Err status.TooLong
loaded_long None longer = absurd longer
loaded_long (Some bytes) longer = within_limit bytes false (lt-leb (length bytes) MOST_BYTES longer)

-- both files, where the second was loaded of contents as they were
pub both_loaded : (before after : Option Contents) (call register c r : Text) → after ≡ before → IfSome before (λ all. get all call ≡ Some c) → IfSome after (λ all. get all register ≡ Some r) →
    length c ≤ MOST_BYTES → length r ≤ MOST_BYTES → IfSome before (λ all. (loaded (get all call) ≡ Ok c) × (loaded (get all register) ≡ Ok r))
both_loaded before after call register c r same first second c_fits r_fits = by_contents before first (subst (λ o. IfSome o (λ all. get all register ≡ Some r)) same second)
  where
    by_contents : (o : Option Contents) → IfSome o (λ all. get all call ≡ Some c) → IfSome o (λ all. get all register ≡ Some r) →
        IfSome o (λ all. (loaded (get all call) ≡ Ok c) × (loaded (get all register) ≡ Ok r))
    by_contents None first second = tt
    by_contents (Some all) first second = (loaded_short (get all call) c first c_fits, loaded_short (get all register) r second r_fits)

-- the first file is too long, or its length is not told
pub first_long : (contents : Option Contents) (call register : Text) (before after : ℕ) → MatchOption contents (Rose before after) (λ all. IsLonger all call MOST_BYTES) →
    MatchOption contents (Rose before after) (λ all. opened_by (loaded (get all call)) (loaded (get all register)) ≡ Err status.TooLong)
first_long None call register before after rose = rose
first_long (Some all) call register before after longer = ap (λ first. opened_by first (loaded (get all register))) (loaded_long (get all call) longer)

rose_behind : (before between after : ℕ) → before ≤ between → Rose between after → Rose before after
rose_behind before between after still (inl more) = inl (omega (arith, still, more))
rose_behind before between after still (inr last) = inr last

-- the second is
pub second_long : (before_contents contents : Option Contents) (call register c : Text) (before between after : ℕ) → contents ≡ before_contents → IfSome before_contents (λ all. get all call ≡ Some c) →
    length c ≤ MOST_BYTES → before ≤ between → MatchOption contents (Rose between after) (λ all. IsLonger all register MOST_BYTES) →
    MatchOption before_contents (Rose before after) (λ all. opened_by (loaded (get all call)) (loaded (get all register)) ≡ Err status.TooLong)
second_long before_contents contents call register c before between after same first fits still second =
    by_contents before_contents first (subst (λ o. MatchOption o (Rose between after) (λ all. IsLonger all register MOST_BYTES)) same second)
  where
    by_contents : (o : Option Contents) → IfSome o (λ all. get all call ≡ Some c) → MatchOption o (Rose between after) (λ all. IsLonger all register MOST_BYTES) →
        MatchOption o (Rose before after) (λ all. opened_by (loaded (get all call)) (loaded (get all register)) ≡ Err status.TooLong)
    by_contents None first rose = rose_behind before between after still rose
    by_contents (Some all) first longer =
        ap (λ file. opened_by file (loaded (get all register))) (loaded_short (get all call) c first fits) ∙ ap (λ file. opened_by (Ok c) file) (loaded_long (get all register) longer)

pub second_failed : (before between after : ℕ) → before ≤ between → Rose between after → Rose before after
second_failed = rose_behind

-- Opening lines, or a refusal.

pub grammar_lines : (call register : Text) (lines : Lines) → opened call register ≡ Ok lines → by_grammar (opened call register) ≡ Ok lines
grammar_lines call register lines is = ap by_grammar is

pub grammar_refused : (call register : Text) (why : OpenFault) (s : Status) → opened call register ≡ Err why → status_of_refusal why ≡ s → by_grammar (opened call register) ≡ Err s
grammar_refused call register why s is refused = ap by_grammar is ∙ ap Err refused

pub few_opened : (lines : Lines) (register : Text) → length lines ≤ length register + 3 → length register ≤ MOST_BYTES → length lines + MOST_LINES < 2 ^ 64 - 1
few_opened lines register few fits = omega (arith, few, fits)

-- both files as they were loaded
pub opened_files : (contents : Option Contents) (call register c r : Text) (o : Opened) → IfSome contents (λ all. (loaded (get all call) ≡ Ok c) × (loaded (get all register) ≡ Ok r)) →
    IsOpened (by_grammar (opened c r)) o → IfSome contents (λ all. IsOpened (opening_of (held (call ∷ register ∷ []) all)) o)
unfolding opening_of
opened_files None call register c r o both is = tt
opened_files (Some all) call register c r o both is =
    subst (λ opening. IsOpened opening o) (sym (ap (λ file. opened_by file (loaded (get all register))) both.0 ∙ ap (λ file. opened_by (Ok c) file) both.1)) is

pub opened_long : (contents : Option Contents) (call register : Text) (before after : ℕ) →
    MatchOption contents (Rose before after) (λ all. opened_by (loaded (get all call)) (loaded (get all register)) ≡ Err status.TooLong) →
    IfSome contents (λ all. IsOpened (opening_of (held (call ∷ register ∷ []) all)) files_opened.TooLong)
unfolding opening_of
opened_long None call register before after long = tt
opened_long (Some all) call register before after long = long

pub long_counted : (P : Contents → Type 0) (contents : Option Contents) (before after : ℕ) → MatchOption contents (Rose before after) P → contents ≡ None → Rose before after
long_counted P None before after rose none = rose
long_counted P (Some all) before after long none = absurd (let wrong : Some all ≡ None = none in cc)

-- no grammar tells that a file is too long
never_long : (r : Result Lines OpenFault) → by_grammar r ≡ Err status.TooLong → ⊥
never_long (Ok lines) is = cc
never_long (Err fault.BadToml) is = cc
never_long (Err (fault.BadKey key)) is = cc
never_long (Err (fault.BadRegister number)) is = cc
never_long (Err fault.Memory) is = cc

pub read_files : (contents : Option Contents) (call register c r : Text) (result : Result Opened InputFault) → IfSome contents (λ all. (loaded (get all call) ≡ Ok c) × (loaded (get all register) ≡ Ok r)) →
    IfOk result (IsOpened (by_grammar (opened c r))) → IfOk result (λ o. IfSome contents (λ all. IsOpened (opening_of (held (call ∷ register ∷ []) all)) o))
read_files contents call register c r (Ok o) both is = opened_files contents call register c r o both is
read_files contents call register c r (Err e) both is = tt

pub read_long : (c r : Text) (result : Result Opened InputFault) (P : Type 0) → IfOk result (IsOpened (by_grammar (opened c r))) → IfOk result (λ o. o ≡ files_opened.TooLong → P)
read_long c r (Ok o) P is = λ long. absurd (never_long (opened c r) (subst (IsOpened (by_grammar (opened c r))) long is))
read_long c r (Err e) P is = tt
