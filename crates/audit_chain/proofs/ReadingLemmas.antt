-- Rows that were taken in, and one more.
use Rattle.std.proofs.Common.{◌≡◌, ℕ, ◌+◌, ◌≤◌, Bool, true, false, cond, ◌&&◌, ◌||◌, ◌==◌, ◌-◌, not, List, [], ◌∷◌, ◌++◌, length, length-append, Option, Some, None, refl, sym, ap, ap₂, ◌∙◌, arith, append-nil}
use Rattle.std.specs.Prelude.{is_some, nat_lt, unwrap_or}
use Rattle.std.specs.Option.{option_and_then, option_map_or, option_to_list}
use Rattle.std.proofs.lemmas.Bool.{and_parts}
use Rattle.std.proofs.lemmas.Bool.Decides.{nat_tests}
use Rattle.std.proofs.lemmas.Grind.{flat_map-append}
use Rattle.std.proofs.lemmas.List.Folds.{list_any-append}
use Rattle.serde_json.specs.Data.{Data, Members}
use Rattle.serde_json.specs.Events.{members_len}
use Rattle.serde_json.specs.Find.{as_object}
use Rattle.house_base.specs.Text.{Text}
use Rattle.house_model.specs.Text.{Lines}
use Rattle.house_model.specs.declared.limits.TheConstants.{MOST_LINES}
use Rattle.audit_chain.specs.File.{first_misfit, fits_behind, is_reported, lines_of, version_of}
use Rattle.audit_chain.specs.Form.{has_members, is_line_value, is_report, is_report_value, line_in, line_named, value_of, version_in}
use Rattle.audit_chain.specs.Reading.{HasRead, fits_after, line_added}
use Rattle.audit_chain.proofs.PlaceLemmas.{one_more_fits}

no_misfit : first_misfit [] ≡ None
unfolding first_misfit
no_misfit = refl

-- a header alone
pub header_read : (row : Text) (version : ℕ) → version_in row ≡ Some version → HasRead (row ∷ []) version [] false
unfolding lines_of
header_read row version named =
    record {
      all_fit = one_more_fits [] row no_misfit (ap is_some named);
      version_is = named;
      lines_are = refl;
      ended_is = refl;
      count = refl;
      few = omega arith;
    }

-- what fits behind a header and rows of lines
abbrev fits_then : Bool → ℕ → ℕ → Text → Bool
fits_then ended count version row = not ended && (is_report row || (nat_lt count MOST_LINES && is_some (line_in version row)))

fits_is : (rows : List Text) (version : ℕ) (lines : Lines) (ended : Bool) (row : Text) → HasRead rows version lines ended →
    fits_behind rows row ≡ fits_then ended (length rows - 1) version row
fits_is [] version lines ended row read = absurd (nothing ended read.count)
  where
    nothing : (ended : Bool) → 0 ≡ length lines + cond ended 2 1 → ⊥
    nothing true h = omega arith
    nothing false h = omega arith
fits_is (first ∷ before) version lines ended row read =
    let count : length (first ∷ before) - 1 ≡ length before = omega arith in
    ap₂ (λ e v. fits_then e (length before) v row) read.ended_is (ap (λ o. unwrap_or o 0) read.version_is)
    ∙ ap (λ n. fits_then ended n version row) (sym count)

-- behind the report nothing fits
pub nothing_fits : (rows : List Text) (version : ℕ) (lines : Lines) (row : Text) → HasRead rows version lines true → fits_behind rows row ≡ false
nothing_fits rows version lines row read = fits_is rows version lines true row read

never : (b : Bool) → (b && false) ≡ false
never true = refl
never false = refl

-- nor does what is no value
pub no_value_fits : (rows : List Text) (version : ℕ) (lines : Lines) (row : Text) → HasRead rows version lines false → value_of row ≡ None → fits_behind rows row ≡ false
no_value_fits rows version lines row read none =
    fits_is rows version lines false row read ∙ rw none (never (nat_lt (length rows - 1) MOST_LINES))

-- what fits, from its value
pub value_fits : (rows : List Text) (version : ℕ) (lines : Lines) (row : Text) (value : Data) → HasRead rows version lines false → value_of row ≡ Some value →
    fits_behind rows row ≡ fits_after version lines value
value_fits rows version lines row value read is =
    let count : length rows - 1 ≡ length lines = omega (arith, read.count) in
    fits_is rows version lines false row read ∙ rw (is, count) refl

no_four : (o : Option Members) → option_map_or (λ members. members_len members == 1) o false ≡ true → option_map_or (λ members. members_len members == 4) o false ≡ false
no_four None h = refl
no_four (Some found) h = grind (arith, nat_tests)

-- the report says no line
pub report_says_none : (version : ℕ) (value : Data) → is_report_value value ≡ true → line_named version value ≡ None
unfolding is_report_value line_named is_line_value
report_says_none version value report = rw (no_four (as_object value) (and_parts (has_members 1 value) _ report).0) refl

added : (version : ℕ) (value : Data) (b : Bool) → is_report_value value ≡ b → option_to_list (line_named version value) ≡ cond b [] (option_to_list (line_named version value))
added version value true report = ap option_to_list (report_says_none version value report)
added version value false report = refl

lines_more : (rows : List Text) (version : ℕ) (lines : Lines) (row : Text) (value : Data) → HasRead rows version lines false → value_of row ≡ Some value →
    lines_of (rows ++ row ∷ []) ≡ lines ++ line_added version value
unfolding lines_of
lines_more [] version lines row value read is = absurd (omega (arith, read.count))
lines_more (first ∷ before) version lines row value read is =
    let says = λ (v : ℕ) (r : Text). option_to_list (line_in v r) in
    let named : unwrap_or (version_in first) 0 ≡ version = ap (λ o. unwrap_or o 0) read.version_is in
    flat_map-append (says (unwrap_or (version_in first) 0)) before (row ∷ [])
    ∙ ap₂ (λ (a b : Lines). a ++ b) read.lines_are
    (append-nil (says (unwrap_or (version_in first) 0) row) ∙ ap (λ v. says v row) named ∙ ap (λ o. option_to_list (option_and_then (line_named version) o)) is
    ∙ added version value (is_report_value value) refl)

version_stays : (rows : List Text) (version : ℕ) (row : Text) → version_of rows ≡ Some version → version_of (rows ++ row ∷ []) ≡ Some version
version_stays [] version row h = cc
version_stays (first ∷ before) version row h = h

or_false : (b : Bool) → (b || false) ≡ b
or_false true = refl
or_false false = refl

ended_more : (rows : List Text) (version : ℕ) (lines : Lines) (row : Text) (value : Data) → HasRead rows version lines false → value_of row ≡ Some value →
    is_reported (rows ++ row ∷ []) ≡ is_report_value value
ended_more [] version lines row value read is = absurd (omega (arith, read.count))
ended_more (first ∷ before) version lines row value read is =
    list_any-append is_report before (row ∷ []) ∙ ap (λ b. b || (is_report row || false)) read.ended_is ∙ or_false (is_report row)
    ∙ ap (λ o. option_map_or is_report_value o false) is

-- how many lines there are then
record Counted (count : ℕ) (lines added : Lines) (ended : Bool) : Type 0 where
  count_is : count + 1 ≡ length (lines ++ added) + cond ended 2 1
  few_are : length (lines ++ added) ≤ MOST_LINES

counted_line : (lines : Lines) (count : ℕ) (o : Option Text) → count ≡ length lines + 1 → (nat_lt (length lines) MOST_LINES && is_some o) ≡ true →
    Counted count lines (option_to_list o) false
counted_line lines count None is fits = absurd (let none = never (nat_lt (length lines) MOST_LINES) in let wrong : ⊥ = cc in wrong)
counted_line lines count (Some line) is fits =
    let more = length-append lines (line ∷ []) in
    record { count_is = omega (arith, more); few_are = grind (arith, nat_tests, more) }

counted : (lines : Lines) (count : ℕ) (b : Bool) (o : Option Text) → count ≡ length lines + 1 → length lines ≤ MOST_LINES →
    (b || (nat_lt (length lines) MOST_LINES && is_some o)) ≡ true → Counted count lines (cond b [] (option_to_list o)) b
counted lines count true o is few fits =
    let same = ap length (append-nil lines) in record { count_is = omega (arith, same); few_are = omega (arith, same) }
counted lines count false o is few fits = counted_line lines count o is fits

-- one more row that fits
pub row_read : (rows : List Text) (version : ℕ) (lines : Lines) (row : Text) (value : Data) → HasRead rows version lines false → value_of row ≡ Some value →
    fits_after version lines value ≡ true → HasRead (rows ++ row ∷ []) version (lines ++ line_added version value) (is_report_value value)
row_read rows version lines row value read is fits =
    let numbers = counted lines (length rows) (is_report_value value) (line_named version value) read.count read.few fits in
    record {
      all_fit = one_more_fits rows row read.all_fit (value_fits rows version lines row value read is ∙ fits);
      version_is = version_stays rows version row read.version_is;
      lines_are = lines_more rows version lines row value read is;
      ended_is = ended_more rows version lines row value read is;
      count = length-append rows (row ∷ []) ∙ numbers.count_is;
      few = numbers.few_are;
    }
