-- How many rows a file of the form has.
use Rattle.std.proofs.Common.{◌≡◌, ℕ, zero, suc, ◌+◌, ◌<◌, ◌≤◌, Bool, true, false, cond, ◌&&◌, List, [], ◌∷◌, ◌++◌, length, get_or, take, Option, Some, None, Ok, refl, sym, ap, ◌∙◌, subst, arith, take_all}
use Rattle.std.specs.Prelude.{is_some}
use Rattle.std.proofs.lemmas.Bool.{true≢false}
use Rattle.std.proofs.lemmas.List.{take_more}
use Rattle.serde_json.specs.Data.{Data}
use Rattle.house_base.specs.Text.{Text}
use Rattle.house_model.specs.Text.{Lines, is_empty}
use Rattle.audit_chain.specs.File.{first_misfit, fits_behind, lines_held, rest, rows}
use Rattle.audit_chain.specs.Form.{is_report_value, value_of, version_in}
use Rattle.audit_chain.specs.Reading.{HasRead, line_added}
use Rattle.audit_chain.proofs.HeldLemmas.{held_all, held_at, held_no_rows, holds}
use Rattle.audit_chain.proofs.PlaceLemmas.{all_fit}
use Rattle.audit_chain.proofs.ReadingLemmas.{header_read, no_value_fits, nothing_fits, row_read, value_fits}

-- some version, lines and end
abbrev SomeRead : List Text → Type 0
SomeRead rs = (version : ℕ) × (lines : Lines) × (ended : Bool) × HasRead rs version lines ended

first_read : (row : Text) → fits_behind [] row ≡ true → SomeRead (row ∷ [])
first_read row fits = go (version_in row) refl fits
  where
    go : (o : Option ℕ) → version_in row ≡ o → is_some o ≡ true → SomeRead (row ∷ [])
    go None is h = cc
    go (Some version) is h = (version, [], false, header_read row version is)

more_read : (rs : List Text) (row : Text) → SomeRead rs → fits_behind rs row ≡ true → SomeRead (rs ++ row ∷ [])
more_read rs row (version, lines, true, read) fits = absurd (true≢false (sym fits ∙ nothing_fits rs version lines row read))
more_read rs row (version, lines, false, read) fits = go (value_of row) refl
  where
    go : (o : Option Data) → value_of row ≡ o → SomeRead (rs ++ row ∷ [])
    go None is = absurd (true≢false (sym fits ∙ no_value_fits rs version lines row read is))
    go (Some value) is = (
      version,
      lines ++ line_added version value,
      is_report_value value,
      row_read rs version lines row value read is (sym (value_fits rs version lines row value read is) ∙ fits),
    )

rows_read : (row : Text) (more : List Text) → first_misfit (row ∷ more) ≡ None → (n : ℕ) → n ≤ length more → SomeRead (take (n + 1) (row ∷ more))
rows_read row more none zero within = first_read row (all_fit (row ∷ more) none 0 (omega arith))
rows_read row more none (suc n) within =
    let rs = row ∷ more in
    let below : n + 1 < length rs = omega (arith, within) in
    let read = more_read (take (n + 1) rs) (get_or rs (n + 1) []) (rows_read row more none n (omega (arith, within))) (all_fit rs none (n + 1) below) in
    let next : (n + 1) + 1 ≡ suc n + 1 = omega arith in
    subst SomeRead (sym (take_more rs (n + 1) [] below) ∙ ap (λ k. take k rs) next) read

counted : (bytes : Text) (lines held : Lines) (version : ℕ) (ended : Bool) → HasRead (rows bytes) version held ended → lines_held bytes ≡ Ok lines →
    length (rows bytes) ≡ length lines + 2
counted bytes lines held version ended read is = go ended (is_empty (rest bytes)) read (sym (held_all bytes (rows bytes) (rest bytes) version held ended refl refl read) ∙ is)
  where
    go : (e whole : Bool) → HasRead (rows bytes) version held e → holds (cond (e && whole) None (Some (length (rows bytes)))) held ≡ Ok lines → length (rows bytes) ≡ length lines + 2
    go true true read same = let lines_are : held ≡ lines = cc in read.count ∙ ap (λ ls. length ls + 2) lines_are
    go true false read same = absurd (let wrong : ⊥ = cc in wrong)
    go false whole read same = absurd (let wrong : ⊥ = cc in wrong)

pub rows_counted : (bytes : Text) (lines : Lines) → lines_held bytes ≡ Ok lines → length (rows bytes) ≡ length lines + 2
rows_counted bytes lines is = by_misfit (first_misfit (rows bytes)) refl
  where
    by_rows : (rs : List Text) → rows bytes ≡ rs → first_misfit rs ≡ None → length (rows bytes) ≡ length lines + 2
    by_rows [] are none = absurd (let err = held_no_rows bytes are in let wrong : ⊥ = cc in wrong)
    by_rows (row ∷ more) are none =
        let read = subst SomeRead (take_all (length more + 1) (row ∷ more) (omega arith) ∙ sym are) (rows_read row more none (length more) (omega arith)) in
        counted bytes lines read.1 read.0 read.2 read.3 is

    by_misfit : (o : Option ℕ) → first_misfit (rows bytes) ≡ o → length (rows bytes) ≡ length lines + 2
    by_misfit None none = by_rows (rows bytes) refl none
    by_misfit (Some place) found = absurd (let err = held_at bytes place found in let wrong : ⊥ = cc in wrong)
