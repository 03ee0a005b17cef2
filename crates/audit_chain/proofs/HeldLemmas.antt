-- What a file holds, from the rows that were cut off its front.
use Rattle.std.proofs.Common.{◌≡◌, ℕ, ◌+◌, Bool, true, false, cond, ◌&&◌, List, [], ◌∷◌, ◌++◌, length, Option, Some, None, Result, Ok, Err, refl, ap, ap₂, ◌∙◌, append-nil}
use Rattle.std.specs.Prelude.{is_some, option_map, ok_or}
use Rattle.std.specs.Option.{option_map_or, option_or}
use Rattle.house_base.specs.Text.{Text}
use Rattle.house_model.specs.Text.{Lines, is_empty}
use Rattle.audit_chain.specs.File.{bad_row, first_misfit, fits_behind, is_reported, lines_held, lines_of, parts, rest, rows, version_held, version_of}
use Rattle.audit_chain.specs.Form.{version_in}
use Rattle.audit_chain.specs.Reading.{HasRead}
use Rattle.audit_chain.specs.declared.fault.RowFault.{RowFault}
use Rattle.audit_chain.specs.declared.fault.RowFault.TheVariants.{BadRow}
use Rattle.audit_chain.proofs.PartLemmas.{rest_cut, rest_of_none, rows_cut, rows_first, rows_of_none}
use Rattle.audit_chain.proofs.PlaceLemmas.{misfit_is_first}

abbrev pub holds : Option ℕ → Lines → Result Lines RowFault
holds bad lines = option_map_or (λ row. Err (BadRow row)) (option_map (λ i. i + 1) bad) (Ok lines)

-- where the first row that does not fit is found
pub held_at : (bytes : Text) (place : ℕ) → first_misfit (rows bytes) ≡ Some place → lines_held bytes ≡ Err (BadRow (place + 1))
unfolding lines_held bad_row
held_at bytes place found =
    ap (λ o. holds (option_or o (cond (is_reported (rows bytes) && is_empty (rest bytes)) None (Some (length (rows bytes))))) (lines_of (rows bytes))) found

-- where all rows were cut off, and fit
pub held_all : (bytes : Text) (taken : List Text) (left : Text) (version : ℕ) (lines : Lines) (ended : Bool) →
    rows bytes ≡ taken → rest bytes ≡ left → HasRead taken version lines ended →
    lines_held bytes ≡ holds (cond (ended && is_empty left) None (Some (length taken))) lines
unfolding lines_held bad_row
held_all bytes taken left version lines ended all behind read =
    ap₂ (λ rs r. holds (option_or (first_misfit rs) (cond (is_reported rs && is_empty r) None (Some (length rs)))) (lines_of rs)) all behind
    ∙ ap₂ (λ o e. holds (option_or o (cond (e && is_empty left) None (Some (length taken)))) (lines_of taken)) read.all_fit read.ended_is
    ∙ ap (holds (cond (ended && is_empty left) None (Some (length taken)))) read.lines_are

-- a row that does not fit behind those cut off
pub held_misfit : (bytes : Text) (taken : List Text) (left row after : Text) → parts bytes ≡ taken ++ parts left → parts left ≡ row ∷ parts after →
    first_misfit taken ≡ None → fits_behind taken row ≡ false → lines_held bytes ≡ Err (BadRow (length taken + 1))
held_misfit bytes taken left row after cut next fit misfit =
    held_at bytes (length taken)
    (ap first_misfit (rows_cut bytes taken left cut ∙ ap (λ rs. taken ++ rs) (rows_first left row after next)) ∙ misfit_is_first taken row (rows after) fit misfit)

at_end : (bytes : Text) (taken : List Text) (left : Text) (version : ℕ) (lines : Lines) (ended : Bool) → parts bytes ≡ taken ++ parts left → parts left ≡ left ∷ [] →
    HasRead taken version lines ended → lines_held bytes ≡ holds (cond (ended && is_empty left) None (Some (length taken))) lines
at_end bytes taken left version lines ended cut alone read =
    held_all bytes taken left version lines ended
    (rows_cut bytes taken left cut ∙ ap (λ rs. taken ++ rs) (rows_of_none left alone) ∙ append-nil taken)
    (rest_cut bytes taken left cut ∙ rest_of_none left alone)
    read

-- nothing behind the report
pub held_whole : (bytes : Text) (taken : List Text) (left : Text) (version : ℕ) (lines : Lines) (ended : Bool) → parts bytes ≡ taken ++ parts left → parts left ≡ left ∷ [] →
    (ended && is_empty left) ≡ true → HasRead taken version lines ended → lines_held bytes ≡ Ok lines
held_whole bytes taken left version lines ended cut alone whole read =
    at_end bytes taken left version lines ended cut alone read ∙ ap (λ b. holds (cond b None (Some (length taken))) lines) whole

-- the file ends without its report, or something stands behind it
pub held_in_part : (bytes : Text) (taken : List Text) (left : Text) (version : ℕ) (lines : Lines) (ended : Bool) → parts bytes ≡ taken ++ parts left → parts left ≡ left ∷ [] →
    (ended && is_empty left) ≡ false → HasRead taken version lines ended → lines_held bytes ≡ Err (BadRow (length taken + 1))
held_in_part bytes taken left version lines ended cut alone part read =
    at_end bytes taken left version lines ended cut alone read ∙ ap (λ b. holds (cond b None (Some (length taken))) lines) part

-- no row at all
pub held_no_rows : (bytes : Text) → rows bytes ≡ [] → lines_held bytes ≡ Err (BadRow 1)
unfolding lines_held bad_row first_misfit
held_no_rows bytes none =
    ap (λ rs. holds (option_or (first_misfit rs) (cond (is_reported rs && is_empty (rest bytes)) None (Some (length rs)))) (lines_of rs)) none

pub held_none : (bytes : Text) → parts bytes ≡ bytes ∷ [] → lines_held bytes ≡ Err (BadRow 1)
held_none bytes alone = held_no_rows bytes (rows_of_none bytes alone)

-- a first row that is no header
pub held_no_header : (bytes row behind : Text) → parts bytes ≡ row ∷ parts behind → version_in row ≡ None → lines_held bytes ≡ Err (BadRow 1)
unfolding first_misfit
held_no_header bytes row behind cut none = held_misfit bytes [] bytes row behind refl cut refl (ap is_some none)

-- the version
pub version_first : (bytes row behind : Text) → parts bytes ≡ row ∷ parts behind → version_held bytes ≡ ok_or (version_in row) (BadRow 1)
unfolding version_held
version_first bytes row behind cut = ap (λ rs. ok_or (version_of rs) (BadRow 1)) (rows_first bytes row behind cut)

pub version_none : (bytes : Text) → parts bytes ≡ bytes ∷ [] → version_held bytes ≡ Err (BadRow 1)
unfolding version_held
version_none bytes alone = ap (λ rs. ok_or (version_of rs) (BadRow 1)) (rows_of_none bytes alone)
