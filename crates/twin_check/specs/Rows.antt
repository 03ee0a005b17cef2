-- What the rows of an outcome have of one person.
use Rattle.std.specs.Prelude.{ℕ, List, filter, map, if◌then◌else◌}
use Rattle.std.specs.Str.{bytes_eq}
use Rattle.house_base.specs.Text.{Text}
use Rattle.house_model.specs.declared.outcome.ApplicantRow.{ApplicantRow}
use Rattle.house_model.specs.Report.{OutcomeParts}
use Rattle.house_model.specs.Text.{is_empty}
use Rattle.twin_check.specs.declared.half.Half.{Half}
use Rattle.twin_check.specs.declared.half.Half.TheVariants as half
use Rattle.twin_check.specs.Half.{chances_of}

-- the chances in the rows of a person's applicants
unfoldable pub chances_in : Text → List ApplicantRow → List ℕ
chances_in name rows = map (λ row. row.chance) (filter (λ row. bytes_eq row.person name) rows)

-- what an outcome has of a person
unfoldable pub half_in : Text → OutcomeParts → Half
half_in name o =
    if is_empty (chances_in name o.applicant_rows) then half.Unlisted
    else half.Chances (chances_of (chances_in name o.applicant_rows)) o.den
