-- What is told of a trial that is done.
use Rattle.std.specs.Prelude.{ℕ, [], ◌∷◌, ◌++◌, codes, decimal, length, sum_by}
use Rattle.house_base.specs.Text.{Text}
use Rattle.house_model.specs.Report.{OutcomeParts, line_of, over}

-- the filled seats of all clusters
abbrev pub all_filled : OutcomeParts → ℕ
all_filled o = sum_by (λ row. row.filled) o.cluster_rows

-- the chances of all applicants
abbrev pub all_chances : OutcomeParts → ℕ
all_chances o = sum_by (λ row. row.chance) o.applicant_rows

-- the text of a trial of a seed with so many lines, by its outcome: no line names an applicant
unfoldable pub trial_text : ℕ → ℕ → OutcomeParts → Text
trial_text seed lines o =
    line_of (codes "trial" ∷ decimal seed ∷ []) ++ line_of (codes "lines" ∷ decimal lines ∷ [])
    ++ line_of (codes "applicants" ∷ decimal (length o.applicant_rows) ∷ [])
    ++ line_of
    (codes "seats" ∷ decimal o.seats ∷ codes "filled" ∷ decimal (all_filled o) ∷ codes "empty" ∷ decimal o.empty ∷ [])
    ++ line_of (codes "chances" ∷ over (all_chances o) o.den ∷ [])
