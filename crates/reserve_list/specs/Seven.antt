-- A worked outcome: two seats, four draws, and seven applicants in two clusters of quotas 6/4 and 2/4, at the draw 2, at
-- which each cluster has one seat.
use Rattle.std.specs.Prelude.{ℕ, Bool, true, false, List, [], ◌∷◌, codes}
use Rattle.house_base.specs.Text.{Text}
use Rattle.house_model.specs.declared.outcome.ApplicantRow.{ApplicantRow}
use Rattle.house_model.specs.declared.outcome.ClusterRow.{ClusterRow}
use Rattle.house_model.specs.Report.{OutcomeParts}

-- an applicant of a person
abbrev pub member : Text → Text → ℕ → ℕ → ℕ → Bool → ApplicantRow
member name person cluster rank chance chosen =
    record { name = name; person = person; cluster = cluster; rank = rank; cents = 0; chance = chance; chosen = chosen }

abbrev pub seven_rows : List ApplicantRow
seven_rows =
    member (codes "a") (codes "a") 1 2 2 false ∷ member (codes "b") (codes "b") 2 1 2 true
    ∷ member (codes "c") (codes "c") 1 1 4 true ∷ member (codes "d") (codes "a") 1 4 0 false
    ∷ member (codes "e") (codes "e") 2 3 0 false ∷ member (codes "f") (codes "f") 1 3 0 false
    ∷ member (codes "g") (codes "g") 2 2 0 false ∷ []

abbrev pub two_rows : List ClusterRow
two_rows = record { cents = 3; quota = 6; seats = 1; filled = 1 } ∷ record { cents = 1; quota = 2; seats = 1; filled = 1 } ∷ []

unfoldable pub seven : OutcomeParts
seven = record {
  seats = 2;
  clusters = 2;
  reviews = 1;
  asides = record { form = 0; early = 0; late = 0; unknown = 0; unassigned = 0; range = 0 };
  draw = 2;
  den = 4;
  persons = 6;
  cluster_rows = two_rows;
  applicant_rows = seven_rows;
  empty = 0;
}
