use Rattle.std.specs.Prelude.{ℕ, ◌+◌, Bool, List, [], ◌∷◌, ◌++◌, length, map, find, position, flat_map, decimal, codes, ◌&&◌, ◌==◌, nat_le, nat_lt, if◌then◌else◌}
use Rattle.std.specs.List.{join_with_byte, list_all, enumerate_from}
use Rattle.std.specs.Option.{option_map_or}
use Rattle.std.specs.Str.{bytes_eq}
use Rattle.house_base.specs.Answer.{reason_word}
use Rattle.house_base.specs.declared.answer.Asides.{Asides}
use Rattle.house_base.specs.declared.answer.Reason.{Reason}
use Rattle.house_base.specs.Setting.{Setting, size, cluster_at, name_at}
use Rattle.peer_selection.specs.Counting.{numbers_below}
use Rattle.peer_selection.specs.Profile.{Profile, denominator, score, cluster_cents, quota, rank}
use Rattle.peer_selection.specs.Lottery.{seats, filled, empty_seats, selected, chance}
use Rattle.house_model.specs.declared.outcome.ClusterRow.{ClusterRow}
use Rattle.house_model.specs.declared.outcome.ApplicantRow.{ApplicantRow}

-- The parts of an outcome: the numbers of the call, the review lines set aside, the draw, the common
-- denominator, the number of persons, the rows of the clusters in rising number and of the applicants in
-- register order, and the seats that stay empty.
pub record OutcomeParts : Type 0 where
  pub seats : ℕ
  pub clusters : ℕ
  pub reviews : ℕ
  pub asides : Asides
  pub draw : ℕ
  pub den : ℕ
  pub persons : ℕ
  pub cluster_rows : List ClusterRow
  pub applicant_rows : List ApplicantRow
  pub empty : ℕ

-- The text of an outcome.

-- the line of these words: one space between them, and an LF at its end
unfoldable pub line_of : List (List ℕ) → List ℕ
line_of words = join_with_byte 32 words ++ 10 ∷ []

-- x/y
unfoldable pub over : ℕ → ℕ → List ℕ
over x y = decimal x ++ 47 ∷ decimal y

-- whether each applicant is its own person
unfoldable pub stand_alone : List ApplicantRow → Bool
stand_alone rows = list_all (λ row. bytes_eq row.name row.person) rows

-- the words on the numbers of the call
unfoldable pub call_words : OutcomeParts → List (List ℕ)
call_words o = codes "call" ∷ decimal o.seats ∷ decimal o.clusters ∷ decimal o.reviews ∷ []

-- the words on how many applicants there are, and how many persons where not each applicant is its own
unfoldable pub applicants_words : OutcomeParts → List (List ℕ)
applicants_words o = codes "applicants" ∷ decimal (length o.applicant_rows)
    ∷ (if stand_alone o.applicant_rows then [] else codes "persons" ∷ decimal o.persons ∷ [])

-- the words on the review lines set aside, kind by kind
unfoldable pub aside_words : Asides → List (List ℕ)
aside_words a = codes "aside" ∷ decimal a.form ∷ decimal a.early ∷ decimal a.late
    ∷ decimal a.unknown ∷ decimal a.unassigned ∷ decimal a.range ∷ []

-- the words on the draw
unfoldable pub draw_words : OutcomeParts → List (List ℕ)
draw_words o = codes "draw" ∷ over o.draw o.den ∷ []

-- the words on the cluster with a number, whose quota is over a denominator
unfoldable pub cluster_words : ℕ → ℕ → ClusterRow → List (List ℕ)
cluster_words den number row = codes "cluster" ∷ decimal number ∷ codes "cents" ∷ decimal row.cents
    ∷ codes "quota" ∷ over row.quota den
    ∷ codes "seats" ∷ decimal row.seats ∷ codes "filled" ∷ decimal row.filled ∷ []

-- the words on an applicant, whose chance is over a denominator
unfoldable pub applicant_words : ℕ → ApplicantRow → List (List ℕ)
applicant_words den row =
    (codes "applicant" ∷ row.name ∷ [])
    ++ (if bytes_eq row.name row.person then [] else codes "person" ∷ row.person ∷ [])
    ++ (codes "cluster" ∷ decimal row.cluster ∷ codes "rank" ∷ decimal row.rank ∷ codes "cents" ∷ decimal row.cents
    ∷ codes "chance" ∷ over row.chance den ∷ (if row.chosen then codes "yes" else codes "no") ∷ [])

-- the words on the seats that stay empty
unfoldable pub empty_words : OutcomeParts → List (List ℕ)
empty_words o = codes "empty" ∷ decimal o.empty ∷ []

-- the first four lines: the call, the applicants, what was set aside, the draw
unfoldable pub report_head : OutcomeParts → List ℕ
report_head o =
    line_of (call_words o)
    ++ line_of (applicants_words o)
    ++ line_of (aside_words o.asides)
    ++ line_of (draw_words o)

-- the lines of the clusters, which are numbered from 1
unfoldable pub cluster_lines : ℕ → List ClusterRow → List ℕ
cluster_lines den rows = flat_map (λ e. line_of (cluster_words den e.0 e.1)) (enumerate_from 1 rows)

-- the lines of the applicants
unfoldable pub applicant_lines : ℕ → List ApplicantRow → List ℕ
applicant_lines den rows = flat_map (λ row. line_of (applicant_words den row)) rows

-- the other lines: the clusters in rising number, the applicants in register order, the empty seats
unfoldable pub report_body : OutcomeParts → List ℕ
report_body o =
    cluster_lines o.den o.cluster_rows
    ++ applicant_lines o.den o.applicant_rows
    ++ line_of (empty_words o)

-- the report of an outcome
unfoldable pub outcome_text : OutcomeParts → List ℕ
outcome_text o = report_head o ++ report_body o

-- the words on a refusal at a line, counted from 1
abbrev pub refused_words : ℕ → Reason → List (List ℕ)
refused_words line reason = codes "refused" ∷ decimal line ∷ reason_word reason ∷ []

-- The outcome of a profile at a draw.

-- the name of the person to whom the applicant at a place belongs
unfoldable pub person_at : Setting → ℕ → List ℕ
person_at s place = option_map_or (λ owner. owner.name)
    (find (λ owner. nat_le owner.first place && nat_lt place (owner.first + owner.own)) s.owners) []

-- the place of a register number
unfoldable pub place_of_number : Setting → ℕ → ℕ
place_of_number s number = option_map_or (λ place. place) (position (λ person. person.number == number) s.people) 0

-- the row of the cluster with a number, and that of the applicant at a place
unfoldable pub cluster_row : Profile → ℕ → ℕ → ClusterRow
cluster_row f v j = record { cents = cluster_cents f j; quota = quota f j; seats = seats f j v; filled = filled f j v }

unfoldable pub applicant_row : Profile → ℕ → ℕ → ApplicantRow
applicant_row f v place = record {
  name = name_at f.setting place;
  person = person_at f.setting place;
  cluster = cluster_at f.setting place;
  rank = rank f place;
  cents = score f place;
  chance = chance f place;
  chosen = selected f place v;
}

-- the rows of the clusters, in rising number, and of the applicants, in register order
unfoldable pub cluster_rows_of : Profile → ℕ → List ClusterRow
cluster_rows_of f v = map (λ i. cluster_row f v (i + 1)) (numbers_below f.setting.clusters)

unfoldable pub applicant_rows_of : Profile → ℕ → List ApplicantRow
applicant_rows_of f v =
    map (λ number. applicant_row f v (place_of_number f.setting number)) (numbers_below (size f.setting))

-- the outcome of a profile at a draw, with these review lines set aside
unfoldable pub outcome_of : Profile → Asides → ℕ → OutcomeParts
outcome_of f asides v = record {
  seats = f.setting.seats;
  clusters = f.setting.clusters;
  reviews = f.setting.reviews;
  asides = asides;
  draw = v;
  den = denominator f.setting;
  persons = length f.setting.owners;
  cluster_rows = cluster_rows_of f v;
  applicant_rows = applicant_rows_of f v;
  empty = empty_seats f v;
}

-- the report of a profile at a draw: that of the outcome which the definitions give
unfoldable pub report : Profile → Asides → ℕ → List ℕ
report f asides v = outcome_text (outcome_of f asides v)
