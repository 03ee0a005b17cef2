use Rattle.std.proofs.Common.{◌≡◌, ℕ, zero, suc, ◌-◌, ◌*◌, ◌<◌, eqb, min, List, [], ◌∷◌, ◌++◌, length, map, refl, sym, ap, ◌∙◌, arith, Some, None, Option}
use Rattle.std.specs.Prelude.{position}
use Rattle.std.specs.Option.{option_map_or}
use Rattle.std.proofs.lemmas.List.{map-append}
use Rattle.std.proofs.lemmas.List.Quantifiers.{position-Some}
use Rattle.house_base.specs.declared.answer.Asides.{Asides}
use Rattle.house_base.specs.declared.plan.Person.{Person}
use Rattle.house_base.specs.Setting.{Setting, IsSetting, size, cluster_at}
use Rattle.peer_selection.specs.Counting.{numbers_below}
use Rattle.peer_selection.specs.Laws.{IsAssigned}
use Rattle.peer_selection.specs.Profile.{Profile, denominator, quota, rank}
use Rattle.peer_selection.proofs.ClusterLemmas.{cluster_at-in_range, cumulative_quota-all, denominator-positive}
use Rattle.peer_selection.proofs.ChanceLemmas.{chance-exact}
use Rattle.house_model.specs.Report.{OutcomeParts, place_of_number, applicant_row, applicant_rows_of, outcome_of, outcome_text, report}
use Rattle.house_model.specs.declared.outcome.ApplicantRow.{ApplicantRow}

-- The report with its chances read off the quotas, so that no draw is tried.

-- the part of a cluster's quota that those of better rank leave an applicant, up to 1
abbrev pub part_of_quota : Profile → ℕ → ℕ
part_of_quota f place = min (denominator f.setting) (quota f (cluster_at f.setting place) - (rank f place - 1) * denominator f.setting)

-- an outcome with these rows of the applicants
abbrev pub with_rows : OutcomeParts → List ApplicantRow → OutcomeParts
with_rows o rows = record o { applicant_rows = rows }

abbrev pub row_by_quota : Profile → ℕ → ℕ → ApplicantRow
row_by_quota f v place = record (applicant_row f v place) { chance = part_of_quota f place }

abbrev pub rows_by_quota : Profile → ℕ → List ApplicantRow
rows_by_quota f v = map (λ number. row_by_quota f v (place_of_number f.setting number)) (numbers_below (size f.setting))

place_within : (people : List Person) (o : Option ℕ) (number : ℕ) → position (λ person. eqb person.number number) people ≡ o → 0 < length people → option_map_or (λ place. place) o 0 < length people
place_within people None number e some = some
place_within [] (Some i) number e some = absurd (omega arith)
place_within (p ∷ people) (Some i) number e some = (position-Some (λ person. eqb person.number number) (p ∷ people) i p e).0

-- a register number has a place
pub place_of_number-within : (s : Setting) (number : ℕ) → IsSetting s → place_of_number s number < size s
unfolding place_of_number
place_of_number-within s number h = place_within s.people (position (λ person. eqb person.number number) s.people) number refl h.some

-- the row of an applicant, with its chance read off the quota
row-by_quota : (f : Profile) (v place : ℕ) → IsAssigned f → place < size f.setting → applicant_row f v place ≡ row_by_quota f v place
unfolding applicant_row
row-by_quota f v place h l =
    let range = cluster_at-in_range f.setting place h.setting l in
    let exact = chance-exact f f.setting.clusters place (denominator-positive f h.setting) (cumulative_quota-all f h.setting h.valid) range.0 range.1 in
    ap (λ x. record (applicant_row f v place) { chance = x }) exact

map-same : {A : Type 0} (g h : ℕ → A) (n : ℕ) → ((i : ℕ) → i < n → g i ≡ h i) → map g (numbers_below n) ≡ map h (numbers_below n)
unfolding numbers_below
map-same g h zero e = refl
map-same g h (suc n) e =
    map-append g (numbers_below n) (n ∷ [])
    ∙ (ap (λ xs. xs ++ g n ∷ []) (map-same g h n (λ i l. e i (omega arith)))
    ∙ (ap (λ x. map h (numbers_below n) ++ x ∷ []) (e n (omega arith)) ∙ sym (map-append h (numbers_below n) (n ∷ []))))

rows-by_quota : (f : Profile) (v : ℕ) → IsAssigned f → applicant_rows_of f v ≡ rows_by_quota f v
unfolding applicant_rows_of
rows-by_quota f v h =
    map-same (λ number. applicant_row f v (place_of_number f.setting number)) (λ number. row_by_quota f v (place_of_number f.setting number)) (size f.setting)
    (λ number _. row-by_quota f v (place_of_number f.setting number) h (place_of_number-within f.setting number h.setting))

-- the outcome of a profile with these rows
abbrev pub outcome_by_quota : Profile → Asides → ℕ → OutcomeParts
outcome_by_quota f asides v = with_rows (outcome_of f asides v) (rows_by_quota f v)

-- the report, with its chances read off the quotas
pub report-by_quota : (f : Profile) (asides : Asides) (v : ℕ) → IsAssigned f → report f asides v ≡ outcome_text (outcome_by_quota f asides v)
unfolding report outcome_of
report-by_quota f asides v h = ap (λ rows. outcome_text (with_rows (outcome_of f asides v) rows)) (rows-by_quota f v h)
