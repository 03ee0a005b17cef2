-- What is first read of the text of an outcome: the names and the chances of its applicants.
use Rattle.std.proofs.Common.{◌≡◌, ℕ, Bool, true, false, cond, List, [], ◌∷◌, ◌++◌, length, map, filter, flat_map, Some, slice_get, option_map, refl, sym, ap, ◌∙◌, subst, inl, inr, append-nil, append_assoc}
use Rattle.std.specs.Prelude.{codes, decimal}
use Rattle.std.specs.List.{enumerate_from}
use Rattle.std.specs.Option.{option_map_or}
use Rattle.std.specs.Str.{bytes_eq}
use Rattle.std.proofs.lemmas.List.{map-id}
use Rattle.std.proofs.lemmas.List.Concat.{flat_map-append}
use Rattle.std.proofs.lemmas.List.Elements.{filter-append}
use Rattle.std.proofs.lemmas.List.Folds.{flat_map-map}
use Rattle.std.proofs.lemmas.Option.{slice_get-map}
use Rattle.house_base.specs.Name.{is_name}
use Rattle.house_base.specs.declared.answer.Asides.{Asides}
use Rattle.house_base.specs.Text.{Text}
use Rattle.house_base.proofs.InOrderLemmas.{In, In-append, map-In}
use Rattle.house_model.specs.declared.outcome.ApplicantRow.{ApplicantRow}
use Rattle.house_model.specs.declared.outcome.ClusterRow.{ClusterRow}
use Rattle.house_model.specs.Printed.{rows, is_on_applicant, applicant_rows, name_in, chance_in, chance_at}
use Rattle.house_model.specs.Report.{OutcomeParts, line_of, over, stand_alone, call_words, applicants_words, aside_words, draw_words, cluster_words, applicant_words, empty_words, report_head, cluster_lines, applicant_lines, report_body, outcome_text}
use Rattle.house_model.proofs.GroupLemmas.{filter-none, filter-all}
use Rattle.house_model.proofs.RowTextLemmas.{is_word, AreWords, rows-read}
use Rattle.house_model.proofs.WordLemmas.{word_of_name, word_of_number, word_of_quotient}

-- The rows of which the text is made: the first four, those of the clusters, of the applicants, and the last.

abbrev first_rows : OutcomeParts → List (List Text)
first_rows o = call_words o ∷ applicants_words o ∷ aside_words o.asides ∷ draw_words o ∷ []

abbrev clusters : OutcomeParts → List (List Text)
clusters o = map (λ e. cluster_words o.den e.0 e.1) (enumerate_from 1 o.cluster_rows)

abbrev applicants : OutcomeParts → List (List Text)
applicants o = map (applicant_words o.den) o.applicant_rows

abbrev all_rows : OutcomeParts → List (List Text)
all_rows o = first_rows o ++ (clusters o ++ (applicants o ++ empty_words o ∷ []))

front_and_more : (a b c d rest : Text) → (a ++ b ++ c ++ d) ++ rest ≡ a ++ (b ++ (c ++ (d ++ rest)))
front_and_more a b c d rest =
    append_assoc (a ++ b ++ c) d rest ∙ (append_assoc (a ++ b) c (d ++ rest) ∙ append_assoc a b (c ++ (d ++ rest)))

made_of_rows : (o : OutcomeParts) → outcome_text o ≡ flat_map line_of (all_rows o)
unfolding outcome_text report_head report_body cluster_lines applicant_lines
made_of_rows o =
    let of_clusters = flat_map-map line_of (λ (e : ℕ × ClusterRow). cluster_words o.den e.0 e.1) (enumerate_from 1 o.cluster_rows) in
    let of_applicants = flat_map-map line_of (applicant_words o.den) o.applicant_rows in
    let of_body : flat_map line_of (clusters o ++ (applicants o ++ empty_words o ∷ [])) ≡ report_body o =
    flat_map-append line_of (clusters o) (applicants o ++ empty_words o ∷ [])
    ∙ (ap (λ t. flat_map line_of (clusters o) ++ t) (flat_map-append line_of (applicants o) (empty_words o ∷ []))
    ∙ (ap (λ t. flat_map line_of (clusters o) ++ (flat_map line_of (applicants o) ++ t)) (append-nil (line_of (empty_words o)))
    ∙ (sym (append_assoc (flat_map line_of (clusters o)) (flat_map line_of (applicants o)) (line_of (empty_words o)))
    ∙ (λ i. (of_clusters i ++ of_applicants i) ++ line_of (empty_words o))))) in
    front_and_more (line_of (call_words o)) (line_of (applicants_words o)) (line_of (aside_words o.asides)) (line_of (draw_words o)) (report_body o)
    ∙ ap (λ t. line_of (call_words o) ++ (line_of (applicants_words o) ++ (line_of (aside_words o.asides) ++ (line_of (draw_words o) ++ t)))) (sym of_body)

-- All of them are made of words.

-- the names in the rows of the applicants are of their form
abbrev pub HaveFormedNames : List ApplicantRow → Type 0
HaveFormedNames those = (row : ApplicantRow) → In row those → (is_name row.name ≡ true) × (is_name row.person ≡ true)

call_are_words : (o : OutcomeParts) → AreWords (call_words o)
unfolding call_words
call_are_words o = (refl, (word_of_number o.seats, (word_of_number o.clusters, (word_of_number o.reviews, tt))))

applicants_are_words : (o : OutcomeParts) → AreWords (applicants_words o)
unfolding applicants_words
applicants_are_words o = (refl, (word_of_number (length o.applicant_rows), by (stand_alone o.applicant_rows))) where
  by : (alone : Bool) → AreWords (cond alone [] (codes "persons" ∷ decimal o.persons ∷ []))
  by true = tt
  by false = (refl, (word_of_number o.persons, tt))

aside_are_words : (a : Asides) → AreWords (aside_words a)
unfolding aside_words
aside_are_words a =
    (refl, (word_of_number a.form, (word_of_number a.early, (word_of_number a.late, (word_of_number a.unknown, (word_of_number a.unassigned, (word_of_number a.range, tt)))))))

draw_are_words : (o : OutcomeParts) → AreWords (draw_words o)
unfolding draw_words
draw_are_words o = (refl, (word_of_quotient o.draw o.den, tt))

cluster_are_words : (den number : ℕ) (row : ClusterRow) → AreWords (cluster_words den number row)
unfolding cluster_words
cluster_are_words den number row =
    (refl, (word_of_number number, (refl, (word_of_number row.cents, (refl, (word_of_quotient row.quota den, (refl, (word_of_number row.seats, (refl, (word_of_number row.filled, tt))))))))))

yes_or_no : (chosen : Bool) → is_word (cond chosen (codes "yes") (codes "no")) ≡ true
yes_or_no true = refl
yes_or_no false = refl

-- the words on an applicant behind the names
abbrev behind_names : ℕ → ApplicantRow → List Text
behind_names den row = codes "cluster" ∷ decimal row.cluster ∷ codes "rank" ∷ decimal row.rank ∷ codes "cents" ∷ decimal row.cents
    ∷ codes "chance" ∷ over row.chance den ∷ cond row.chosen (codes "yes") (codes "no") ∷ []

behind_are_words : (den : ℕ) (row : ApplicantRow) → AreWords (behind_names den row)
behind_are_words den row =
    (refl, (word_of_number row.cluster, (refl, (word_of_number row.rank, (refl, (word_of_number row.cents, (refl, (word_of_quotient row.chance den, (yes_or_no row.chosen, tt)))))))))

applicant_are_words : (den : ℕ) (row : ApplicantRow) → is_name row.name ≡ true → is_name row.person ≡ true → AreWords (applicant_words den row)
unfolding applicant_words
applicant_are_words den row name person = (refl, (word_of_name row.name name, by (bytes_eq row.name row.person))) where
  by : (own : Bool) → AreWords (cond own [] (codes "person" ∷ row.person ∷ []) ++ behind_names den row)
  by true = behind_are_words den row
  by false = (refl, (word_of_name row.person person, behind_are_words den row))

empty_are_words : (o : OutcomeParts) → AreWords (empty_words o)
unfolding empty_words
empty_are_words o = (refl, (word_of_number o.empty, tt))

have_words : (o : OutcomeParts) → HaveFormedNames o.applicant_rows → (row : List Text) → In row (all_rows o) → AreWords row
have_words o formed row m = elim m [
  | inl e ↦ same e (call_are_words o)
  | inr m ↦ elim m [
    | inl e ↦ same e (applicants_are_words o)
    | inr m ↦ elim m [
      | inl e ↦ same e (aside_are_words o.asides)
      | inr m ↦ elim m [
        | inl e ↦ same e (draw_are_words o)
        | inr m ↦ elim (In-append row (clusters o) (applicants o ++ empty_words o ∷ []) m) [
          | inl m ↦ let at = map-In (λ (e : ℕ × ClusterRow). cluster_words o.den e.0 e.1) row (enumerate_from 1 o.cluster_rows) m in
              same at.2 (cluster_are_words o.den at.0.0 at.0.1)
          | inr m ↦ elim (In-append row (applicants o) (empty_words o ∷ []) m) [
            | inl m ↦ let at = map-In (applicant_words o.den) row o.applicant_rows m in
                let names = formed at.0 at.1 in
                same at.2 (applicant_are_words o.den at.0 names.0 names.1)
            | inr m ↦ elim m [ inl e ↦ same e (empty_are_words o) | inr none ↦ absurd none ]
          ]
        ]
      ]
    ]
  ]
]
  where
    same : {other : List Text} → row ≡ other → AreWords other → AreWords row
    same {other} e words = subst AreWords (sym e) words

rows-outcome : (o : OutcomeParts) → HaveFormedNames o.applicant_rows → rows (outcome_text o) ≡ all_rows o
rows-outcome o formed =
    ap rows (made_of_rows o) ∙ (rows-read (λ (row : List Text). row) (all_rows o) (have_words o formed) ∙ map-id (all_rows o))

-- Those of the applicants.

first_rows-other : (o : OutcomeParts) (rest : List (List Text)) → filter is_on_applicant (first_rows o ++ rest) ≡ filter is_on_applicant rest
unfolding call_words applicants_words aside_words draw_words
first_rows-other o rest = refl

clusters-other : (o : OutcomeParts) (row : List Text) → In row (clusters o) → is_on_applicant row ≡ false
unfolding cluster_words
clusters-other o row m =
    let at = map-In (λ (e : ℕ × ClusterRow). cluster_words o.den e.0 e.1) row (enumerate_from 1 o.cluster_rows) m in
    ap is_on_applicant at.2

applicants-on : (o : OutcomeParts) (row : List Text) → In row (applicants o) → is_on_applicant row ≡ true
unfolding applicant_words
applicants-on o row m =
    let at = map-In (applicant_words o.den) row o.applicant_rows m in
    ap is_on_applicant at.2

empty-other : (o : OutcomeParts) → filter is_on_applicant (empty_words o ∷ []) ≡ []
unfolding empty_words
empty-other o = refl

-- the rows of the applicants that are read are those of which the text was made
pub applicant_rows-outcome : (o : OutcomeParts) → HaveFormedNames o.applicant_rows → applicant_rows (outcome_text o) ≡ map (applicant_words o.den) o.applicant_rows
unfolding applicant_rows
applicant_rows-outcome o formed =
    ap (filter is_on_applicant) (rows-outcome o formed)
    ∙ (first_rows-other o (clusters o ++ (applicants o ++ empty_words o ∷ []))
    ∙ (filter-append is_on_applicant (clusters o) (applicants o ++ empty_words o ∷ [])
    ∙ (ap (λ l. l ++ filter is_on_applicant (applicants o ++ empty_words o ∷ [])) (filter-none is_on_applicant (clusters o) (clusters-other o))
    ∙ (filter-append is_on_applicant (applicants o) (empty_words o ∷ [])
    ∙ (ap (λ l. l ++ filter is_on_applicant (empty_words o ∷ [])) (filter-all is_on_applicant (applicants o) (applicants-on o))
    ∙ (ap (λ l. applicants o ++ l) (empty-other o) ∙ append-nil (applicants o)))))))

-- the name and the chance in such a row

name_in-applicant : (den : ℕ) (row : ApplicantRow) → name_in (applicant_words den row) ≡ row.name
unfolding applicant_words
name_in-applicant den row = refl

chance_in-applicant : (den : ℕ) (row : ApplicantRow) → chance_in (applicant_words den row) ≡ over row.chance den
unfolding applicant_words
chance_in-applicant den row = by (bytes_eq row.name row.person) where
  by : (own : Bool) → chance_in (codes "applicant" ∷ row.name ∷ cond own [] (codes "person" ∷ row.person ∷ []) ++ behind_names den row) ≡ over row.chance den
  by true = refl
  by false = refl

names-read : (den : ℕ) (those : List ApplicantRow) → map name_in (map (applicant_words den) those) ≡ map (λ row. row.name) those
names-read den [] = refl
names-read den (row ∷ those) =
    ap (λ t. t ∷ map name_in (map (applicant_words den) those)) (name_in-applicant den row) ∙ ap (λ ts. row.name ∷ ts) (names-read den those)

-- the names that are read are those of the rows, in their order
pub names-outcome : (o : OutcomeParts) → HaveFormedNames o.applicant_rows → map name_in (applicant_rows (outcome_text o)) ≡ map (λ row. row.name) o.applicant_rows
names-outcome o formed = ap (map name_in) (applicant_rows-outcome o formed) ∙ names-read o.den o.applicant_rows

-- the chance that is read at an index is that of the row there
pub chance_at-outcome : (o : OutcomeParts) (i : ℕ) (row : ApplicantRow) → HaveFormedNames o.applicant_rows → slice_get o.applicant_rows i ≡ Some row
    → chance_at (outcome_text o) i ≡ over row.chance o.den
unfolding chance_at
chance_at-outcome o i row formed at =
    ap (λ those. option_map_or chance_in (slice_get those i) []) (applicant_rows-outcome o formed)
    ∙ (ap (λ found. option_map_or chance_in found []) (slice_get-map (applicant_words o.den) o.applicant_rows i ∙ ap (option_map (applicant_words o.den)) at)
    ∙ chance_in-applicant o.den row)
