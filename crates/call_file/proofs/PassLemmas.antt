-- A pass over the register, record by record.
use Rattle.std.proofs.Common.{◌≡◌, ◌≢◌, ℕ, ◌+◌, Bool, true, false, cond, not, ◌&&◌, ◌==◌, List, [], ◌∷◌, ◌++◌, length, map, Some, refl, sym, ap, ◌∙◌, append_assoc}
use Rattle.std.specs.Prelude.{filter, is_some}
use Rattle.std.specs.List.{cons_option, list_all, list_any}
use Rattle.std.proofs.lemmas.Bool.{and_parts, eqb-true}
use Rattle.std.proofs.lemmas.List.{map-append}
use Rattle.house_base.specs.Name.{is_name}
use Rattle.house_model.specs.Text.{Lines, words}
use Rattle.command_text.specs.Printing.{command_line}
use Rattle.call_file.specs.declared.pass.Part.{Part}
use Rattle.call_file.specs.declared.pass.Part.TheVariants as part
use Rattle.call_file.specs.declared.settings.Version.{Version}
use Rattle.call_file.specs.declared.settings.Version.TheVariants as version
use Rattle.call_file.specs.Keys.{Said}
use Rattle.call_file.specs.Opening.{Place, applicant_of, commands_of, conflicts_of, each_once, place_command, place_of, places_of}
use Rattle.call_file.specs.Pass.{due, places_due}
use Rattle.call_file.specs.Records.{BeginsUneven}
use Rattle.call_file.specs.Register.{Fields, HasNoHeader, are_conflicts, bad_record, bad_record_below_header, cluster_field, cluster_fits, conflicts_field, entry_of, field, fits, is_header, names_columns, person_field, person_fits, width}

-- one more line, and those to come
one_more : (lines after : Lines) (x : List ℕ) (rest : Lines) → after ≡ lines ++ x ∷ [] → after ++ rest ≡ lines ++ x ∷ rest
one_more lines after x rest is = ap (λ ls. ls ++ rest) is ∙ append_assoc lines (x ∷ []) rest

module _ (v : Version) (old new : Place → Bool) (fields : Fields) (lines after : Lines) where
  pub applicant_pushed : after ≡ lines ++ command_line (applicant_of v fields) ∷ [] → (more : List Fields) →
      after ++ map command_line (due part.Applicants v new more) ≡ lines ++ map command_line (due part.Applicants v old (fields ∷ more))
  unfolding due commands_of
  applicant_pushed is more = one_more lines after (command_line (applicant_of v fields)) (map command_line (map (applicant_of v) more)) is

  pub conflicts_pushed : after ≡ lines ++ map command_line (conflicts_of v fields) → (more : List Fields) →
      after ++ map command_line (due part.Conflicts v new more) ≡ lines ++ map command_line (due part.Conflicts v old (fields ∷ more))
  unfolding due commands_of
  conflicts_pushed is more =
      ap (λ ls. ls ++ map command_line (commands_of part.Conflicts v more)) is
      ∙ append_assoc lines (map command_line (conflicts_of v fields)) (map command_line (commands_of part.Conflicts v more))
      ∙ ap (λ ls. lines ++ ls) (sym (map-append command_line (conflicts_of v fields) (commands_of part.Conflicts v more)))

  pub place_pushed : ((more : List Place) → after ++ map command_line (places_due v new more) ≡ lines ++ map command_line (places_due v old (cons_option (place_of (entry_of v fields)) more))) → (more : List Fields) →
      after ++ map command_line (due part.Places v new more) ≡ lines ++ map command_line (due part.Places v old (fields ∷ more))
  unfolding due
  place_pushed pushed more = pushed (places_of v more)

-- the first record that is off, behind one that is not
pub formed_behind : (said : Said) (number : ℕ) (fields : Fields) (rows : List Fields) → fits said fields ≡ true →
    bad_record_below_header said (number + 1) rows ≡ bad_record_below_header said number (fields ∷ rows)
formed_behind said number fields rows h = sym (ap (λ b. cond (not b) (Some number) (bad_record_below_header said (number + 1) rows)) h)

-- the first record that is off, where it is the first
pub off_here : (said : Said) (number : ℕ) (fields : Fields) (rows : List Fields) → fits said fields ≡ false →
    bad_record_below_header said number (fields ∷ rows) ≡ Some number
off_here said number fields rows h = ap (λ b. cond (not b) (Some number) (bad_record_below_header said (number + 1) rows)) h

keeps_all : (test : Place → Bool) → ((p : Place) → test p ≡ true) → (ps : List Place) → filter test ps ≡ ps
keeps_all test passes [] = refl
keeps_all test passes (p ∷ ps) = ap (λ b. cond b (p ∷ filter test ps) (filter test ps)) (passes p) ∙ ap (λ rest. p ∷ rest) (keeps_all test passes ps)

-- where nothing was given, all is due
pub all_due : (k : Part) (v : Version) (is_given : Place → Bool) (rows : List Fields) → ((p : Place) → is_given p ≡ false) → due k v is_given rows ≡ commands_of k v rows
unfolding due commands_of places_due
all_due part.Applicants v is_given rows none = refl
all_due part.Places version.First is_given rows none = refl
all_due part.Places version.Second is_given rows none =
    ap (map place_command) (keeps_all (λ p. not (is_given p)) (λ p. ap not (none p)) (each_once (places_of version.Second rows)))
all_due part.Conflicts v is_given rows none = refl

-- nothing is due of no records
pub none_due : (k : Part) (v : Version) (is_given : Place → Bool) → due k v is_given [] ≡ []
unfolding due commands_of places_due
none_due part.Applicants v is_given = refl
none_due part.Places version.First is_given = refl
none_due part.Places version.Second is_given = refl
none_due part.Conflicts v is_given = refl

-- the conflicts of a record that is of its form are names
pub conflicts_listed : (said : Said) (fields : Fields) → fits said fields ≡ true → list_all is_name (words (conflicts_field said.version fields)) ≡ true
unfolding fits
conflicts_listed said fields h =
    let listed = and_parts (length fields == width said.version && is_name (field fields 0) && person_fits (person_field said.version fields)
    && cluster_fits (is_some said.partition) (cluster_field said.version fields)) (are_conflicts (conflicts_field said.version fields)) h in
    (and_parts (not (list_any (λ b. b == 9) (conflicts_field said.version fields))) (list_all is_name (words (conflicts_field said.version fields))) listed.1).1

-- a header has the width of its version
pub header_width : (v : Version) (fields : Fields) → is_header v fields ≡ true → length fields ≡ width v
unfolding is_header
header_width v fields h = eqb-true (length fields) (width v) (and_parts (length fields == width v) (names_columns v fields) h).0

-- a record that is of its form has the width of its version
pub record_width : (said : Said) (fields : Fields) → fits said fields ≡ true → length fields ≡ width said.version
unfolding fits
record_width said fields h =
    let listed = and_parts (length fields == width said.version && is_name (field fields 0) && person_fits (person_field said.version fields)
    && cluster_fits (is_some said.partition) (cluster_field said.version fields)) (are_conflicts (conflicts_field said.version fields)) h in
    let placed = and_parts (length fields == width said.version && is_name (field fields 0) && person_fits (person_field said.version fields))
    (cluster_fits (is_some said.partition) (cluster_field said.version fields)) listed.0 in
    let owned = and_parts (length fields == width said.version && is_name (field fields 0)) (person_fits (person_field said.version fields)) placed.0 in
    eqb-true (length fields) (width said.version) (and_parts (length fields == width said.version) (is_name (field fields 0)) owned.0).0

-- a record of another width is not of its form
pub uneven_is_off : (said : Said) (fields : Fields) → length fields ≢ width said.version → fits said fields ≡ false
uneven_is_off said fields uneven = by_fit (fits said fields) refl where
  by_fit : (b : Bool) → fits said fields ≡ b → fits said fields ≡ false
  by_fit true h = absurd (uneven (record_width said fields h))
  by_fit false h = h

-- a first record of another width is the first that is off
pub off_first : (said : Said) (number : ℕ) (rows : List Fields) → BeginsUneven (Some (width said.version)) rows → bad_record_below_header said number rows ≡ Some number
off_first said number [] h = absurd h
off_first said number (fields ∷ rows) h = off_here said number fields rows (uneven_is_off said fields (λ e. h (sym e)))

-- the records behind the header
pub below_header : (said : Said) (header : Fields) (rows : List Fields) → is_header said.version header ≡ true → bad_record said (header ∷ rows) ≡ bad_record_below_header said 2 rows
below_header said header rows h = ap (λ b. cond b (bad_record_below_header said 2 rows) (Some 1)) h

-- where there is no header, record 1 is off
pub no_header : (said : Said) (rows : List Fields) → HasNoHeader said.version rows → bad_record said rows ≡ Some 1
no_header said [] h = refl
no_header said (fields ∷ rows) h = ap (λ b. cond b (bad_record_below_header said 2 rows) (Some 1)) h
