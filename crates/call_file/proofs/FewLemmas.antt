-- How many lines the records of a register add.
use Rattle.std.proofs.Common.{◌≡◌, ℕ, suc, ◌+◌, ◌≤◌, ◌<◌, ◌==◌, Bool, true, false, cond, not, ◌&&◌, List, [], ◌∷◌, ◌++◌, length, map, drop, Option, None, Some, refl, arith, length-append}
use Rattle.std.specs.Prelude.{is_some, option_map}
use Rattle.std.specs.List.{cons_option, flat_map}
use Rattle.std.specs.Option.{option_to_list}
use Rattle.std.proofs.lemmas.Bool.{and_parts, eqb-true}
use Rattle.std.proofs.lemmas.List.{length-map}
use Rattle.csv.specs.Reading.{default_config, strip_bom}
use Rattle.csv.specs.Records.{field_at}
use Rattle.csv.specs.declared.parser.State.TheVariants as st
use Rattle.house_base.specs.Name.{is_name}
use Rattle.house_base.specs.Number.{number_up_to}
use Rattle.house_base.specs.declared.limits.TheConstants.{MOST_CLUSTERS}
use Rattle.house_base.specs.Text.{Text}
use Rattle.house_model.specs.Text.{words}
use Rattle.house_model.specs.declared.command.Command.{Command}
use Rattle.house_model.specs.declared.command.Command.TheVariants as command
use Rattle.command_text.specs.Printing.{command_line}
use Rattle.command_text.proofs.JoinedLemmas.{name_parts}
use Rattle.call_file.specs.declared.settings.Version.{Version}
use Rattle.call_file.specs.declared.settings.Version.TheVariants as version
use Rattle.call_file.specs.Keys.{Said}
use Rattle.call_file.specs.Opening.{Place, applicant_of, call_line, commands_behind, commands_of, conflicts_of, given_places, place_command, place_of, places_of}
use Rattle.call_file.specs.Records.{rows_of}
use Rattle.call_file.specs.Register.{Fields, are_conflicts, bad_record, bad_record_below_header, cluster_field, cluster_fits, conflicts_field, entry_of, field, fits, is_header, person_field, person_fits, width}
use Rattle.call_file.proofs.CountLemmas.{bom_shortens, bytes_in, bytes_of, once_few, records_bytes, words_few}

-- an empty field gives no place, and any other at most one
place_few : (f : ℕ → Place) (most : ℕ) (text : Text) → length (option_to_list (option_map f (number_up_to most text))) ≤ length text
unfolding number_up_to
place_few f most [] = omega arith
place_few f most (x ∷ xs) = one (number_up_to most (x ∷ xs)) where
  one : (o : Option ℕ) → length (option_to_list (option_map f o)) ≤ suc (length xs)
  one None = omega arith
  one (Some n) = omega arith

-- how many lines a record adds
abbrev lines_added : Version → Fields → ℕ
lines_added v fields = 1 + (length (option_to_list (place_of (entry_of v fields))) + length (words (conflicts_field v fields)))

first_few : (fields : Fields) → length fields ≡ 3 → 0 < length (field fields 0) → lines_added version.First fields ≤ bytes_in fields
unfolding field_at
first_few [] h some = absurd (omega (arith, h))
first_few (a ∷ []) h some = absurd (omega (arith, h))
first_few (a ∷ b ∷ []) h some = absurd (omega (arith, h))
first_few (a ∷ b ∷ c ∷ []) h some =
    let place = place_few (λ cluster. ((entry_of version.First (a ∷ b ∷ c ∷ [])).person, cluster)) MOST_CLUSTERS b in
    let list = words_few c in
    omega (arith, place, list)
first_few (a ∷ b ∷ c ∷ d ∷ more) h some = absurd (omega (arith, h))

second_few : (fields : Fields) → length fields ≡ 4 → 0 < length (field fields 0) → lines_added version.Second fields ≤ bytes_in fields
unfolding field_at
second_few [] h some = absurd (omega (arith, h))
second_few (a ∷ []) h some = absurd (omega (arith, h))
second_few (a ∷ b ∷ []) h some = absurd (omega (arith, h))
second_few (a ∷ b ∷ c ∷ []) h some = absurd (omega (arith, h))
second_few (a ∷ b ∷ c ∷ d ∷ []) h some =
    let place = place_few (λ cluster. ((entry_of version.Second (a ∷ b ∷ c ∷ d ∷ [])).person, cluster)) MOST_CLUSTERS c in
    let list = words_few d in
    omega (arith, place, list)
second_few (a ∷ b ∷ c ∷ d ∷ e ∷ more) h some = absurd (omega (arith, h))

by_version : (v : Version) (fields : Fields) → length fields ≡ width v → 0 < length (field fields 0) → lines_added v fields ≤ bytes_in fields
by_version version.First fields h some = first_few fields h some
by_version version.Second fields h some = second_few fields h some

-- a record that is of its form adds no more lines than it has bytes
record_few : (said : Said) (fields : Fields) → fits said fields ≡ true → lines_added said.version fields ≤ bytes_in fields
unfolding fits
record_few said fields h =
    let listed = and_parts (length fields == width said.version && is_name (field fields 0) && person_fits (person_field said.version fields)
    && cluster_fits (is_some said.partition) (cluster_field said.version fields)) (are_conflicts (conflicts_field said.version fields)) h in
    let placed = and_parts (length fields == width said.version && is_name (field fields 0) && person_fits (person_field said.version fields))
    (cluster_fits (is_some said.partition) (cluster_field said.version fields)) listed.0 in
    let owned = and_parts (length fields == width said.version && is_name (field fields 0)) (person_fits (person_field said.version fields)) placed.0 in
    let named = and_parts (length fields == width said.version) (is_name (field fields 0)) owned.0 in
    by_version said.version fields (eqb-true (length fields) (width said.version) named.0) (name_parts (field fields 0) named.1).0

length-cons_option : (o : Option Place) (ps : List Place) → length (cons_option o ps) ≡ length (option_to_list o) + length ps
length-cons_option None ps = omega arith
length-cons_option (Some p) ps = omega arith

-- the lines that records add, but for those of places that are left out
abbrev all_added : Version → List Fields → ℕ
all_added v rows = length rows + (length (places_of v rows) + length (flat_map (conflicts_of v) rows))

rows_add : (said : Said) (number : ℕ) (rows : List Fields) → bad_record_below_header said number rows ≡ None → all_added said.version rows ≤ bytes_of rows
rows_add said number [] h = omega arith
rows_add said number (r ∷ rows) h = by_fit (fits said r) refl h (λ more. rows_add said (number + 1) rows more) where
  by_fit : (b : Bool) → fits said r ≡ b → cond (not b) (Some number) (bad_record_below_header said (number + 1) rows) ≡ None →
      (bad_record_below_header said (number + 1) rows ≡ None → all_added said.version rows ≤ bytes_of rows) → all_added said.version (r ∷ rows) ≤ bytes_of (r ∷ rows)
  by_fit true fit more behind =
      let here = record_few said r fit in
      let rest = behind more in
      let places = length-cons_option (place_of (entry_of said.version r)) (places_of said.version rows) in
      let lists = length-append (conflicts_of said.version r) (flat_map (conflicts_of said.version) rows) in
      let list = length-map (words (conflicts_field said.version r)) (λ w. command.Conflict (entry_of said.version r).person w) in
      omega (arith, here, rest, places, lists, list)
  by_fit false fit more behind = absurd (let wrong : ⊥ = cc in wrong)

given_few : (v : Version) (ps : List Place) → length (given_places v ps) ≤ length ps
given_few version.First ps = omega arith
given_few version.Second ps = once_few ps

option_few : (o : Option Command) → length (option_to_list o) ≤ 1
option_few None = omega arith
option_few (Some c) = omega arith

-- the commands behind the call
behind_few : (said : Said) (rows : List Fields) → length (commands_behind said rows) ≤ all_added said.version rows + 2
unfolding commands_behind commands_of
behind_few said rows =
    let a = map (applicant_of said.version) rows in
    let s = option_to_list (option_map command.Partition said.partition) in
    let p = map place_command (given_places said.version (places_of said.version rows)) in
    let c = flat_map (conflicts_of said.version) rows in
    let d = option_to_list (option_map command.Seal said.seal) in
    let four = length-append (((a ++ s) ++ p) ++ c) d in
    let three = length-append ((a ++ s) ++ p) c in
    let two = length-append (a ++ s) p in
    let one = length-append a s in
    let applicants = length-map rows (applicant_of said.version) in
    let lines = length-map (given_places said.version (places_of said.version rows)) place_command in
    let places = given_few said.version (places_of said.version rows) in
    let seed = option_few (option_map command.Partition said.partition) in
    let digest = option_few (option_map command.Seal said.seal) in
    omega (arith, four, three, two, one, applicants, lines, places, seed, digest)

below_few : (said : Said) (rows : List Fields) → bad_record said rows ≡ None → length (commands_behind said (drop 1 rows)) ≤ bytes_of rows + 2
below_few said [] h = absurd (let wrong : ⊥ = cc in wrong)
below_few said (header ∷ rows) h = by_header (is_header said.version header) h where
  by_header : (b : Bool) → cond b (bad_record_below_header said 2 rows) (Some 1) ≡ None → length (commands_behind said rows) ≤ bytes_in header + bytes_of rows + 2
  by_header true formed = let added = rows_add said 2 rows formed in let few = behind_few said rows in omega (arith, added, few)
  by_header false formed = absurd (let wrong : ⊥ = cc in wrong)

-- at most three lines more than the register has bytes
pub lines_few : (said : Said) (register : Text) → bad_record said (rows_of register) ≡ None →
    length (call_line said ∷ map command_line (commands_behind said (drop 1 (rows_of register)))) ≤ length register + 3
unfolding rows_of
lines_few said register h =
    let few = below_few said (rows_of register) h in
    let bytes : bytes_of (rows_of register) ≤ length (strip_bom register) = records_bytes default_config (length (strip_bom register) + 1) st.StartRecord (strip_bom register) in
    let shorter = bom_shortens register in
    let lines = length-map (commands_behind said (drop 1 (rows_of register))) command_line in
    omega (arith, few, bytes, shorter, lines)
