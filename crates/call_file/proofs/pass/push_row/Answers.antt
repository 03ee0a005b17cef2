use Rattle.std.proofs.Common.{◌≡◌, true, ◌++◌, ◌∷◌, [], map, ap, sym, ◌∙◌, subst}
use Rattle.std.specs.List.{cons_option, list_all}
use Rattle.csv.specs.Records.{fields_of}
use Rattle.house_base.specs.Name.{is_name}
use Rattle.house_model.specs.Text.{words}
use Rattle.house_model.specs.declared.command.Command.TheVariants as command
use Rattle.command_text.specs.Printing.{command_line}
use Rattle.call_file.specs.declared.entry.Entry.{Entry}
use Rattle.call_file.specs.Keys.{said_by}
use Rattle.call_file.specs.Opening.{place_of}
use Rattle.call_file.specs.Pass.{given_in, places_due}
use Rattle.call_file.specs.Register.{conflicts_field, entry_of}
use Rattle.call_file.proofs.PassLemmas.{applicant_pushed, conflicts_listed, conflicts_pushed, place_pushed}
use Rattle.call_file.proofs.pass.push_row.Goals as goal

pub push_conflicts-requires : goal.push_conflicts-requires
push_conflicts-requires c =
    subst (λ text. list_all is_name (words text) ≡ true) (sym c.conflicts_field-conflicts.ensures)
    (conflicts_listed (said_by c.args.settings.now) (fields_of c.args.row.now) (sym c.in-Some.ensures.form))

pub returns-in_ok-push-in-Applicants-clause-pushed : goal.returns-in_ok-push-in-Applicants-clause-pushed
returns-in_ok-push-in-Applicants-clause-pushed c =
    let v = c.args.settings.now.version in
    let fields = fields_of c.args.row.now in
    let entry_is : c.in-Some.entry ≡ entry_of v fields = c.in-Some.ensures.value in
    let pushed : c.push.new.self ≡ c.args.opening.now ++ command_line (command.Applicant (entry_of v fields).name (entry_of v fields).person) ∷ [] =
    subst (λ (entry : Entry). c.push.new.self ≡ c.args.opening.now ++ command_line (command.Applicant entry.name entry.person) ∷ []) entry_is c.in_ok-push-in-Applicants.ensures in
    rw c.in-Applicants.is (applicant_pushed v (given_in c.args.given.now) (given_in c.args.given.now) fields c.args.opening.now c.push.new.self pushed)

pub returns-in_ok-push_place-in-Places-clause-pushed : goal.returns-in_ok-push_place-in-Places-clause-pushed
returns-in_ok-push_place-in-Places-clause-pushed c =
    let v = c.args.settings.now.version in
    let fields = fields_of c.args.row.now in
    let entry_is : c.in-Some.entry ≡ entry_of v fields = c.in-Some.ensures.value in
    rw c.in-Places.is (place_pushed v (given_in c.args.given.now) (given_in c.push_place.new.given) fields c.args.opening.now c.push_place.new.opening (λ more.
    c.in_ok-push_place-in-Places.ensures more
    ∙ ap (λ (entry : Entry). c.args.opening.now ++ map command_line (places_due v (given_in c.args.given.now) (cons_option (place_of entry) more))) entry_is))

pub returns-in_ok-push_conflicts-in-Conflicts-clause-pushed : goal.returns-in_ok-push_conflicts-in-Conflicts-clause-pushed
returns-in_ok-push_conflicts-in-Conflicts-clause-pushed c =
    let v = c.args.settings.now.version in
    let fields = fields_of c.args.row.now in
    let entry_is : c.in-Some.entry ≡ entry_of v fields = c.in-Some.ensures.value in
    let listed = subst (λ text. c.push_conflicts.new.opening ≡ c.args.opening.now ++ map command_line (map (command.Conflict c.in-Some.entry.person) (words text))) c.conflicts_field-conflicts.ensures c.in_ok-push_conflicts-in-Conflicts.ensures in
    let pushed = subst (λ (entry : Entry). c.push_conflicts.new.opening ≡ c.args.opening.now ++ map command_line (map (command.Conflict entry.person) (words (conflicts_field v fields)))) entry_is listed in
    rw c.in-Conflicts.is (conflicts_pushed v (given_in c.args.given.now) (given_in c.args.given.now) fields c.args.opening.now c.push_conflicts.new.opening pushed)
