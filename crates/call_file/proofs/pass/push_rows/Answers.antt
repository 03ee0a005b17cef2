use Rattle.std.proofs.Common.{◌≡◌, ◌++◌, ◌∷◌, true, Some, Ok, Err, map, length, sym, ap, ◌∙◌, subst, arith}
use Rattle.std.specs.BTreeMap.{is_at}
use Rattle.std.specs.List.{list_any}
use Rattle.std.proofs.lemmas.List.{append-nil}
use Rattle.csv.specs.Records.{fields_of}
use Rattle.command_text.specs.Printing.{command_line}
use Rattle.call_file.specs.Keys.{said_by}
use Rattle.call_file.specs.Pass.{due, either, found_in, given_in, place_cmp}
use Rattle.call_file.specs.Records.{BeginsUneven, rows_left}
use Rattle.call_file.specs.Register.{bad_record_below_header, fits}
use Rattle.call_file.proofs.FoundLemmas.{found_at_end, found_behind}
use Rattle.call_file.proofs.OpenedLemmas.{refused_at}
use Rattle.call_file.proofs.PassLemmas.{all_due, formed_behind, none_due, off_first, record_width}
use Rattle.call_file.proofs.pass.push_rows.Goals as goal

pub records-preserved : goal.records-preserved
records-preserved c =
    let said = said_by c.args.settings.now in
    let inv = c.records.invariant in
    let yes : Ok c.in-Ok-true.field-0 ≡ Ok true = ap Ok c.in-Ok-true.field-0-test in
    let fields = fields_of c.next_row.new.row in
    let behind = rows_left c.next_row.new.reader in
    let found : rows_left c.records.reader ≡ fields ∷ behind = c.in-Ok-true.ensures.found yes in
    let fit : fits said fields ≡ true = c.in-Ok.ensures.formed in
    let fewer = ap length found in
    record {
      reading = c.in-Ok-true.ensures.reading yes;
      width = c.in-Ok-true.ensures.width yes ∙ ap Some (record_width said fields fit);
      few = omega (arith, fewer, inv.few);
      formed = formed_behind said c.records.number fields behind fit ∙ ap (bad_record_below_header said c.records.number) (sym found) ∙ inv.formed;
      found = ap (λ f. either f (found_in c.args.settings.now.version behind)) c.or-found.ensures
          ∙ found_behind c.args.settings.now.version c.records.found c.in-Ok.more fields behind c.in-Ok.ensures.found
          ∙ ap (λ rows. either c.records.found (found_in c.args.settings.now.version rows)) (sym found)
          ∙ inv.found;
      lines = c.in-Ok.ensures.pushed behind
          ∙ ap (λ rows. c.records.opening ++ map command_line (due c.args.part c.args.settings.now.version (given_in c.records.given) rows)) (sym found)
          ∙ inv.lines;
    }

pub returns-in-Ok-false-clause-pushed : goal.returns-in-Ok-false-clause-pushed
returns-in-Ok-false-clause-pushed c =
    let k = c.args.part in
    let v = c.args.settings.now.version in
    let end = c.in-Ok-false.ensures.end (ap Ok c.in-Ok-false.field-0-test) in
    sym (ap (λ cs. c.records.opening ++ map command_line cs) (ap (due k v (given_in c.records.given)) end ∙ none_due k v (given_in c.records.given)) ∙ append-nil c.records.opening)
    ∙ c.records.invariant.lines
    ∙ ap (λ cs. c.args.opening.now ++ map command_line cs) (all_due k v (given_in c.new-given.result) (rows_left c.args.reader.now) (λ p. ap (list_any (is_at (place_cmp p))) c.new-given.ensures.empty))

pub returns-in-Ok-false-clause-found : goal.returns-in-Ok-false-clause-found
returns-in-Ok-false-clause-found c =
    let v = c.args.settings.now.version in
    let end = c.in-Ok-false.ensures.end (ap Ok c.in-Ok-false.field-0-test) in
    sym (found_at_end v c.records.found)
    ∙ ap (λ rows. either c.records.found (found_in v rows)) (sym end)
    ∙ c.records.invariant.found

pub returns-in-Err-clause-refused : goal.returns-in-Err-clause-refused
returns-in-Err-clause-refused c = λ real.
    let said = said_by c.args.settings.now in
    let inv = c.records.invariant in
    refused_at c.records.number c.in-Err.fault (bad_record_below_header said 2 (rows_left c.args.reader.now)) (λ off.
    sym inv.formed
    ∙ off_first said c.records.number (rows_left c.records.reader) (subst (λ o. BeginsUneven o (rows_left c.records.reader)) inv.width (c.in-Err.ensures.uneven (ap Err off)))) c.at.result c.at.ensures real
