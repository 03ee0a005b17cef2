use Rattle.std.proofs.Common.{◌≡◌, true, Some, Ok, sym, ap, ◌∙◌}
use Rattle.csv.specs.Records.{fields_of}
use Rattle.call_file.proofs.PassLemmas.{header_width}
use Rattle.call_file.proofs.pass.take_header.Goals as goal

pub returns-then-is_header-clause-width : goal.returns-then-is_header-clause-width
returns-then-is_header-clause-width c =
    let found : Ok c.in_ok-next_row.field-0 ≡ Ok true = ap Ok c.if-not-branch.false in
    c.in_ok-next_row.ensures.width found
    ∙ ap Some (header_width c.args.version (fields_of c.next_row.new.row) (sym c.is_header.ensures ∙ c.if-is_header.true))
