use Rattle.std.proofs.Common.{◌++◌, drop, map, sym, ap, ◌∙◌}
use Rattle.std.proofs.lemmas.List.{append-nil}
use Rattle.command_text.specs.Printing.{command_line}
use Rattle.call_file.specs.Pass.{has}
use Rattle.call_file.specs.Records.{rows_of}
use Rattle.call_file.proofs.FoundLemmas.{none_of}
use Rattle.call_file.proofs.pass.push_found.Goals as goal

pub returns-else-has-clause-pushed : goal.returns-else-has-clause-pushed
returns-else-has-clause-pushed c =
    let rows = drop 1 (rows_of c.args.register.now) in
    let none = none_of c.args.part c.args.settings.now.version rows (ap (λ found. has found c.args.part) (sym c.requires) ∙ sym c.has.ensures ∙ c.if-has.false) in
    sym (append-nil c.args.opening.now) ∙ ap (λ cs. c.args.opening.now ++ map command_line cs) (sym none)
