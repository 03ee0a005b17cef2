use Rattle.std.proofs.Common.{◌≡◌, [], ◌∷◌, sym, subst, append_assoc, OnOk}
use Rattle.house_model.specs.Report.{line_of}
use Rattle.command_text.specs.Printing.{command_line}
use Rattle.command_text.proofs.OneLineLemmas.{one_line}
use Rattle.command_text.proofs.ReadBackLemmas.{reads_only_as}
use Rattle.command_text.proofs.print.print_command.Goals as goal

pub returns-clause-reads_back : goal.returns-clause-reads_back
returns-clause-reads_back c = λ bounds. reads_only_as c.args.command.now c.push_command.ensures.formed bounds

pub returns-clause-one_line : goal.returns-clause-one_line
returns-clause-one_line c = one_line c.args.command.now c.push_command.ensures.formed

pub returns-clause-ok : goal.returns-clause-ok
unfolding line_of command_line
returns-clause-ok c =
    subst (λ text. OnOk c.push_command.result (c.push_command.new.out.items ≡ text)) (sym (append_assoc c.args.out.now.items (command_line c.args.command.now) (10 ∷ []))) c.push_command.ensures.ok
