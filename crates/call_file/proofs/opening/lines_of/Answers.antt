use Rattle.std.proofs.Common.{◌≡◌, ◌≤◌, ◌+◌, ◌++◌, ◌∷◌, [], Ok, length, map, drop, ap, sym, ◌∙◌, subst}
use Rattle.std.proofs.lemmas.Result.{err_from_is_err_and}
use Rattle.house_model.specs.Text.{Lines}
use Rattle.house_model.specs.declared.command.Command.TheVariants as command
use Rattle.command_text.specs.Printing.{command_line}
use Rattle.call_file.specs.Keys.{said_by}
use Rattle.call_file.specs.Opening.{call_line, commands_behind}
use Rattle.call_file.specs.Records.{rows_of}
use Rattle.call_file.proofs.FewLemmas.{lines_few}
use Rattle.call_file.proofs.OpenedLemmas.{lines_given, lines_refused}
use Rattle.call_file.proofs.OpeningLemmas.{all_parts, call_line-Call}
use Rattle.call_file.proofs.opening.lines_of.Goals as goal

pub returns-in_err-found-clause-refused : goal.returns-in_err-found-clause-refused
returns-in_err-found-clause-refused c =
    let exit = err_from_is_err_and c.from_residual-in_err-found.result c.from_residual-in_err-found.ensures.1 in
    rw (exit.1, exit.2) (λ real. lines_refused (said_by c.args.settings.now) c.args.register.now _ (c.in_err-found.ensures.refused real))

-- the lines are those of the parts, one behind the other
lines_are : (c : goal.After-into_lines) → c.into_lines.result ≡ call_line (said_by c.args.settings.now) ∷ map command_line (commands_behind (said_by c.args.settings.now) (drop 1 (rows_of c.args.register.now)))
lines_are c =
    let settings = c.args.settings.now in
    c.into_lines.ensures
    ∙ all_parts (said_by settings) settings.call (drop 1 (rows_of c.args.register.now)) c.push.new.self c.push_part.new.opening c.push_seed.new.opening c.push_found.new.opening c.push_found-2.new.opening c.push_digest.new.opening
    (call_line-Call settings)
    (c.in_ok-push.ensures ∙ ap (λ (ls : Lines). ls ++ command_line (command.Call settings.call) ∷ []) c.new-opening.ensures)
    c.in_ok-found.ensures.pushed
    c.in_ok-push_seed.ensures
    c.in_ok-push_found.ensures.pushed
    c.in_ok-push_found-2.ensures.pushed
    c.in_ok-push_digest.ensures

pub returns-clause-ok : goal.returns-clause-ok
returns-clause-ok c =
    lines_given (said_by c.args.settings.now) c.args.register.now c.in_ok-found.ensures.formed ∙ ap Ok (sym (lines_are c))

pub returns-clause-few : goal.returns-clause-few
returns-clause-few c =
    subst (λ (ls : Lines). length ls ≤ length c.args.register.now + 3) (sym (lines_are c)) (lines_few (said_by c.args.settings.now) c.args.register.now c.in_ok-found.ensures.formed)
