use Rattle.std.proofs.Common.{Ok, ap, sym, ◌∙◌}
use Rattle.std.proofs.lemmas.Bool.{false≢true}
use Rattle.std.proofs.lemmas.Result.{err_from_is_err_and}
use Rattle.toml.specs.View.{table_view}
use Rattle.call_file.proofs.OpenedLemmas.{call_read, call_refused, table_refused, table_said}
use Rattle.call_file.proofs.opening.read_call.Goals as goal

pub returns-in_err-read_settings-in-Ok-clause-refused : goal.returns-in_err-read_settings-in-Ok-clause-refused
returns-in_err-read_settings-in-Ok-clause-refused c =
    let read = c.in-Ok.ensures.ok in
    let exit = err_from_is_err_and c.from_residual.result c.from_residual.ensures.1 in
    rw (exit.1, exit.2) (λ _. call_read c.args.call.now (table_view c.in-Ok.table) read.0 read.1 ∙ table_refused (table_view c.in-Ok.table) _ c.in_err-read_settings-in-Ok.ensures.bad)

pub returns-in_ok-read_settings-in-Ok-clause-ok : goal.returns-in_ok-read_settings-in-Ok-clause-ok
returns-in_ok-read_settings-in-Ok-clause-ok c =
    let read = c.in-Ok.ensures.ok in
    let said = c.in_ok-read_settings-in-Ok.ensures.ok in
    call_read c.args.call.now (table_view c.in-Ok.table) read.0 read.1 ∙ table_said (table_view c.in-Ok.table) said.0 ∙ ap Ok (sym said.1)

pub returns-in-Err-2-clause-refused : goal.returns-in-Err-2-clause-refused
returns-in-Err-2-clause-refused c = λ _. call_refused c.args.call.now (c.in-Err.ensures.refused (λ memory. false≢true (sym c.if-is_memory.false ∙ c.is_memory.ensures.1 memory)))
