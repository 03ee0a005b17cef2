use Rattle.std.proofs.Common.{option_map, sym, ap, ◌∙◌}
use Rattle.std.specs.Prelude.{is_some}
use Rattle.toml.proofs.Views.{table_get}
use Rattle.toml.specs.Data.{get_member}
use Rattle.toml.specs.View.{table_view, view}
use Rattle.call_file.proofs.values.has_key.Goals as goal

pub returns-in-Some : goal.returns-in-Some
returns-in-Some c =
    let found = table_get c.get.result c.word.result.now c.args.table.now.entries c.get.ensures.value in
    sym (ap (λ w. is_some (get_member w (table_view c.args.table.now))) (sym c.word.ensures) ∙ ap is_some (sym found ∙ ap (option_map (λ v. view v.now)) c.in-Some.is))

pub returns-in-None : goal.returns-in-None
returns-in-None c =
    let found = table_get c.get.result c.word.result.now c.args.table.now.entries c.get.ensures.value in
    sym (ap (λ w. is_some (get_member w (table_view c.args.table.now))) (sym c.word.ensures) ∙ ap is_some (sym found ∙ ap (option_map (λ v. view v.now)) c.in-None.is))
