use Rattle.std.proofs.Common.{◌≡◌, None, Some, option_map, sym, ap, ◌∙◌}
use Rattle.std.specs.Option.{option_copied}
use Rattle.toml.proofs.Views.{table_get}
use Rattle.toml.specs.Data.{as_str, get_member}
use Rattle.toml.specs.View.{table_view, view}
use Rattle.call_file.specs.Keys.{text_under}
use Rattle.call_file.proofs.values.text_at.Goals as goal

pub returns-in-None : goal.returns-in-None
returns-in-None c =
    let found = table_get c.get.result c.word.result.now c.args.table.now.entries c.get.ensures.value in
    let value : get_member c.word.result.now (table_view c.args.table.now) ≡ None = sym found ∙ ap (option_map (λ v. view v.now)) c.in-None.is in
    sym (ap text_under (ap (λ w. get_member w (table_view c.args.table.now)) (sym c.word.ensures) ∙ value))

pub returns-in-None-as_str : goal.returns-in-None-as_str
returns-in-None-as_str c =
    let found = table_get c.get.result c.word.result.now c.args.table.now.entries c.get.ensures.value in
    let value : get_member c.word.result.now (table_view c.args.table.now) ≡ Some (view c.in-Some.value.now) = sym found ∙ ap (option_map (λ v. view v.now)) c.in-Some.is in
    let text : as_str (view c.in-Some.value.now) ≡ None = sym c.as_str.ensures ∙ ap option_copied c.in-None-as_str.is in
    sym (ap text_under (ap (λ w. get_member w (table_view c.args.table.now)) (sym c.word.ensures) ∙ value) ∙ ap (option_map Some) text)

pub returns-in-Some-as_str : goal.returns-in-Some-as_str
returns-in-Some-as_str c =
    let found = table_get c.get.result c.word.result.now c.args.table.now.entries c.get.ensures.value in
    let value : get_member c.word.result.now (table_view c.args.table.now) ≡ Some (view c.in-Some.value.now) = sym found ∙ ap (option_map (λ v. view v.now)) c.in-Some.is in
    let text : as_str (view c.in-Some.value.now) ≡ Some c.in-Some-as_str.text.now = sym c.as_str.ensures ∙ ap option_copied c.in-Some-as_str.is in
    sym (ap text_under (ap (λ w. get_member w (table_view c.args.table.now)) (sym c.word.ensures) ∙ value) ∙ ap (option_map Some) text)
