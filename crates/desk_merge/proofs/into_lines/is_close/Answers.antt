use Rattle.std.proofs.Common.{[], sym, ap, ◌∙◌, bytes_eq}
use Rattle.std.specs.Prelude.{codes, slice_get}
use Rattle.std.specs.Option.{option_map_or}
use Rattle.house_model.specs.Text.{word}
use Rattle.command_text.proofs.LineLemmas.{first_word}
use Rattle.desk_merge.specs.Put.{is_close}
use Rattle.desk_merge.proofs.into_lines.is_close.Goals as goal

pub returns-in-Some : goal.returns-in-Some
unfolding is_close
returns-in-Some c = c.eq.ensures ∙ ap (bytes_eq c.in-Some.word.now) c.as_slice.ensures ∙ ap (λ w. bytes_eq w (codes "close")) (sym (first_word c.args.line.now c.in-Some.word.now _ c.in-Some.ensures.found))

pub returns-in-None : goal.returns-in-None
unfolding is_close word
returns-in-None c = sym (ap (λ ws. bytes_eq (option_map_or (λ w. w) (slice_get ws 0) []) (codes "close")) c.in-None.ensures.none)
