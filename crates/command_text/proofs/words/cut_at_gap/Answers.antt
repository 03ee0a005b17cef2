use Rattle.std.proofs.Common.{◌≡◌, ◌<◌, ◌∙◌, sym, length}
use Rattle.std.specs.List.{position_or_len}
use Rattle.house_model.specs.Text.{is_gap}
use Rattle.command_text.proofs.WordLemmas.{position_found, after_element}
use Rattle.command_text.proofs.words.cut_at_gap.Goals as goal

pub returns-in_err-at-clause-none : goal.returns-in_err-at-clause-none
returns-in_err-at-clause-none c = rw c.from_residual.ensures (rw c.in_err-at.was at c.first_gap.ensures.none)

pub returns-clause-found : goal.returns-clause-found
returns-clause-found c =
    let found = position_found c.args.text.now c.in_ok-at.at (sym c.first_gap.ensures.value ∙ c.in_ok-at.was) in
    let at_gap : position_or_len is_gap c.args.text.now ≡ c.in_ok-at.at = found.0 in
    let below : c.in_ok-at.at < length c.args.text.now = found.1 in
    rw at_gap (c.split_at.ensures.front, rw c.split_at.ensures.back (after_element c.args.text.now c.in_ok-at.at))
