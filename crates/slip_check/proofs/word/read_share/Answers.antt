use Rattle.std.proofs.Common.{◌^◌, ◌-◌, ap, sym, ◌∙◌, arith}
use Rattle.house_base.specs.Number.{is_canonical, number_up_to}
use Rattle.command_text.proofs.NumberLemmas.{number_is}
use Rattle.slip_check.specs.Form.{before_slash}
use Rattle.slip_check.proofs.WordPartLemmas.{share_formed, share_without_number, share_without_den}
use Rattle.slip_check.proofs.word.read_share.Goals as goal

pub returns-in_default-clause-none : goal.returns-in_default-clause-none
returns-in_default-clause-none c =
    share_without_number c.args.word.now (ap (number_up_to (2 ^ 64 - 1)) (sym c.cut_at.ensures.before) ∙ sym c.in_default.ensures)

pub returns-then-is_canonical-clause-form : goal.returns-then-is_canonical-clause-form
returns-then-is_canonical-clause-form c =
    share_formed c.args.word.now c.in-Some.chance (ap (number_up_to (2 ^ 64 - 1)) (sym c.cut_at.ensures.before) ∙ sym c.in-Some.ensures)
    (ap is_canonical (sym c.cut_at.ensures.behind) ∙ sym c.is_canonical.ensures ∙ c.if-is_canonical.true)

pub returns-then-is_canonical-clause-chance : goal.returns-then-is_canonical-clause-chance
returns-then-is_canonical-clause-chance c =
    sym (number_is (2 ^ 64 - 1) c.in-Some.chance (before_slash c.args.word.now) (omega arith)
    (ap (number_up_to (2 ^ 64 - 1)) (sym c.cut_at.ensures.before) ∙ sym c.in-Some.ensures))

pub returns-else-is_canonical-clause-none : goal.returns-else-is_canonical-clause-none
returns-else-is_canonical-clause-none c =
    share_without_den c.args.word.now (ap is_canonical (sym c.cut_at.ensures.behind) ∙ sym c.is_canonical.ensures ∙ c.if-is_canonical.false)
