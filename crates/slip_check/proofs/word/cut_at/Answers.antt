use Rattle.std.proofs.Common.{eqb, sym, ◌∙◌}
use Rattle.slip_check.proofs.WordPartLemmas.{before_found, behind_found, before_missing, behind_missing}
use Rattle.slip_check.proofs.word.cut_at.Goals as goal

pub returns-in-Some-clause-before : goal.returns-in-Some-clause-before
returns-in-Some-clause-before c =
    c.split_at.ensures.front ∙ before_found (λ b. eqb b c.args.byte) c.args.word.now c.in-Some.at (sym c.in-Some.ensures)

pub returns-in-Some-clause-behind : goal.returns-in-Some-clause-behind
returns-in-Some-clause-behind c =
    rw c.split_at.ensures.back (behind_found (λ b. eqb b c.args.byte) c.args.word.now c.in-Some.at (sym c.in-Some.ensures))

pub returns-in-None-clause-before : goal.returns-in-None-clause-before
returns-in-None-clause-before c = before_missing (λ b. eqb b c.args.byte) c.args.word.now (sym c.in-None.ensures)

pub returns-in-None-clause-behind : goal.returns-in-None-clause-behind
returns-in-None-clause-behind c = behind_missing (λ b. eqb b c.args.byte) c.args.word.now (sym c.in-None.ensures)
