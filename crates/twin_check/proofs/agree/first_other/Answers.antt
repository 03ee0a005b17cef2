use Rattle.std.proofs.Common.{sym, ap, ◌∙◌, arith}
use Rattle.house_model.specs.Isolation.{without}
use Rattle.twin_check.proofs.AgreeLemmas.{other_line, own_line}
use Rattle.twin_check.proofs.agree.first_other.Goals as goal

pub returns-then-not-is_by-clause-found : goal.returns-then-not-is_by-clause-found
returns-then-not-is_by-clause-found c =
    c.loop-line.invariant.passed
    ∙ ap (without c.args.name) c.in-Some.ensures.found
    ∙ other_line c.args.name c.in-Some.line.now _ (sym c.is_by.ensures ∙ c.if-not-is_by.true)

pub loop-line-preserved : goal.loop-line-preserved
loop-line-preserved c = record {
  passed = c.loop-line.invariant.passed
      ∙ ap (without c.args.name) c.in-Some.ensures.found
      ∙ own_line c.args.name c.in-Some.line.now _ (sym c.is_by.ensures ∙ c.if-not-is_by.false);
  fits = omega (arith, c.in-Some.ensures.shorter, c.loop-line.invariant.fits);
}

pub returns-clause-none : goal.returns-clause-none
unfolding without
returns-clause-none c = c.loop-line.invariant.passed ∙ ap (without c.args.name) c.in_default.ensures.none
