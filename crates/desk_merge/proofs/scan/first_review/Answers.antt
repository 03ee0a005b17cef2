use Rattle.std.proofs.Common.{◌++◌, ◌∷◌, ◌^◌, ◌<◌, refl, sym, ◌∙◌, arith}
use Rattle.std.specs.Prelude.{decimal}
use Rattle.desk_merge.proofs.ScanLemmas.{cut_once, number_free}
use Rattle.desk_merge.proofs.scan.first_review.Goals as goal

pub returns-in_default-first_number-clause-none : goal.returns-in_default-first_number-clause-none
returns-in_default-first_number-clause-none c =
    λ revision points rest fits small same.
    let read : c.in-Some.revision < 2 ^ 64 = omega (arith, c.in-Some.ensures.most) in
    let cut = cut_once 32 (decimal c.in-Some.revision) (decimal revision) c.in-Some.rest.now (decimal points ++ 10 ∷ rest)
    (number_free 32 c.in-Some.revision refl read) (number_free 32 revision refl fits) (sym c.in-Some.ensures.found ∙ same) in
    c.in_default-first_number.ensures.none points rest (omega (arith, c.from.ensures, small)) cut.1
