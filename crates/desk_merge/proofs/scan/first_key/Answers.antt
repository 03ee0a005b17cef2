use Rattle.std.proofs.Common.{◌++◌, ◌∷◌, drop, sym, ap, ◌∙◌}
use Rattle.desk_merge.proofs.ScanLemmas.{cut_once}
use Rattle.desk_merge.proofs.scan.first_key.Goals as goal

pub returns-in_default-cut_at-2-clause-none : goal.returns-in_default-cut_at-2-clause-none
returns-in_default-cut_at-2-clause-none c =
    λ reviewer proposal rest free same.
    let behind = c.in-Some.ensures.cases.1 ∙ ap (drop 6) same in
    let cut = cut_once 32 c.in-Some-cut_at.reviewer.now reviewer c.in-Some-cut_at.rest.now (proposal ++ 32 ∷ rest) c.in-Some-cut_at.ensures.free free (sym c.in-Some-cut_at.ensures.found ∙ behind) in
    c.in_default-cut_at-2.ensures.none proposal rest cut.1
