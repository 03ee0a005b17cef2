use Rattle.std.proofs.Common.{◌≡◌, map, filter, take}
use Rattle.cut_gap.specs.Cut.{marked}
use Rattle.report_text.proofs.shortage.reviewers.Given as goal

-- the names of the persons so far whose first places are in the cut
abbrev pub invariant-loop-index : goal.invariant-loop-index
invariant-loop-index l = l.names.items ≡ map (λ owner. owner.name) (filter (λ owner. marked l.cut.reviewers owner.first) (take l.index l.plan.owners))
