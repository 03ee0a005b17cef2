use Rattle.std.proofs.Common.{◌≡◌, map, filter}
use Rattle.house_base.specs.Setting.{name_at}
use Rattle.peer_selection.specs.Counting.{numbers_below}
use Rattle.cut_gap.specs.Cut.{marked}
use Rattle.report_text.proofs.shortage.proposals.Given as goal

-- the names of the applicants so far that are in the cut
abbrev pub invariant-loop-place : goal.invariant-loop-place
invariant-loop-place l = l.names.items ≡ map (name_at l.plan) (filter (marked l.cut.proposals) (numbers_below l.place))
