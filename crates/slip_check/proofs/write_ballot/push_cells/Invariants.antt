use Rattle.std.proofs.Common.{◌≡◌, ◌++◌}
use Rattle.review_desk.specs.Desk.{desk_profile}
use Rattle.slip_check.specs.Written.{spaced_cell}
use Rattle.slip_check.proofs.WriteLemmas.{lines_of, places_to}
use Rattle.slip_check.proofs.write_ballot.push_cells.Given as goal

-- the cells so far stand behind the old text
abbrev pub invariant-loop-distance : goal.invariant-loop-distance
invariant-loop-distance l =
    let f = desk_profile l.plan l.desk in
    l.out.items ≡ l.fn.out.items ++ lines_of (spaced_cell f l.reviewer) (f.pairs l.reviewer) (places_to l.plan l.reviewer l.distance)
