use Rattle.std.proofs.Common.{◌≡◌, ◌++◌, take}
use Rattle.review_desk.specs.Desk.{desk_profile}
use Rattle.slip_check.specs.Slip.{places_in, reviews_one_of}
use Rattle.slip_check.specs.Written.{ballot_line}
use Rattle.slip_check.proofs.WriteLemmas.{lines_of}
use Rattle.slip_check.proofs.write_ballot.push_ballots.Given as goal

-- the ballots of the persons so far stand behind the old text
abbrev pub invariant-loop-index : goal.invariant-loop-index
invariant-loop-index l =
    let f = desk_profile l.plan l.desk in
    l.out.items ≡ l.fn.out.items ++ lines_of (ballot_line f) (reviews_one_of f (places_in l.plan l.cluster)) (take l.index l.plan.owners)
