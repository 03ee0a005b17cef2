use Rattle.std.proofs.Common.{◌≡◌, ◌≤◌, get_or}
use Rattle.peer_selection.specs.Counting.{count_below}
use Rattle.rank_table.specs.Rank.{goes_before}
use Rattle.rank_table.proofs.place.rank.Given as goal

-- those that go before the applicant among the places so far
abbrev pub invariant-loop-rival : goal.invariant-loop-rival
invariant-loop-rival l = record { counted : l.before ≡ count_below (λ q. goes_before l.plan (λ p. get_or l.totals.scores p 0) q l.place) l.rival; few : l.before ≤ l.rival }
