use Rattle.std.proofs.Common.{◌≡◌, ◌-◌, ◌++◌, length, take}
use Rattle.std.specs.List.{enumerate_from}
use Rattle.cluster_draw.specs.Placings.{own_rows}
use Rattle.cluster_draw.proofs.people.push_own.Given as goal

abbrev pub invariant-applicants : goal.invariant-applicants
invariant-applicants l = l.people.items ≡ l.fn.people.items ++ own_rows l.name l.placing.cluster (enumerate_from 0 (take l.number l.book.applicants))

abbrev pub decreases-applicants : goal.decreases-applicants
decreases-applicants l = length l.book.applicants - l.number
