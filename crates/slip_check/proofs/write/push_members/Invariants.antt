use Rattle.std.proofs.Common.{◌≡◌, ◌++◌, eqb}
use Rattle.house_base.specs.Setting.{cluster_at}
use Rattle.peer_selection.specs.Counting.{numbers_below}
use Rattle.slip_check.specs.Written.{member_line}
use Rattle.slip_check.proofs.WriteLemmas.{lines_of}
use Rattle.slip_check.proofs.write.push_members.Given as goal

-- the lines of the members so far stand behind the old text
abbrev pub invariant-loop-place : goal.invariant-loop-place
invariant-loop-place l = l.out.items ≡ l.fn.out.items ++ lines_of (member_line l.plan) (λ q. eqb (cluster_at l.plan q) l.cluster) (numbers_below l.place)
