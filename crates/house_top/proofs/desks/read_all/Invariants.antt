use Rattle.std.proofs.Common.{◌≡◌, Ok, map, take}
use Rattle.house_top.specs.Desks.{join_read}
use Rattle.house_top.proofs.desks.read_all.Given as goal

-- the join of the files so far
abbrev pub invariant-loop-index : goal.invariant-loop-index
invariant-loop-index l = join_read (map (λ bytes. bytes.items) (take l.index l.all)) ≡ Ok l.joined
