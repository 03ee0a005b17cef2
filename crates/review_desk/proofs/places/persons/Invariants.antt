use Rattle.std.proofs.Common.{◌≡◌, map, take}
use Rattle.review_desk.proofs.places.persons.Given as goal

-- the names of the persons so far
abbrev pub invariant-loop-index : goal.invariant-loop-index
invariant-loop-index l = l.names ≡ take l.index (map (λ owner. owner.name) l.plan.owners)
