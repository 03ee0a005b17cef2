use Rattle.std.proofs.Common.{◌≡◌, take}
use Rattle.house_base.specs.Setting.{names_of}
use Rattle.review_desk.proofs.places.applicants.Given as goal

-- the names of the applicants so far
abbrev pub invariant-loop-place : goal.invariant-loop-place
invariant-loop-place l = l.names ≡ take l.place (names_of l.plan)
