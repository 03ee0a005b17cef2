use Rattle.std.proofs.Common.{◌≢◌, ℕ, ◌<◌, Some, map}
use Rattle.std.specs.List.{slice_get}
use Rattle.house_base.proofs.plan.Plan.owner_of.Given as goal

abbrev pub invariant-loop-owner : goal.invariant-loop-owner
invariant-loop-owner l = (k : ℕ) → k < l.owner-index → slice_get (map (λ owner. owner.name) l.self.owners) k ≢ Some l.name
