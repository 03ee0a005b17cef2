use Rattle.std.proofs.Common.{◌≡◌, ℕ, ◌<◌, slice_index}
use Rattle.assign_flow.proofs.draft.Draft.is_complete.Given as goal

abbrev pub invariant-loop-unmet : goal.invariant-loop-unmet
invariant-loop-unmet l = (r : ℕ) → r < l.unmet-index → slice_index l.self.unmet.items r ≡ 0
