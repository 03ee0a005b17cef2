use Rattle.std.proofs.Common.{◌≡◌, ℕ, ◌<◌, slice_index, vec_len}
use Rattle.house_base.specs.Setting.{size, need}
use Rattle.first_assign.proofs.demand.needs.Given as goal

abbrev pub invariant-loop-place : goal.invariant-loop-place
invariant-loop-place l = record {
  side : vec_len l.needs ≡ size l.plan;
  needs : (r : ℕ) → r < l.place → slice_index l.needs.items r ≡ need l.plan r;
}
