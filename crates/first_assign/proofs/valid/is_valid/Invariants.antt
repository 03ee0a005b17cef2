use Rattle.std.proofs.Common.{◌≡◌, ℕ, ◌<◌, true, ◌||◌, ◌==◌, not, length, slice_index}
use Rattle.house_base.specs.Grid.{cell}
use Rattle.house_base.specs.Setting.{size, need, may}
use Rattle.house_base.specs.declared.limits.TheConstants.{MOST_APPLICANTS}
use Rattle.peer_selection.specs.Counting.{all_below, count_below}
use Rattle.first_assign.proofs.valid.is_valid.Given as goal

abbrev pub invariant-loop-reviewer : goal.invariant-loop-reviewer
invariant-loop-reviewer l = record {
  may_be : all_below (λ r. all_below (λ p. not (cell l.pairs r p) || may l.plan r p) (size l.plan)) l.reviewer ≡ true;
  needs : all_below (λ r. count_below (cell l.pairs r) (size l.plan) == need l.plan r) l.reviewer ≡ true;
  each : length l.received ≡ MOST_APPLICANTS;
  received : (p : ℕ) → p < size l.plan → slice_index l.received p ≡ count_below (λ r. cell l.pairs r p) l.reviewer;
}
