use Rattle.std.proofs.Common.{◌≡◌, ℕ, ◌+◌, ◌*◌, ◌<◌, ◌≤◌, false, length, get_or}
use Rattle.house_base.specs.Grid.{cell}
use Rattle.house_base.specs.declared.rows.TheConstants.{WORD_BITS, ROW_WORDS}
use Rattle.assign_flow.proofs.PlaceLemmas.{one}
use Rattle.assign_flow.proofs.places.PlaceSet.of_row.Given as goal

abbrev pub invariant-loop-at : goal.invariant-loop-at
invariant-loop-at l = record {
  len : length l.words ≡ ROW_WORDS;
  inside : (k i : ℕ) → k < l.at → i < WORD_BITS → k * WORD_BITS + i < l.square.side → one (get_or l.words k 0) i ≡ cell l.square l.row (k * WORD_BITS + i);
  outside : (k i : ℕ) → k < l.at → i < WORD_BITS → l.square.side ≤ k * WORD_BITS + i → one (get_or l.words k 0) i ≡ false;
}
