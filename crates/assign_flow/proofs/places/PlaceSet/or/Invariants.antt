use Rattle.std.proofs.Common.{◌≡◌, ℕ, ◌<◌, ◌||◌, length, get_or}
use Rattle.house_base.specs.declared.rows.TheConstants.{WORD_BITS, ROW_WORDS}
use Rattle.assign_flow.proofs.PlaceLemmas.{one}
use Rattle.assign_flow.proofs.places.PlaceSet.or.Given as goal

abbrev pub invariant-loop-at : goal.invariant-loop-at
invariant-loop-at l = record {
  len : length l.words ≡ ROW_WORDS;
  bits : (k i : ℕ) → k < l.at → i < WORD_BITS → one (get_or l.words k 0) i ≡ (one (get_or l.self.words k 0) i || one (get_or l.other.words k 0) i);
}
