use Rattle.std.proofs.Common.{◌≡◌, ℕ, ◌<◌, length, Some, slice_get}
use Rattle.house_model.specs.Register.{persons, person_of}
use Rattle.first_assign.specs.FirstPlaces.{HasFirstPlace}
use Rattle.first_assign.proofs.hand_made.first_places.Given as goal

abbrev pub invariant-loop-number : goal.invariant-loop-number
invariant-loop-number l = record {
  room : length l.places.items ≡ length (persons l.book);
  first : (person k : ℕ) → k < l.number → slice_get (persons l.book) person ≡ Some (person_of l.book k) → HasFirstPlace l.plan (persons l.book) l.places.items person;
}
