use Rattle.std.proofs.Common.{refl}
use Rattle.house_base.proofs.RowLemmas.{has-zeros}
use Rattle.assign_flow.proofs.places.PlaceSet.empty.Goals as goal

pub returns : goal.returns
returns c = λ i. has-zeros _ 16 refl 0 i
