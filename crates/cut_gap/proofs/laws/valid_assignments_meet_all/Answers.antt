use Rattle.std.proofs.Common.{refl}
use Rattle.peer_selection.specs.Profile.{is_valid}
use Rattle.peer_selection.specs.Shortage.{is_met}
use Rattle.cut_gap.proofs.laws.valid_assignments_meet_all.Goals as goal

pub returns : goal.returns
unfolding is_valid is_met
returns c = λ s pairs. refl
