use Rattle.slip_check.proofs.AgreeLemmas.{printed-agree}
use Rattle.slip_check.proofs.laws.slips_look_at_places_alone.Goals as goal

pub returns : goal.returns
returns c = printed-agree
