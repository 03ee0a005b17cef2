use Rattle.house_model.specs.Seeds.{seed_seal}
use Rattle.seat_lottery.proofs.seed.seal_of.Goals as goal

pub returns : goal.returns
unfolding seed_seal
returns c = c.digest_of.ensures
