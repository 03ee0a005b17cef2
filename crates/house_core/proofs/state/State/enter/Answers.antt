use Rattle.std.proofs.Common.{refl}
use Rattle.house_core.proofs.StateLemmas.{entered, not_entered}
use Rattle.house_core.proofs.state.State.enter.Goals as goal

pub returns-in-Ok-clause-obeys : goal.returns-in-Ok-clause-obeys
returns-in-Ok-clause-obeys c = (
  entered c.args.self.now c.args.name c.args.person c.in-Ok.ensures.known c.in-Ok.ensures.too_many,
  rw c.in-Ok.ensures.added refl,
)

pub returns-in-Err-clause-obeys : goal.returns-in-Err-clause-obeys
returns-in-Err-clause-obeys c = (
  rw c.stop_of.ensures (not_entered c.args.self.now c.args.name c.args.person c.in-Err.fault c.in-Err.ensures.known c.in-Err.ensures.too_many c.in-Err.ensures.never_unknown),
  rw c.in-Err.ensures.refused refl,
)
