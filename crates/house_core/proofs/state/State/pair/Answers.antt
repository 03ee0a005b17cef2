use Rattle.std.proofs.Common.{refl}
use Rattle.house_core.proofs.StateLemmas.{paired, not_paired}
use Rattle.house_core.proofs.state.State.pair.Goals as goal

pub returns-in-Ok-clause-obeys : goal.returns-in-Ok-clause-obeys
returns-in-Ok-clause-obeys c = (
  paired c.args.self.now c.args.person c.args.proposal c.in-Ok.ensures.known c.in-Ok.ensures.unknown,
  rw c.in-Ok.ensures.added refl,
)

pub returns-in-Err-clause-obeys : goal.returns-in-Err-clause-obeys
returns-in-Err-clause-obeys c = (
  rw c.stop_of.ensures (not_paired c.args.self.now c.args.person c.args.proposal c.in-Err.fault c.in-Err.ensures.known c.in-Err.ensures.unknown c.in-Err.ensures.never_too_many),
  rw c.in-Err.ensures.refused refl,
)
