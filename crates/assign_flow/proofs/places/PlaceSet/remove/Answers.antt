use Rattle.std.proofs.Common.{arith}
use Rattle.assign_flow.proofs.PlaceLemmas.{has-removed}
use Rattle.assign_flow.proofs.places.PlaceSet.remove.Goals as goal

pub returns : goal.returns
returns c = has-removed c.args.self.now.words c.args.place (omega arith) c.requires
