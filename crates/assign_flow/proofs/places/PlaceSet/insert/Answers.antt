use Rattle.std.proofs.Common.{arith}
use Rattle.assign_flow.proofs.PlaceLemmas.{has-inserted}
use Rattle.assign_flow.proofs.places.PlaceSet.insert.Goals as goal

pub returns : goal.returns
returns c = has-inserted c.args.self.now.words c.args.place (omega arith) c.requires
