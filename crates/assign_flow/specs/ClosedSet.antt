use Rattle.assign_flow.specs.declared.closed.Closed.{Closed}
use Rattle.assign_flow.specs.Places.{places_of}
use Rattle.assign_flow.specs.Residual.{Residual, IsClosed}

-- no way leads out of the reviewers and proposals of the set
abbrev pub HasNoWayOut : Residual → Closed → Type 0
HasNoWayOut g c = IsClosed g (places_of c.reviewers) (places_of c.proposals)
