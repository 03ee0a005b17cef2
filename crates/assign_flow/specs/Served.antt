use Rattle.cut_gap.specs.Cut.{Sides}
use Rattle.assign_flow.specs.Ways.{WayParts}
use Rattle.assign_flow.specs.declared.serving.Served.{Served}
use Rattle.assign_flow.specs.declared.serving.Served.TheVariants.{All, Short}

-- a fact of the ways, where all are served
abbrev pub IfAll : Served → (WayParts → Type 0) → Type 0
IfAll (All ways) P = P ways
IfAll (Short cut) P = Unit {0}

-- a fact of the cut, where not all can be
abbrev pub IfNotAll : Served → (Sides → Type 0) → Type 0
IfNotAll (All ways) P = Unit {0}
IfNotAll (Short cut) P = P cut
