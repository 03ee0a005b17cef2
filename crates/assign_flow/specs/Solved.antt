use Rattle.house_base.specs.Grid.{Square}
use Rattle.cut_gap.specs.Cut.{Sides}
use Rattle.assign_flow.specs.declared.solving.Solved.{Solved}
use Rattle.assign_flow.specs.declared.solving.Solved.TheVariants.{Pairs, Short}

-- a fact of the pairs, where there are some
abbrev pub IfPairs : Solved → (Square → Type 0) → Type 0
IfPairs (Pairs pairs) P = P pairs
IfPairs (Short cut) P = Unit {0}

-- a fact of the cut, where there are no pairs
abbrev pub IfShort : Solved → (Sides → Type 0) → Type 0
IfShort (Pairs pairs) P = Unit {0}
IfShort (Short cut) P = P cut
