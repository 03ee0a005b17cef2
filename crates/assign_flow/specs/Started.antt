use Rattle.cut_gap.specs.Cut.{Sides}
use Rattle.assign_flow.specs.Flow.{FlowParts}
use Rattle.assign_flow.specs.declared.flow.Started.{Started}
use Rattle.assign_flow.specs.declared.flow.Started.TheVariants.{Ready, Short}

-- a fact of the flow, where there is one
abbrev pub IfReady : Started → (FlowParts → Type 0) → Type 0
IfReady (Ready flow) P = P flow
IfReady (Short cut) P = Unit {0}

-- a fact of the cut, where there is no flow
abbrev pub IfNotReady : Started → (Sides → Type 0) → Type 0
IfNotReady (Ready flow) P = Unit {0}
IfNotReady (Short cut) P = P cut
