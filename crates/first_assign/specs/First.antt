use Rattle.house_base.specs.Grid.{Square}
use Rattle.cut_gap.specs.Cut.{Sides}
use Rattle.first_assign.specs.declared.answer.First.{First}
use Rattle.first_assign.specs.declared.answer.First.TheVariants.{Pairs, Short}

-- a fact of the pairs, where some assignment is valid
abbrev pub IfFirst : First → (Square → Type 0) → Type 0
IfFirst (Pairs pairs) P = P pairs
IfFirst (Short cut) P = Unit {0}

-- a fact of the cut, where no assignment is valid
abbrev pub IfNoneIsValid : First → (Sides → Type 0) → Type 0
IfNoneIsValid (Pairs pairs) P = Unit {0}
IfNoneIsValid (Short cut) P = P cut
