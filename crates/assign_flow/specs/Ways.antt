use Rattle.house_base.specs.Grid.{Square}
use Rattle.assign_flow.specs.Residual.{Residual, residual}

-- what the ways of a residual graph are made of: the pairs that are free to change, and the pairs that are held
pub record WayParts : Type 0 where
  pub free : Square
  pub held : Square

-- the residual graph that has these ways
abbrev pub graph_of : WayParts → Residual
graph_of w = residual w.free w.held
