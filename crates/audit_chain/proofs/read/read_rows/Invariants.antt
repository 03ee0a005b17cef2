use Rattle.std.proofs.Common.{◌≡◌, ◌++◌, List, length}
use Rattle.std.specs.Prelude.{All}
use Rattle.house_base.specs.Text.{Text}
use Rattle.audit_chain.specs.File.{IsLine, parts}
use Rattle.audit_chain.specs.Reading.{HasRead}
use Rattle.audit_chain.proofs.read.read_rows.Given as goal

-- some rows were cut off the front, and taken in
abbrev pub invariant-loop-row : goal.invariant-loop-row
invariant-loop-row l = (taken : List Text) × (parts l.bytes ≡ taken ++ parts l.rest) × HasRead taken l.reading.version l.reading.lines l.reading.ended × All IsLine l.reading.lines

abbrev pub decreases-loop-row : goal.decreases-loop-row
decreases-loop-row l = length l.rest
