use Rattle.std.proofs.Common.{◌≡◌, flat_map, take}
use Rattle.house_base.specs.Grid.{cell}
use Rattle.house_model.specs.Texts.{pair_lines}
use Rattle.report_text.proofs.pairs.pairs_text.Given as goal

-- the lines of the persons so far
abbrev pub invariant-loop-index : goal.invariant-loop-index
invariant-loop-index l = l.text.items ≡ flat_map (pair_lines l.plan (cell l.pairs)) (take l.index l.plan.owners)
