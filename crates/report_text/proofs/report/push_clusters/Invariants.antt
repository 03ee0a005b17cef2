use Rattle.std.proofs.Common.{◌≡◌, ◌++◌, take}
use Rattle.house_model.specs.Report.{cluster_lines}
use Rattle.report_text.proofs.report.push_clusters.Given as goal

-- the lines of the clusters so far stand behind the old text
abbrev pub invariant-loop-index : goal.invariant-loop-index
invariant-loop-index l = l.out.items ≡ l.fn.out.items ++ cluster_lines l.den (take l.index l.rows)
