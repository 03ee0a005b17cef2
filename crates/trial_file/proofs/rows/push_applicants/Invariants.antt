use Rattle.std.proofs.Common.{◌≡◌, ◌++◌, map}
use Rattle.peer_selection.specs.Counting.{numbers_below}
use Rattle.trial_file.specs.Trial.{applicant_row, rows_text}
use Rattle.trial_file.proofs.rows.push_applicants.Given as goal

-- the lines of the applicants so far stand behind the old text
abbrev pub invariant-loop-index : goal.invariant-loop-index
invariant-loop-index l = l.out.items ≡ l.fn.out.items ++ rows_text (map applicant_row (numbers_below l.index))
