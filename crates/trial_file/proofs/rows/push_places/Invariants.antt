use Rattle.std.proofs.Common.{◌≡◌, ◌++◌, map}
use Rattle.peer_selection.specs.Counting.{numbers_below}
use Rattle.trial_file.specs.Trial.{place_row, rows_text}
use Rattle.trial_file.proofs.rows.push_places.Given as goal

-- the lines of the places so far stand behind the old text
abbrev pub invariant-loop-index : goal.invariant-loop-index
invariant-loop-index l = l.out.items ≡ l.fn.out.items ++ rows_text (map (place_row l.clusters) (numbers_below l.index))
