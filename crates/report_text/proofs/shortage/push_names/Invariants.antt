use Rattle.std.proofs.Common.{◌≡◌, ◌∷◌, map, take}
use Rattle.line_text.specs.Written.{written}
use Rattle.report_text.proofs.shortage.push_names.Given as goal

-- the words so far are the first and the names so far
abbrev pub invariant-loop-name : goal.invariant-loop-name
invariant-loop-name l = map written l.words.items ≡ l.head ∷ take l.name-index l.names
