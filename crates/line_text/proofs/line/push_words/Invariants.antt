use Rattle.std.proofs.Common.{◌≡◌, take, ◌++◌, map}
use Rattle.std.specs.List.{join_with_byte}
use Rattle.line_text.specs.Written.{written}
use Rattle.line_text.proofs.line.push_words.Given as goal

-- the words so far stand behind the old text, with a space between two of them
abbrev pub invariant-loop-index : goal.invariant-loop-index
invariant-loop-index l = l.out.items ≡ l.fn.out.items ++ join_with_byte 32 (map written (take l.index l.words))
