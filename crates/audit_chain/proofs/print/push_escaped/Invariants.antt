use Rattle.std.proofs.Common.{◌≡◌, ◌++◌, take}
use Rattle.json.specs.Print.{escape}
use Rattle.audit_chain.proofs.print.push_escaped.Given as goal

-- the characters so far are there
abbrev pub invariant-loop-byte : goal.invariant-loop-byte
invariant-loop-byte l = l.audit.items ≡ l.fn.audit.items ++ escape (take l.byte-index l.text)
