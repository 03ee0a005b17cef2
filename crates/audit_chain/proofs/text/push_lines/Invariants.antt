use Rattle.std.proofs.Common.{◌≡◌, ◌++◌, ◌≤◌, length}
use Rattle.std.specs.Prelude.{flat_map}
use Rattle.audit_chain.specs.Chain.{digest_behind, line_rows, row_text}
use Rattle.audit_chain.proofs.text.push_lines.Given as goal

-- the rows of the lines so far are there, and the digest is the one behind them
abbrev pub invariant-loop-index : goal.invariant-loop-index
invariant-loop-index l =
    record {
      last : l.index-end ≡ length l.lines;
      within : l.index ≤ l.index-end;
      digest : l.digest ≡ digest_behind l.lines l.index;
      rows : l.audit.items ≡ l.fn.audit.items ++ flat_map row_text (line_rows l.version l.lines l.marks l.index);
    }
