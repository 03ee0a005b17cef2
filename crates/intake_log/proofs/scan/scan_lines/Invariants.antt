use Rattle.std.proofs.Common.{◌≡◌, ◌≤◌, ◌-◌, length, drop}
use Rattle.intake_log.specs.Journal.{records_size}
use Rattle.intake_log.specs.Limits.{AreWithin}
use Rattle.intake_log.specs.Scan.{scan, scan_behind}
use Rattle.intake_log.proofs.scan.scan_lines.Given as goal

abbrev pub invariant-loop-gate : goal.invariant-loop-gate
invariant-loop-gate l = record {
  inside : l.gate ≤ length l.bytes;
  gate : l.gate ≡ records_size l.lines;
  within : AreWithin l.lines;
  so_far : scan l.bytes ≡ scan_behind (length (drop l.gate l.bytes)) l.lines (drop l.gate l.bytes);
}

abbrev pub decreases-loop-gate : goal.decreases-loop-gate
decreases-loop-gate l = length l.bytes - l.gate
