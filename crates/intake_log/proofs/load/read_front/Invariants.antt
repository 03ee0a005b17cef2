use Rattle.std.proofs.Common.{◌≡◌, ◌≤◌, ◌-◌, length, take, vec_len, IfSome}
use Rattle.intake_log.specs.declared.limits.TheConstants.{FRONT_BYTES}
use Rattle.intake_log.specs.Start.{OnlyReads}
use Rattle.intake_log.proofs.load.read_front.Given as goal

abbrev pub invariant-loop-buf : goal.invariant-loop-buf
invariant-loop-buf g l = record {
  most : vec_len l.front ≤ FRONT_BYTES;
  so_far : IfSome (g.D.Disk.content l.initial.disk) (λ bytes. l.front.items ≡ take (length l.front.items) bytes);
  only_reads : OnlyReads g.D.Disk.content g.D.Disk.images g.D.Disk.moment g.D.Disk.images_since l.initial.disk l.disk;
  never_falls : g.D.Disk.faults l.initial.disk ≤ g.D.Disk.faults l.disk;
}

abbrev pub decreases-loop-buf : goal.decreases-loop-buf
decreases-loop-buf g l = FRONT_BYTES - vec_len l.front
