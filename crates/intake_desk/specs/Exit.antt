-- The exit status of the program.
use Rattle.std.specs.Prelude.{ℕ}
use Rattle.intake_desk.specs.declared.status.DeskStatus.{DeskStatus}
use Rattle.intake_desk.specs.declared.status.DeskStatus.TheVariants as status

abbrev pub exit_of : DeskStatus → ℕ
exit_of status.Done = 0
exit_of status.Usage = 1
exit_of status.ReadFault = 4
exit_of status.WriteFault = 5
exit_of status.Memory = 6
exit_of (status.Long line) = 8
exit_of (status.BadJournal place) = 9
exit_of status.DiskFault = 10
exit_of status.Full = 11
