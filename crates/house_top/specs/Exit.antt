-- The exit status of the program.
use Rattle.std.specs.Prelude.{ℕ}
use Rattle.house_top.specs.declared.status.Status.{Status}
use Rattle.house_top.specs.declared.status.Status.TheVariants as status

abbrev pub exit_of : Status → ℕ
exit_of status.Done = 0
exit_of status.Usage = 1
exit_of (status.Refused line reason) = 2
exit_of status.Short = 3
exit_of status.ReadFault = 4
exit_of status.WriteFault = 5
exit_of status.Memory = 6
exit_of (status.Differs row) = 7
exit_of status.TooLong = 8
exit_of (status.BadFile bad) = 9
exit_of (status.Wrong worth) = 10
