use Rattle.house_base.specs.declared.answer.Reason.TheVariants as reason
use Rattle.register_book.specs.declared.fault.BookFault.{BookFault}
use Rattle.register_book.specs.declared.fault.BookFault.TheVariants as book
use Rattle.cluster_draw.specs.declared.fault.FreezeFault.{FreezeFault}
use Rattle.cluster_draw.specs.declared.fault.FreezeFault.TheVariants as freeze
use Rattle.house_core.specs.declared.round.Stop.{Stop}
use Rattle.house_core.specs.declared.round.Stop.TheVariants as stop

-- what a refusal of the register and of the plan means for a line
abbrev pub stop_of : BookFault → Stop
stop_of book.Known = stop.Refused reason.Known
stop_of book.Unknown = stop.Refused reason.Unknown
stop_of book.TooMany = stop.Refused reason.TooMany
stop_of book.Memory = stop.Memory

abbrev pub stop_of_freeze : FreezeFault → Stop
stop_of_freeze freeze.Few = stop.Refused reason.Few
stop_of_freeze freeze.Unplaced = stop.Refused reason.Unplaced
stop_of_freeze freeze.Memory = stop.Memory
