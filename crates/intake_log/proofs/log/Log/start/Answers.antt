use Rattle.intake_log.proofs.LogLemmas.{kept-leaves}
use Rattle.intake_log.proofs.FoundLemmas.{found-stands}
use Rattle.intake_log.proofs.StartLemmas.{if_some-map}
use Rattle.intake_log.proofs.log.Log.start.Goals as goal

pub returns-in-Ok-clause-stands : goal.returns-in-Ok-clause-stands
returns-in-Ok-clause-stands g c = if_some-map (g.D.Disk.content c.args.disk) _ _ c.in-Ok.ensures.ended (λ bytes. found-stands bytes c.in-Ok.lines)

pub returns-in-Ok-clause-durable : goal.returns-in-Ok-clause-durable
returns-in-Ok-clause-durable g c = kept-leaves g.D.Disk.content g.D.Disk.images c.load.new.disk c.in-Ok.gate c.in-Ok.lines c.in-Ok.ensures.kept
