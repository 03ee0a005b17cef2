use Rattle.std.proofs.Common.{subst}
use Rattle.intake_log.specs.Log.{IsLog}
use Rattle.intake_log.proofs.LogLemmas.{log-leaves}
use Rattle.intake_log.proofs.log.Log.lines.Goals as goal

pub returns-clause-durable : goal.returns-clause-durable
returns-clause-durable g c = log-leaves g.D.Disk.content g.D.Disk.images c.args.self.now (subst (λ log. IsLog g.D.Disk.content g.D.Disk.images log) c.self.view_is c.self.invariant)
