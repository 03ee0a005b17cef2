use Rattle.replay_check.proofs.VerdictLemmas.{audit-determined}
use Rattle.replay_check.proofs.laws.audit_is_determined.Goals as goal

pub returns : goal.returns
returns c = audit-determined
