use Rattle.replay_check.proofs.VerdictLemmas.{audit-lines, audit-version}
use Rattle.replay_check.proofs.laws.audits_are_read_back.Goals as goal

pub returns : goal.returns
returns c = record { lines = audit-lines; version = audit-version }
