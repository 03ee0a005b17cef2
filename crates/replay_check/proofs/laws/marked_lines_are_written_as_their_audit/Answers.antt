use Rattle.std.proofs.Common.{ap}
use Rattle.audit_chain.specs.Chain.{audit_bytes}
use Rattle.replay_check.proofs.laws.marked_lines_are_written_as_their_audit.Goals as goal

pub returns : goal.returns
returns c = λ version lines made text marked ends.
    record { text = text; ends = ends; written = ap (λ ms. audit_bytes version lines ms text) marked }
