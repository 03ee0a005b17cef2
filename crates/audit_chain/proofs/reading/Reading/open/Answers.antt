use Rattle.std.proofs.Common.{sym, ◌∙◌, arith}
use Rattle.audit_chain.proofs.ReadingLemmas.{header_read}
use Rattle.audit_chain.proofs.reading.Reading.open.Goals as goal

pub returns-in-Some : goal.returns-in-Some
returns-in-Some c = (
  rw c.new.ensures (header_read c.args.row.now c.in-Some.version (sym c.in_ok-version.ensures ∙ c.in-Some.is)),
  rw c.new.ensures (λ k d below. absurd (omega (arith, below))),
)
