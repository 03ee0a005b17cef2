use Rattle.audit_chain.proofs.WrittenLemmas.{lines_read_back, rows_are_kept, version_read_back}
use Rattle.audit_chain.proofs.laws.rows_are_read_back.Goals as goal

pub returns : goal.returns
returns c = record {
  lines = λ version lines marks text named are ascii. lines_read_back version lines marks named are text ascii;
  rows = λ version lines marks text named are ascii. rows_are_kept version lines marks named are text ascii;
  version = λ version lines marks text named are ascii. version_read_back version lines marks named are text ascii;
}
