use Rattle.desk_merge.proofs.ReadingLemmas.{is_read, read_as}
use Rattle.desk_merge.proofs.laws.bytes_are_read.Goals as goal

pub returns-clause-reads : goal.returns-clause-reads
returns-clause-reads c = is_read

pub returns-clause-only : goal.returns-clause-only
returns-clause-only c = read_as
