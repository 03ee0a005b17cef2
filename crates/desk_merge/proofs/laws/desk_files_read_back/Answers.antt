use Rattle.std.proofs.Common.{refl}
use Rattle.desk_merge.proofs.UniqueLemmas.{reads_once}
use Rattle.desk_merge.proofs.laws.desk_files_read_back.Goals as goal

pub returns-clause-back : goal.returns-clause-back
returns-clause-back c = λ m items. (refl, items)

pub returns-clause-file : goal.returns-clause-file
returns-clause-file c = λ bytes m reads. reads.0

pub returns-clause-one_way : goal.returns-clause-one_way
returns-clause-one_way c = reads_once
