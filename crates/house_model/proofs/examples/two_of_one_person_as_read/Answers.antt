use Rattle.std.proofs.Common.{refl}
use Rattle.house_model.specs.Printed.{rows, applicant_rows, chance_at}
use Rattle.house_model.specs.Text.{words, without_return, lines}
use Rattle.house_model.proofs.examples.two_of_one_person_as_read.Goals as goal

pub returns-clause-names : goal.returns-clause-names
unfolding words without_return lines rows applicant_rows
returns-clause-names c = refl

pub returns-clause-chances : goal.returns-clause-chances
unfolding words without_return lines rows applicant_rows chance_at
returns-clause-chances c = refl
