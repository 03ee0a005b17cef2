use Rattle.std.proofs.Common.{arith}
use Rattle.std.proofs.lemmas.Bool.Decides.{nat_tests}
use Rattle.house_model.specs.Heard.{is_over}
use Rattle.command_text.proofs.cutting.within.Goals as goal

pub returns-then-bytes-le-MOST_BYTES : goal.returns-then-bytes-le-MOST_BYTES
unfolding is_over
returns-then-bytes-le-MOST_BYTES c = grind (arith, nat_tests)

pub returns-else-bytes-le-MOST_BYTES : goal.returns-else-bytes-le-MOST_BYTES
unfolding is_over
returns-else-bytes-le-MOST_BYTES c = grind (arith, nat_tests)
