use Rattle.std.proofs.Common.{refl}
use Rattle.house_core.proofs.SaysLemmas.{says_nothing}
use Rattle.house_core.proofs.state.State.new.Goals as goal

pub returns-clause-says : goal.returns-clause-says
returns-clause-says c = says_nothing _ refl refl c.new.ensures refl refl refl c.no_asides.ensures refl
