use Rattle.std.proofs.Common.{subst, sym}
use Rattle.reserve_list.specs.Board.{IsRanked}
use Rattle.reserve_list.proofs.SevenLemmas.{seven-ranked}
use Rattle.reserve_list.proofs.tests.ranked.Goals as goal

pub returns : goal.returns
returns c = subst IsRanked (sym c.in_ok-outcome.ensures) seven-ranked
