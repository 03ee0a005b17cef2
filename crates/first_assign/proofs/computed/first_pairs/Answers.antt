use Rattle.house_base.specs.Grid.{cell}
use Rattle.first_assign.proofs.SettlingLemmas.{settled-start, first-settled}
use Rattle.first_assign.proofs.computed.first_pairs.Goals as goal

pub settle_all-requires-clause-settled : goal.settle_all-requires-clause-settled
settle_all-requires-clause-settled c =
    settled-start c.args.plan.now c.args.flow (cell c.pairs.result.now) (cell c.in_ok-pairs.pairs) c.requires.flow c.pairs.ensures.meet_all c.pairs.ensures.agree c.in_ok-pairs.ensures.empty

pub returns-clause-first : goal.returns-clause-first
returns-clause-first c = first-settled c.args.plan.now c.settle_all.new.flow (cell c.settle_all.new.pairs) c.settle_all.ensures.settled
