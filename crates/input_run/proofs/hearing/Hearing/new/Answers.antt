use Rattle.input_run.proofs.HearLemmas.{nothing_heard}
use Rattle.input_run.proofs.hearing.Hearing.new.Goals as goal

pub returns-clause-heard : goal.returns-clause-heard
returns-clause-heard c = λ opening opened. nothing_heard c.args.goal opening c.args.run c.new.result opened c.new.ensures
