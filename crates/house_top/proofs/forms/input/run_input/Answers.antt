use Rattle.std.proofs.Common.{[]}
use Rattle.house_top.proofs.ReadLemmas.{opened-none}
use Rattle.house_top.proofs.forms.input.run_input.Goals as goal

pub run_behind-requires : goal.run_behind-requires
run_behind-requires g c = ([], opened-none c.args.goal c.new.result c.new.ensures.taken)

pub returns-clause-answer : goal.returns-clause-answer
returns-clause-answer g c = c.run_behind.ensures.answer [] (opened-none c.args.goal c.new.result c.new.ensures.taken)

pub returns-clause-reads : goal.returns-clause-reads
returns-clause-reads g c = c.run_behind.ensures.reads [] (opened-none c.args.goal c.new.result c.new.ensures.taken)
