use Rattle.command_text.proofs.LineLemmas.{blank_at_once, blank_empty}
use Rattle.command_text.proofs.read.is_blank_at_once.Goals as goal

pub returns-in-empty-clause-blank : goal.returns-in-empty-clause-blank
returns-in-empty-clause-blank c = λ yes. blank_empty c.args.line.now c.in-empty.len_below

pub returns-in-len1-up-clause-blank : goal.returns-in-len1-up-clause-blank
returns-in-len1-up-clause-blank c = λ yes. blank_at_once c.args.line.now yes
