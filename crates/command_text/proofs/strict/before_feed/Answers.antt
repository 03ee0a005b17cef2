use Rattle.command_text.proofs.StrictLemmas.{strict_text, strict_text_missing}
use Rattle.command_text.proofs.strict.before_feed.Goals as goal

pub returns-clause-found : goal.returns-clause-found
returns-clause-found c = strict_text c.strip_suffix.result c.args.line.now c.strip_suffix.ensures.cases

pub returns-clause-none : goal.returns-clause-none
returns-clause-none c = strict_text_missing c.strip_suffix.result c.args.line.now c.strip_suffix.ensures.cases
