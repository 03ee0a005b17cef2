use Rattle.std.proofs.Common.{rules}
use Rattle.review_desk.specs.Line.{kind_before}
use Rattle.review_desk.proofs.kind.kind_before.Goals as goal

pub returns-then-not-line : goal.returns-then-not-line
unfolding kind_before
returns-then-not-line c = search rules

pub returns-in-Opening : goal.returns-in-Opening
unfolding kind_before
returns-in-Opening c = search rules

pub returns-in-Reviewing : goal.returns-in-Reviewing
unfolding kind_before
returns-in-Reviewing c = search rules

pub returns-in-Closed : goal.returns-in-Closed
unfolding kind_before
returns-in-Closed c = search rules
