use Rattle.std.proofs.Common.{sym}
use Rattle.audit_chain.proofs.PartLemmas.{parts_at_feed, parts_without_feed}
use Rattle.audit_chain.proofs.parts.first_row.Goals as goal

pub returns-in-Some-clause-found : goal.returns-in-Some-clause-found
returns-in-Some-clause-found c =
    rw (c.split_at.ensures.front, c.split_at.ensures.back) (parts_at_feed c.args.bytes.now c.in-Some.end (sym c.in-Some.ensures.value))

pub returns-in-None-clause-none : goal.returns-in-None-clause-none
returns-in-None-clause-none c = parts_without_feed c.args.bytes.now c.in-None.ensures.none
