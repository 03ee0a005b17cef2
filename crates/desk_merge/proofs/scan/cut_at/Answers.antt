use Rattle.std.proofs.Common.{sym}
use Rattle.desk_merge.proofs.ScanLemmas.{cut_found, front_free, has_byte}
use Rattle.desk_merge.proofs.scan.cut_at.Goals as goal

pub returns-in-Some-clause-found : goal.returns-in-Some-clause-found
returns-in-Some-clause-found c =
    rw (c.split_at.ensures.front, c.split_at.ensures.back) (cut_found c.args.byte c.args.text.now c.in-Some.at (sym c.in-Some.ensures.value))

pub returns-in-Some-clause-free : goal.returns-in-Some-clause-free
returns-in-Some-clause-free c =
    rw c.split_at.ensures.front (front_free c.args.byte c.args.text.now c.in-Some.at (sym c.in-Some.ensures.value))

pub returns-in-None-clause-none : goal.returns-in-None-clause-none
returns-in-None-clause-none c = λ before behind. has_byte c.args.byte c.args.text.now before behind c.in-None.ensures.none
