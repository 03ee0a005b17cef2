use Rattle.std.proofs.Common.{◌≡◌, sym, ap, ◌∙◌}
use Rattle.std.specs.FinMap.{empty, empty_of_len}
use Rattle.desk_merge.specs.Joined.{join}
use Rattle.desk_merge.proofs.JoinLemmas.{join-comm, join-empty}
use Rattle.house_top.proofs.desks.joined_with.Goals as goal

pub returns-then-count-eq0 : goal.returns-then-count-eq0
returns-then-count-eq0 c =
    let none : c.args.joined ≡ empty = empty_of_len c.args.joined (sym c.count.ensures ∙ c.if-count-eq0.true) in
    sym (ap (λ m. join m c.args.entries) none ∙ join-comm empty c.args.entries ∙ join-empty c.args.entries)
