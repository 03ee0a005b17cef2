use Rattle.std.proofs.Common.{◌≡◌, ◌++◌, ◌∷◌, [], subst}
use Rattle.std.specs.Prelude.{OnOk}
use Rattle.std.specs.FinMap.{entries}
use Rattle.desk_merge.specs.Held.{item_at}
use Rattle.desk_merge.specs.Joined.{Item}
use Rattle.desk_merge.proofs.MergeLemmas.{other_is_greater}
use Rattle.desk_merge.proofs.OrderLemmas.{key_same}
use Rattle.desk_merge.proofs.SortedLemmas.{follows_same}
use Rattle.desk_merge.proofs.entries.Entries.push_better.Goals as goal

pub push_from-requires-clause-behind : goal.push_from-requires-clause-behind
push_from-requires-clause-behind c =
    let x = item_at c.args.one.now c.args.i in
    let y = item_at c.args.other.now c.args.j in
    follows_same c.args.self.now x y c.requires.behind (key_same x.0 y.0 c.requires.same_key)

pub returns-then-is_above : goal.returns-then-is_above
returns-then-is_above c =
    let x = item_at c.args.one.now c.args.i in
    let y = item_at c.args.other.now c.args.j in
    let greater_is = other_is_greater x y c.review.result c.review-2.result c.is_above.result c.requires.same_key c.is_above.ensures c.if-is_above.true c.review.ensures c.review-2.ensures in
    subst (λ (e : Item). OnOk c.push_from.result (entries c.push_from.new.self ≡ entries c.args.self.now ++ e ∷ [])) greater_is c.push_from.ensures
