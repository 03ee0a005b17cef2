use Rattle.std.proofs.Common.{◌≡◌, ◌-◌, ◌+◌, refl, sym, ap, ◌∙◌, arith}
use Rattle.std.specs.FinMap.{len}
use Rattle.desk_merge.specs.Entry.{item_of}
use Rattle.desk_merge.specs.Held.{item_at}
use Rattle.desk_merge.specs.Joined.{Key, key_cmp}
use Rattle.desk_merge.proofs.SortedLemmas.{follows_greater, follows_none, greater_followed}
use Rattle.desk_merge.proofs.entries.Entries.can_follow.Goals as goal

pub returns-then-count-eq0 : goal.returns-then-count-eq0
returns-then-count-eq0 c = (λ _. follows_none c.args.self.now (item_of c.args.entry.now) (sym c.count-count.ensures ∙ c.if-count-eq0.true), λ _. refl)

pub returns : goal.returns
returns c =
    let m = c.args.self.now in
    let e = item_of c.args.entry.now in
    let last = c.count-count.result - 1 in
    let is : last + 1 ≡ len m = omega arith in
    let order : c.order.result ≡ key_cmp e.0 (item_at m last).0 =
    c.order.ensures ∙ ap (λ (k : Key). key_cmp k (item_at m last).0) (λ i. (c.bytes.ensures.value i, c.bytes-2.ensures.value i)) in
    (λ yes. follows_greater m e last is (sym order ∙ c.is_behind.ensures.0 yes), λ follows. c.is_behind.ensures.1 (order ∙ greater_followed m e last is follows))
