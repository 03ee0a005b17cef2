use Rattle.std.proofs.Common.{◌≡◌, ◌+◌, ◌-◌, ◌/◌, ◌<◌, ap, sym, ◌∙◌, arith, Some}
use Rattle.std.specs.FinMap.{len}
use Rattle.std.specs.declared.cmp.Ordering.TheVariants.{Less, Equal, Greater}
use Rattle.desk_merge.specs.Held.{item_at}
use Rattle.desk_merge.specs.Joined.{Key, key_cmp}
use Rattle.desk_merge.proofs.SortedLemmas.{between_here, between_none, lower_high, raise_low}
use Rattle.desk_merge.proofs.entries.Entries.get.Goals as goal

pub loop-low-preserved-in-Less : goal.loop-low-preserved-in-Less
loop-low-preserved-in-Less c =
    let middle = c.loop-low.low + (c.loop-low.high - c.loop-low.low) / 2 in
    let q : Key = (c.args.reviewer, c.args.proposal) in
    let order : key_cmp q (item_at c.args.self.now middle).0 ≡ Less =
    ap (λ (k : Key). key_cmp k (item_at c.args.self.now middle).0) (λ i. (sym c.bytes.ensures.value i, sym c.bytes-in-loop-low.ensures.value i)) ∙ sym c.in-Less.ensures in
    lower_high c.args.self.now q c.loop-low.low c.loop-low.high middle c.loop-low.invariant (omega arith) order

pub loop-low-preserved : goal.loop-low-preserved
loop-low-preserved c =
    let middle = c.loop-low.low + (c.loop-low.high - c.loop-low.low) / 2 in
    let q : Key = (c.args.reviewer, c.args.proposal) in
    let order : key_cmp q (item_at c.args.self.now middle).0 ≡ Greater =
    ap (λ (k : Key). key_cmp k (item_at c.args.self.now middle).0) (λ i. (sym c.bytes.ensures.value i, sym c.bytes-in-loop-low.ensures.value i)) ∙ sym c.in-Greater.ensures in
    raise_low c.args.self.now q c.loop-low.low c.loop-low.high middle c.loop-low.invariant (omega arith) order

pub returns-in-Equal : goal.returns-in-Equal
returns-in-Equal c =
    let middle = c.loop-low.low + (c.loop-low.high - c.loop-low.low) / 2 in
    let q : Key = (c.args.reviewer, c.args.proposal) in
    let order : key_cmp q (item_at c.args.self.now middle).0 ≡ Equal =
    ap (λ (k : Key). key_cmp k (item_at c.args.self.now middle).0) (λ i. (sym c.bytes.ensures.value i, sym c.bytes-in-loop-low.ensures.value i)) ∙ sym c.in-Equal.ensures in
    let within : middle < len c.args.self.now = omega arith in
    ap Some c.review.ensures ∙ sym (between_here c.args.self.now q middle within order)

pub returns : goal.returns
returns c = sym (between_none c.args.self.now (c.args.reviewer, c.args.proposal) c.loop-low.low c.loop-low.high c.loop-low.invariant (omega arith))
