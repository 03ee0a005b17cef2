use Rattle.std.proofs.Common.{◌≡◌, ap, sym, ◌∙◌, arith}
use Rattle.std.specs.declared.cmp.Ordering.TheVariants.{Greater}
use Rattle.desk_merge.specs.Held.{item_at}
use Rattle.desk_merge.specs.Joined.{key_cmp}
use Rattle.desk_merge.proofs.SortedLemmas.{key_turned}
use Rattle.desk_merge.proofs.merge.next_turn.Goals as goal

pub returns-in-Greater : goal.returns-in-Greater
returns-in-Greater c =
    let x = item_at c.args.one.now c.args.i in
    let y = item_at c.args.other.now c.args.j in
    let order : key_cmp x.0 y.0 ≡ Greater = ap (λ k. key_cmp k y.0) (sym c.key.ensures) ∙ sym c.in-Greater.ensures in
    (omega arith, λ _. key_turned x.0 y.0 Greater order)
