use Rattle.std.proofs.Common.{◌≡◌, ◌<◌, [], length, sym, ap, ◌∙◌, arith, Some}
use Rattle.std.specs.FinMap.{entries, len-entries}
use Rattle.desk_merge.specs.Entry.{item_of}
use Rattle.desk_merge.specs.Held.{item_at}
use Rattle.desk_merge.proofs.HeldLemmas.{one_item, some_at}
use Rattle.desk_merge.proofs.entries.Entries.entry.Goals as goal

pub returns-clause-value : goal.returns-clause-value
returns-clause-value c =
    let m = c.args.self.now in
    let within : c.args.index < length (entries m) = omega (arith, len-entries m, c.requires) in
    let same : item_at m c.args.index ≡ item_of c.in-Some.entry =
    one_item (item_at m c.args.index) (item_of c.in-Some.entry) _ c.line.ensures.formed c.in-Some.ensures.formed (sym c.line.ensures.value ∙ c.in-Some.ensures.found) in
    some_at (entries m) c.args.index (([], []), (0, 0)) within ∙ ap Some same
