use Rattle.std.proofs.Common.{◌≡◌, ◌++◌, ◌∷◌, [], sym, ap, ◌∙◌, subst}
use Rattle.std.specs.Prelude.{OnOk}
use Rattle.std.specs.FinMap.{entries}
use Rattle.desk_merge.specs.Desk.{CanFollow, IsItem, entry_line}
use Rattle.desk_merge.specs.Held.{item_at}
use Rattle.desk_merge.specs.Joined.{Item}
use Rattle.desk_merge.proofs.HeldLemmas.{item_on_line}
use Rattle.desk_merge.proofs.entries.Entries.push_from.Goals as goal

pub push-requires-clause-line : goal.push-requires-clause-line
push-requires-clause-line c =
    let same = item_on_line c.line.result.now (item_at c.args.others.now c.args.index) c.line.ensures.formed c.line.ensures.value in
    c.line.ensures.value ∙ ap entry_line (sym same)

pub push-requires-clause-formed : goal.push-requires-clause-formed
push-requires-clause-formed c =
    let same = item_on_line c.line.result.now (item_at c.args.others.now c.args.index) c.line.ensures.formed c.line.ensures.value in
    subst IsItem (sym same) c.line.ensures.formed

pub push-requires-clause-behind : goal.push-requires-clause-behind
push-requires-clause-behind c =
    let same = item_on_line c.line.result.now (item_at c.args.others.now c.args.index) c.line.ensures.formed c.line.ensures.value in
    subst (CanFollow (entries c.args.self.now)) (sym same) c.requires.behind

pub returns : goal.returns
returns c =
    let same = item_on_line c.line.result.now (item_at c.args.others.now c.args.index) c.line.ensures.formed c.line.ensures.value in
    subst (λ (e : Item). OnOk c.push.result (entries c.push.new.self ≡ entries c.args.self.now ++ e ∷ [])) same c.push.ensures.ok
