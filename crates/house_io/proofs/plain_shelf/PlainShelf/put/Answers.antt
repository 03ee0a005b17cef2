use Rattle.std.proofs.Common.{ℕ, List, IsSome, sym, subst}
use Rattle.std.proofs.lemmas.Result.{IfOk-weaker}
use Rattle.std.specs.FinMap.{get}
use Rattle.house_io.specs.Files.{Contents}
use Rattle.house_io.proofs.Contents.{held-insert, held-before_insert}
use Rattle.house_io.proofs.plain_shelf.PlainShelf.put.Goals as goal

pub returns-clause-held : goal.returns-clause-held
returns-clause-held c =
    IfOk-weaker c.put.result _ _ (λ _ stored. subst (λ files. IsSome (get files c.args.name.now)) (sym stored) (held-insert _ _ _)) c.put.ensures.stored

pub returns-clause-others : goal.returns-clause-others
returns-clause-others c =
    let is_held : List ℕ → Contents → Type 0 = λ name files. IsSome (get files name) in
    IfOk-weaker c.put.result _ _ (λ _ stored other held.
    subst (is_held other) (sym stored) (held-before_insert c.self.inside.files c.args.name.now c.args.bytes.items other (subst (is_held other) (sym c.self.view_is) held))) c.put.ensures.stored
