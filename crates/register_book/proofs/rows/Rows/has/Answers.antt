use Rattle.std.proofs.Common.{◌+◌, ◌*◌, sym, ap, ◌∙◌, arith}
use Rattle.std.proofs.lemmas.Bool.{ltb-false}
use Rattle.register_book.specs.Rows.{holds}
use Rattle.register_book.specs.declared.rows.TheConstants.{ROW_BITS}
use Rattle.register_book.proofs.BitLemmas.{is_set-test, holds-within, holds-past}
use Rattle.register_book.proofs.rows.Rows.has.Goals as goal

pub returns-in-Some : goal.returns-in-Some
returns-in-Some c =
    is_set-test c.deref.result.now (c.args.row * ROW_BITS + c.args.column) c.in-Some.word.now (c.in-Some.ensures.lookup.4 (omega arith) 0)
    ∙ (holds-within c.deref.result.now c.args.row c.args.column c.requires
    ∙ ap (λ words. holds words c.args.row c.args.column) (c.deref.ensures.value ∙ c.self.view_is))

pub returns-in-None : goal.returns-in-None
returns-in-None c =
    sym (ap (λ words. holds words c.args.row c.args.column) (sym (c.deref.ensures.value ∙ c.self.view_is))
    ∙ holds-past c.deref.result.now c.args.row c.args.column (ltb-false _ _ (sym c.in-None.ensures.lookup.0)))
