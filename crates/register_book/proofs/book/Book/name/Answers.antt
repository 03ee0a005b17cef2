use Rattle.std.proofs.Common.{sym, ap, ◌∙◌, length, slice_get, arith}
use Rattle.register_book.proofs.SeenLemmas.{applicants_seen, names_seen}
use Rattle.register_book.proofs.book.Book.name.Goals as goal

pub name-requires : goal.name-requires
name-requires c = omega (arith, ap length (applicants_seen _ _ _ _ _ c.self.view_is), c.requires)

pub returns : goal.returns
returns c = ap (λ l. slice_get l c.args.number) (sym (names_seen _ _ _ _ _ c.self.view_is)) ∙ c.name.ensures
