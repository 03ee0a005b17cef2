use Rattle.std.proofs.Common.{sym, ap, ◌∙◌, length, slice_get, arith}
use Rattle.register_book.proofs.SeenLemmas.{persons_seen}
use Rattle.register_book.proofs.book.Book.person_name.Goals as goal

pub person_name-requires : goal.person_name-requires
person_name-requires c = omega (arith, ap length (persons_seen _ _ _ _ _ c.self.view_is), c.requires)

pub returns : goal.returns
returns c = ap (λ l. slice_get l c.args.person) (sym (persons_seen _ _ _ _ _ c.self.view_is)) ∙ c.person_name.ensures
