use Rattle.std.proofs.Common.{ap, ◌∙◌, sym, length}
use Rattle.register_book.specs.Roll.{names_in, persons_in}
use Rattle.register_book.proofs.NamedLemmas.{length-named}
use Rattle.register_book.proofs.SeenLemmas.{pairs_seen}
use Rattle.register_book.proofs.book.Book.pairs.Goals as goal

pub returns : goal.returns
returns c =
    c.count.ensures ∙ (sym (length-named (persons_in c.self.inside.roll) (names_in c.self.inside.roll) c.self.inside.pairs.pairs) ∙ ap length (pairs_seen _ _ _ _ _ c.self.view_is))
