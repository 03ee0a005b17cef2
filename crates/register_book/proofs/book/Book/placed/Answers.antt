use Rattle.std.proofs.Common.{ap, ◌∙◌, length}
use Rattle.register_book.proofs.SeenLemmas.{placed_seen}
use Rattle.register_book.proofs.book.Book.placed.Goals as goal

pub returns : goal.returns
returns c = c.count.ensures ∙ ap length (placed_seen _ _ _ _ _ c.self.view_is)
