use Rattle.std.proofs.Common.{ap, ◌∙◌, length}
use Rattle.register_book.proofs.SeenLemmas.{persons_seen}
use Rattle.register_book.proofs.book.Book.persons.Goals as goal

pub returns-clause-value : goal.returns-clause-value
returns-clause-value c = c.persons.ensures.value ∙ ap length (persons_seen _ _ _ _ _ c.self.view_is)
