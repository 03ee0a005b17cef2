use Rattle.std.proofs.Common.{ap, ◌∙◌, position, bytes_eq}
use Rattle.house_base.specs.Text.{among}
use Rattle.house_model.specs.Register.{persons}
use Rattle.register_book.proofs.SeenLemmas.{persons_seen, found_number, found_below}
use Rattle.register_book.proofs.book.Book.find_person.Goals as goal

pub returns-clause-value : goal.returns-clause-value
returns-clause-value c = c.find_person.ensures.number ∙ ap (position (bytes_eq c.args.name)) (persons_seen _ _ _ _ _ c.self.view_is)

pub returns-clause-known : goal.returns-clause-known
returns-clause-known c = c.find_person.ensures.known ∙ ap (λ l. among l c.args.name) (persons_seen _ _ _ _ _ c.self.view_is)

pub returns-clause-number : goal.returns-clause-number
returns-clause-number c = found_number (persons c.args.self.now) c.args.name c.find_person.result (returns-clause-value c)

pub returns-clause-below : goal.returns-clause-below
returns-clause-below c = found_below (persons c.args.self.now) c.args.name c.find_person.result (returns-clause-value c)
