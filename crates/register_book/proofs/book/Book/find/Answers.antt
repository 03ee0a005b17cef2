use Rattle.std.proofs.Common.{ap, ◌∙◌, position, bytes_eq, arith}
use Rattle.std.proofs.lemmas.List.{length-map}
use Rattle.std.proofs.lemmas.Option.{IfSome_then}
use Rattle.house_base.specs.Text.{among}
use Rattle.house_model.specs.Register.{names}
use Rattle.register_book.proofs.SeenLemmas.{names_seen, found_number, found_below}
use Rattle.register_book.proofs.book.Book.find.Goals as goal

pub returns-clause-value : goal.returns-clause-value
returns-clause-value c = c.find.ensures.number ∙ ap (position (bytes_eq c.args.name)) (names_seen _ _ _ _ _ c.self.view_is)

pub returns-clause-known : goal.returns-clause-known
returns-clause-known c = c.find.ensures.known ∙ ap (λ l. among l c.args.name) (names_seen _ _ _ _ _ c.self.view_is)

pub returns-clause-number : goal.returns-clause-number
returns-clause-number c = found_number (names c.args.self.now) c.args.name c.find.result (returns-clause-value c)

pub returns-clause-below : goal.returns-clause-below
returns-clause-below c =
    IfSome_then c.find.result (found_below (names c.args.self.now) c.args.name c.find.result (returns-clause-value c))
    (λ i l. omega (arith, l, length-map c.args.self.now.applicants (λ a. a.0)))
