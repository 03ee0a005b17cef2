use Rattle.std.proofs.Common.{ap, ◌∙◌, length, arith}
use Rattle.register_book.specs.Held.{text_at}
use Rattle.register_book.specs.Roll.{persons_in}
use Rattle.house_model.specs.Register.{own_count}
use Rattle.register_book.proofs.SeenLemmas.{own_seen, persons_seen}
use Rattle.register_book.proofs.book.Book.own_count.Goals as goal

pub own_at-requires : goal.own_at-requires
own_at-requires c = omega (arith, c.requires, ap length (persons_seen _ _ _ _ _ c.self.view_is))

pub returns-clause-value : goal.returns-clause-value
returns-clause-value c =
    c.own_at.ensures
    ∙ (own_seen _ _ _ _ _ c.self.view_is (text_at (persons_in c.self.inside.roll) c.args.person)
    ∙ ap (λ l. own_count c.args.self.now (text_at l c.args.person)) (persons_seen _ _ _ _ _ c.self.view_is))
