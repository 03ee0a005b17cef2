use Rattle.std.proofs.Common.{ap, ◌∙◌, sym, length, arith}
use Rattle.std.proofs.lemmas.List.{length-map}
use Rattle.house_model.specs.Register.{pair_among, persons}
use Rattle.register_book.specs.Held.{text_at}
use Rattle.register_book.specs.Roll.{names_in, persons_in}
use Rattle.register_book.specs.Rows.{holds}
use Rattle.register_book.proofs.NamedLemmas.{pair_among-where}
use Rattle.register_book.proofs.RollLemmas.{persons_in-differ}
use Rattle.register_book.proofs.SeenLemmas.{applicants_seen, names_seen, persons_seen, barred_seen, names_kept_apart}
use Rattle.register_book.proofs.book.Book.barred.Goals as goal

pub returns : goal.returns
returns c =
    let xs = c.self.inside.roll in
    let i = c.args.person in
    let j = c.args.proposal in
    c.has.ensures
    ∙ (sym (pair_among-where (holds c.self.inside.conflicts) (persons_in xs) (names_in xs) i j (persons_in-differ xs) (names_kept_apart _ _ _ _ c.self.invariant)
    (omega (arith, c.requires.person_below, ap length (persons_seen _ _ _ _ _ c.self.view_is)))
    (omega (arith, c.requires.proposal_below, ap length (applicants_seen _ _ _ _ _ c.self.view_is), length-map xs (λ a. a.0))))
    ∙ (ap (λ l. pair_among l (text_at (persons_in xs) i) (text_at (names_in xs) j)) (barred_seen _ _ _ _ _ c.self.view_is)
    ∙ (ap (λ l. pair_among c.args.self.now.barred (text_at l i) (text_at (names_in xs) j)) (persons_seen _ _ _ _ _ c.self.view_is)
    ∙ ap (λ l. pair_among c.args.self.now.barred (text_at (persons c.args.self.now) i) (text_at l j)) (names_seen _ _ _ _ _ c.self.view_is))))
