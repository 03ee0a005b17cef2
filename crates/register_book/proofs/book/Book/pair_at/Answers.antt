use Rattle.std.proofs.Common.{ap, ◌∙◌, sym, length, slice_get, arith, Some}
use Rattle.house_model.specs.Register.{persons}
use Rattle.register_book.specs.Held.{text_at}
use Rattle.register_book.specs.Roll.{names_in, persons_in}
use Rattle.register_book.proofs.NamedLemmas.{length-named, named-at}
use Rattle.register_book.proofs.SeenLemmas.{applicants_seen, names_seen, persons_seen, pairs_seen, pair_known}
use Rattle.register_book.proofs.book.Book.pair_at.Goals as goal

pub at-requires : goal.at-requires
at-requires c =
    let xs = c.self.inside.roll in
    omega (arith, c.requires, length-named (persons_in xs) (names_in xs) c.self.inside.pairs.pairs, ap length (pairs_seen _ _ _ _ _ c.self.view_is))

pub returns-clause-person_below : goal.returns-clause-person_below
returns-clause-person_below c =
    omega (
      arith,
      (pair_known _ _ _ _ c.self.invariant c.args.index c.at.result c.at.ensures).0,
      ap length (persons_seen _ _ _ _ _ c.self.view_is),
    )

pub returns-clause-proposal_below : goal.returns-clause-proposal_below
returns-clause-proposal_below c =
    omega (
      arith,
      (pair_known _ _ _ _ c.self.invariant c.args.index c.at.result c.at.ensures).1,
      ap length (applicants_seen _ _ _ _ _ c.self.view_is),
    )

pub returns-clause-names : goal.returns-clause-names
returns-clause-names c =
    let xs = c.self.inside.roll in
    let p = c.at.result in
    ap (λ l. slice_get l c.args.index) (sym (pairs_seen _ _ _ _ _ c.self.view_is))
    ∙ (named-at (persons_in xs) (names_in xs) c.self.inside.pairs.pairs c.args.index p c.at.ensures
    ∙ (ap (λ l. Some (text_at l p.0, text_at (names_in xs) p.1)) (persons_seen _ _ _ _ _ c.self.view_is)
    ∙ ap (λ l. Some (text_at (persons c.args.self.now) p.0, text_at l p.1)) (names_seen _ _ _ _ _ c.self.view_is)))
