use Rattle.std.proofs.Common.{sym, ap, ◌∙◌, length}
use Rattle.house_base.specs.Text.{among}
use Rattle.house_base.proofs.AmongLemmas.{In-among}
use Rattle.house_model.specs.Register.{pair_among}
use Rattle.register_book.specs.Rows.{holds}
use Rattle.register_book.specs.Roll.{names_in, persons_in}
use Rattle.register_book.proofs.NamedLemmas.{where-In}
use Rattle.register_book.proofs.SeenLemmas.{applicants_seen, names_seen, persons_seen, barred_seen}
use Rattle.register_book.proofs.book.Book.count.Goals as goal

pub returns-clause-value : goal.returns-clause-value
returns-clause-value c = c.count.ensures.value ∙ ap length (applicants_seen _ _ _ _ _ c.self.view_is)

pub returns-clause-known_conflicts : goal.returns-clause-known_conflicts
returns-clause-known_conflicts c =
    λ a b e.
    let xs = c.self.inside.roll in
    let barred = barred_seen xs c.self.inside.places c.self.inside.conflicts c.self.inside.pairs c.args.self.now c.self.view_is in
    let found = where-In (holds c.self.inside.conflicts) (persons_in xs) (names_in xs) a b (ap (λ ps. pair_among ps a b) barred ∙ e) in (
      ap (λ ps. among ps a) (sym (persons_seen xs c.self.inside.places c.self.inside.conflicts c.self.inside.pairs c.args.self.now c.self.view_is)) ∙ In-among (persons_in xs) a found.0,
      ap (λ ns. among ns b) (sym (names_seen xs c.self.inside.places c.self.inside.conflicts c.self.inside.pairs c.args.self.now c.self.view_is)) ∙ In-among (names_in xs) b found.1,
    )
