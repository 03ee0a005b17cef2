use Rattle.std.proofs.Common.{sym, ap, ◌∙◌, position, bytes_eq}
use Rattle.house_base.specs.Text.{among}
use Rattle.register_book.specs.Roll.{own_in}
use Rattle.register_book.proofs.RollLemmas.{own_in-unknown, own_in-at}
use Rattle.register_book.proofs.roll.Roll.own_count.Goals as goal

pub returns-in-Some : goal.returns-in-Some
returns-in-Some c =
    own_in-at c.self.inside.applicants.items c.args.person c.in-Some.number c.index.result.now c.self.inside.own.items c.self.invariant.own_are
    (sym (c.in-Some.ensures.number ∙ ap (position (bytes_eq c.args.person)) c.self.invariant.persons_are)) c.index.ensures
    ∙ ap (λ xs. own_in xs c.args.person) c.self.view_is

pub returns-in-None : goal.returns-in-None
returns-in-None c =
    sym (ap (λ xs. own_in xs c.args.person) (sym c.self.view_is)
    ∙ own_in-unknown c.self.inside.applicants.items c.args.person
    (ap (λ ps. among ps c.args.person) (sym c.self.invariant.persons_are) ∙ sym c.in-None.ensures.known))
