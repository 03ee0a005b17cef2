use Rattle.std.proofs.Common.{ap, ◌∙◌, sym, subst, arith}
use Rattle.reserve_list.specs.Board.{number_of}
use Rattle.reserve_list.specs.Held.{IsHeld}
use Rattle.reserve_list.proofs.BoardLemmas.{gone-here}
use Rattle.reserve_list.proofs.NameLemmas.{not_refused, number-below, withdrawal-made}
use Rattle.reserve_list.proofs.board.Board.withdraw.Goals as goal

pub index-requires : goal.index-requires
index-requires c =
    let below = number-below c.self.inside.outcome c.args.name c.in-Some.number (sym c.number_of.ensures ∙ c.in-Some.is) in
    omega (arith, below, c.self.invariant.board.each)

pub returns-then-index-clause-gone : goal.returns-then-index-clause-gone
returns-then-index-clause-gone c =
    let b = c.args.self.now in
    let held : IsHeld b c.self.inside.ranks.items = subst (λ v. IsHeld v c.self.inside.ranks.items) c.self.view_is c.self.invariant in
    let named = sym (ap (λ v. number_of v.outcome c.args.name) c.self.view_is) ∙ sym c.number_of.ensures ∙ c.in-Some.is in
    let below = number-below b.outcome c.args.name c.in-Some.number named in
    let gone = sym (gone-here b c.self.inside.gone.items c.in-Some.number c.index.result.now held.board (ap (λ v. v.gone) c.self.view_is) below c.index.ensures) ∙ c.if-index.true in
    (λ e. (c.in-Some.number, named, gone), λ e. cc)

pub moved-moved-requires-clause-number : goal.moved-moved-requires-clause-number
moved-moved-requires-clause-number c =
    number-below c.args.self.now.outcome c.args.name c.in-Some.number (sym (ap (λ v. number_of v.outcome c.args.name) c.self.view_is) ∙ sym c.number_of.ensures ∙ c.in-Some.is)

pub moved-moved-requires-clause-stays : goal.moved-moved-requires-clause-stays
moved-moved-requires-clause-stays c =
    let b = c.args.self.now in
    let held : IsHeld b c.self.inside.ranks.items = subst (λ v. IsHeld v c.self.inside.ranks.items) c.self.view_is c.self.invariant in
    let named = sym (ap (λ v. number_of v.outcome c.args.name) c.self.view_is) ∙ sym c.number_of.ensures ∙ c.in-Some.is in
    let below = number-below b.outcome c.args.name c.in-Some.number named in
    sym (gone-here b c.self.inside.gone.items c.in-Some.number c.index.result.now held.board (ap (λ v. v.gone) c.self.view_is) below c.index.ensures) ∙ c.if-index.false

pub set_gone-requires-clause-number : goal.set_gone-requires-clause-number
set_gone-requires-clause-number c =
    number-below c.args.self.now.outcome c.args.name c.in-Some.number (sym (ap (λ v. number_of v.outcome c.args.name) c.self.view_is) ∙ sym c.number_of.ensures ∙ c.in-Some.is)

pub set_gone-requires-clause-stays : goal.set_gone-requires-clause-stays
set_gone-requires-clause-stays c =
    let b = c.args.self.now in
    let held : IsHeld b c.self.inside.ranks.items = subst (λ v. IsHeld v c.self.inside.ranks.items) c.self.view_is c.self.invariant in
    let named = sym (ap (λ v. number_of v.outcome c.args.name) c.self.view_is) ∙ sym c.number_of.ensures ∙ c.in-Some.is in
    let below = number-below b.outcome c.args.name c.in-Some.number named in
    sym (gone-here b c.self.inside.gone.items c.in-Some.number c.index.result.now held.board (ap (λ v. v.gone) c.self.view_is) below c.index.ensures) ∙ c.if-index.false

pub returns-else-index-clause-ok : goal.returns-else-index-clause-ok
returns-else-index-clause-ok c =
    let b = c.args.self.now in
    let held : IsHeld b c.self.inside.ranks.items = subst (λ v. IsHeld v c.self.inside.ranks.items) c.self.view_is c.self.invariant in
    let named = sym (ap (λ v. number_of v.outcome c.args.name) c.self.view_is) ∙ sym c.number_of.ensures ∙ c.in-Some.is in
    let below = number-below b.outcome c.args.name c.in-Some.number named in
    let stays = sym (gone-here b c.self.inside.gone.items c.in-Some.number c.index.result.now held.board (ap (λ v. v.gone) c.self.view_is) below c.index.ensures) ∙ c.if-index.false in
    withdrawal-made b c.args.name c.in-Some.number c.set_gone.new.self c.moved-moved.result held.board named stays c.set_gone.ensures c.moved-moved.ensures

pub returns-else-index-clause-gone : goal.returns-else-index-clause-gone
returns-else-index-clause-gone c =
    let b = c.args.self.now in
    let held : IsHeld b c.self.inside.ranks.items = subst (λ v. IsHeld v c.self.inside.ranks.items) c.self.view_is c.self.invariant in
    let named = sym (ap (λ v. number_of v.outcome c.args.name) c.self.view_is) ∙ sym c.number_of.ensures ∙ c.in-Some.is in
    let below = number-below b.outcome c.args.name c.in-Some.number named in
    let stays = sym (gone-here b c.self.inside.gone.items c.in-Some.number c.index.result.now held.board (ap (λ v. v.gone) c.self.view_is) below c.index.ensures) ∙ c.if-index.false in
    (λ e. absurd (cc), λ refused. absurd (not_refused b c.args.name c.in-Some.number named stays refused))
