use Rattle.std.proofs.Common.{ap, ◌∙◌, subst, sym}
use Rattle.reserve_list.specs.Held.{IsHeld}
use Rattle.reserve_list.specs.Board.{cluster_on, is_behind, seats_on}
use Rattle.reserve_list.proofs.BoardLemmas.{gains-apart, gains-behind, gains-gone, gone-here, rank-held}
use Rattle.reserve_list.proofs.board.Board.gains.Goals as goal

pub returns-then-index : goal.returns-then-index
returns-then-index c =
    let b = c.args.self.now in
    let held : IsHeld b c.self.inside.ranks.items = subst (λ v. IsHeld v c.self.inside.ranks.items) c.self.view_is c.self.invariant in
    let gone = sym (gone-here b c.self.inside.gone.items c.args.other c.index.result.now held.board (ap (λ v. v.gone) c.self.view_is) c.requires.other c.index.ensures) ∙ c.if-index.true in
    sym (gains-gone b c.args.number held.board c.requires.number c.requires.stays c.args.other gone)

pub returns-then-not-is_behind : goal.returns-then-not-is_behind
returns-then-not-is_behind c =
    let b = c.args.self.now in
    let held : IsHeld b c.self.inside.ranks.items = subst (λ v. IsHeld v c.self.inside.ranks.items) c.self.view_is c.self.invariant in
    let there = sym (gone-here b c.self.inside.gone.items c.args.other c.index.result.now held.board (ap (λ v. v.gone) c.self.view_is) c.requires.other c.index.ensures) ∙ c.if-index.false in
    let apart = sym (c.is_behind.ensures ∙ ap (λ v. is_behind v.outcome c.args.number c.args.other) c.self.view_is) ∙ c.if-not-is_behind.true in
    sym (gains-apart b c.args.number held.board c.requires.number c.requires.stays c.args.other there apart)

pub returns : goal.returns
returns c =
    let b = c.args.self.now in
    let held : IsHeld b c.self.inside.ranks.items = subst (λ v. IsHeld v c.self.inside.ranks.items) c.self.view_is c.self.invariant in
    let there = sym (gone-here b c.self.inside.gone.items c.args.other c.index.result.now held.board (ap (λ v. v.gone) c.self.view_is) c.requires.other c.index.ensures) ∙ c.if-index.false in
    let behind = sym (c.is_behind.ensures ∙ ap (λ v. is_behind v.outcome c.args.number c.args.other) c.self.view_is) ∙ c.if-not-is_behind.false in
    c.is_first_without.ensures
    ∙ gains-behind b c.args.number held.board c.requires.number c.requires.stays c.args.other c.index-2.result.now c.seats.result there behind
    (c.index-2.ensures ∙ rank-held b c.self.inside.ranks.items c.args.other c.index-2.result.now held c.requires.other)
    (c.seats.ensures ∙ ap (λ v. seats_on v.outcome (cluster_on v.outcome c.args.other)) c.self.view_is)
