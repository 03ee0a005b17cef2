use Rattle.std.proofs.Common.{ap, ◌∙◌, not, subst, sym}
use Rattle.reserve_list.specs.Held.{IsHeld}
use Rattle.reserve_list.specs.Board.{cluster_on, seats_on}
use Rattle.reserve_list.proofs.BoardLemmas.{gone-here, holds-gone, holds-stays, rank-held}
use Rattle.reserve_list.proofs.board.Board.holds.Goals as goal

pub returns-then-not-index : goal.returns-then-not-index
returns-then-not-index c =
    let b = c.args.self.now in
    let held : IsHeld b c.self.inside.ranks.items = subst (λ v. IsHeld v c.self.inside.ranks.items) c.self.view_is c.self.invariant in
    holds-stays b c.args.number c.from.result c.seats.result
    (sym (gone-here b c.self.inside.gone.items c.args.number c.index.result.now held.board (ap (λ v. v.gone) c.self.view_is) c.requires c.index.ensures) ∙ c.if-not-index.true)
    (c.from.ensures ∙ c.index-rank.ensures ∙ rank-held b c.self.inside.ranks.items c.args.number c.index-rank.result.now held c.requires)
    (c.seats.ensures ∙ ap (λ v. seats_on v.outcome (cluster_on v.outcome c.args.number)) c.self.view_is)

pub returns-else-not-index : goal.returns-else-not-index
returns-else-not-index c =
    let b = c.args.self.now in
    let held : IsHeld b c.self.inside.ranks.items = subst (λ v. IsHeld v c.self.inside.ranks.items) c.self.view_is c.self.invariant in
    let gone = sym (gone-here b c.self.inside.gone.items c.args.number c.index.result.now held.board (ap (λ v. v.gone) c.self.view_is) c.requires c.index.ensures) ∙ c.if-not-index.false in
    ap not c.if-not-index.false ∙ sym (holds-gone b c.args.number gone)
