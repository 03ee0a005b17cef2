use Rattle.std.proofs.Common.{ap, ◌∙◌, subst, sym, arith}
use Rattle.reserve_list.specs.Held.{IsHeld}
use Rattle.reserve_list.specs.Board.{cluster_on, quota_on}
use Rattle.reserve_list.proofs.BoardLemmas.{chance-gone, chance-stays, gone-here, rank-held, reserve-some}
use Rattle.reserve_list.proofs.board.Board.chance.Goals as goal

pub returns-then-index : goal.returns-then-index
returns-then-index c =
    let b = c.args.self.now in
    let held : IsHeld b c.self.inside.ranks.items = subst (λ v. IsHeld v c.self.inside.ranks.items) c.self.view_is c.self.invariant in
    let gone = sym (gone-here b c.self.inside.gone.items c.args.number c.index.result.now held.board (ap (λ v. v.gone) c.self.view_is) c.requires c.index.ensures) ∙ c.if-index.true in
    sym (chance-gone b c.args.number gone)

pub chance-requires-clause-rank : goal.chance-requires-clause-rank
chance-requires-clause-rank c =
    let b = c.args.self.now in
    let held : IsHeld b c.self.inside.ranks.items = subst (λ v. IsHeld v c.self.inside.ranks.items) c.self.view_is c.self.invariant in
    let is = rank-held b c.self.inside.ranks.items c.args.number c.index-2.result.now held c.requires in
    omega (arith, c.index-2.ensures, is, reserve-some b c.args.number held.board.ranked c.requires)

pub returns : goal.returns
returns c =
    let b = c.args.self.now in
    let held : IsHeld b c.self.inside.ranks.items = subst (λ v. IsHeld v c.self.inside.ranks.items) c.self.view_is c.self.invariant in
    let stays = sym (gone-here b c.self.inside.gone.items c.args.number c.index.result.now held.board (ap (λ v. v.gone) c.self.view_is) c.requires c.index.ensures) ∙ c.if-index.false in
    chance-stays b c.args.number c.index-2.result.now c.quota-quota.result c.den.result c.chance.result held.board.ranked c.requires stays
    (c.index-2.ensures ∙ rank-held b c.self.inside.ranks.items c.args.number c.index-2.result.now held c.requires)
    (c.quota-quota.ensures ∙ ap (λ v. quota_on v.outcome (cluster_on v.outcome c.args.number)) c.self.view_is)
    (c.den.ensures ∙ ap (λ v. v.outcome.den) c.self.view_is)
    c.chance.ensures.counted
