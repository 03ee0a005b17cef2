use Rattle.std.proofs.Common.{ap, subst}
use Rattle.reserve_list.specs.Held.{IsHeld}
use Rattle.reserve_list.proofs.BoardLemmas.{gone-here}
use Rattle.reserve_list.proofs.board.Board.is_gone.Goals as goal

pub returns : goal.returns
returns c =
    let b = c.args.self.now in
    let held : IsHeld b c.self.inside.ranks.items = subst (λ v. IsHeld v c.self.inside.ranks.items) c.self.view_is c.self.invariant in
    gone-here b c.self.inside.gone.items c.args.number c.index.result.now held.board (ap (λ v. v.gone) c.self.view_is) c.requires c.index.ensures
