use Rattle.std.proofs.Common.{◌≡◌, ◌-◌, ◌++◌, ◌<◌, ap, ◌∙◌, sym, subst, length, drop, take, get_or, cond, arith, false}
use Rattle.std.proofs.lemmas.List.{take_at}
use Rattle.reserve_list.specs.Board.{BoardParts, and_gone, count_of, is_behind, is_gone}
use Rattle.reserve_list.specs.Held.{IsHeld}
use Rattle.reserve_list.proofs.BoardLemmas.{held-after, reserve-some}
use Rattle.reserve_list.proofs.board.Board.set_gone.Goals as goal

pub come_forward-requires-clause-some : goal.come_forward-requires-clause-some
come_forward-requires-clause-some c = λ k kl behind.
    let v : BoardParts = record { outcome = c.self.inside.outcome; gone = c.self.inside.gone.items } in
    let some = reserve-some v k c.self.invariant.board.ranked kl in
    omega (arith, some, c.self.invariant.ranks_are k kl, ap (λ xs. get_or xs k 0) c.deref_mut.ensures.value)

pub invariant_of-self : goal.invariant_of-self
invariant_of-self c =
    let v : BoardParts = record { outcome = c.self.inside.outcome; gone = c.self.inside.gone.items } in
    let new = c.come_forward.new.ranks in
    let items = c.self.inside.ranks.items in
    let written : take c.self.inside.ranks.len (new ++ drop (length new) items) ≡ new =
    take_at new (drop (length new) items) c.self.inside.ranks.len (omega (arith, c.come_forward.ensures.each, ap length c.deref_mut.ensures.value, c.self.inside.ranks.ok.0)) in
    let below : c.args.number < count_of c.self.inside.outcome = subst (λ b. c.args.number < count_of b.outcome) (sym c.self.view_is) c.requires.number in
    let stays : is_gone v c.args.number ≡ false = subst (λ b. is_gone b c.args.number ≡ false) (sym c.self.view_is) c.requires.stays in
    subst (IsHeld (and_gone v c.args.number)) (sym written)
    (held-after v c.args.number items new c.self.invariant below stays (c.come_forward.ensures.each ∙ ap length c.deref_mut.ensures.value)
    (λ k kl. c.come_forward.ensures.ranks k kl ∙ ap (λ xs. get_or xs k 0 - cond (is_behind c.self.inside.outcome c.args.number k) 1 0) c.deref_mut.ensures.value))
