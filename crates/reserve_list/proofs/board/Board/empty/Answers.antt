use Rattle.std.proofs.Common.{ap, ◌∙◌, ◌-◌, length}
use Rattle.reserve_list.specs.Board.{empty_on, seats_up_to}
use Rattle.reserve_list.proofs.board.Board.empty.Goals as goal

pub returns : goal.returns
unfolding empty_on
returns c =
    c.saturating_sub.ensures ∙ ap (λ x. x - c.holders.result) (c.all_seats.ensures ∙ ap (λ v. seats_up_to v.outcome (length v.outcome.cluster_rows)) c.self.view_is)
    ∙ ap (λ x. seats_up_to c.args.self.now.outcome (length c.args.self.now.outcome.cluster_rows) - x) c.holders.ensures
