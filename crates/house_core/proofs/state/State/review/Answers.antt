use Rattle.std.proofs.Common.{sym, ◌∙◌}
use Rattle.house_core.proofs.SaysLemmas.{in_time}
use Rattle.house_core.proofs.state.State.review.Goals as goal

pub unreachable-requires : goal.unreachable-requires
unreachable-requires c = in_time c.args.self.now c.args.line.now c.requires (sym c.kind_before.ensures ∙ c.in_default.is) c.in_default-round.is
