use Rattle.std.proofs.Common.{sym, refl, ◌∙◌}
use Rattle.house_base.specs.Grid.{cell}
use Rattle.assign_flow.proofs.RerouteLemmas.{changes-none}
use Rattle.assign_flow.proofs.reroute.hold.Goals as goal

pub returns-then-is_held-clause-rerouted : goal.returns-then-is_held-clause-rerouted
returns-then-is_held-clause-rerouted c = λ e. record {
  holds = sym c.is_held.ensures ∙ c.if-is_held.true;
  reviewers = λ r l. refl;
  proposals = λ p l. refl;
  others = λ r p l k f. refl;
  few = changes-none _ (cell c.args.ways.now.held);
}
