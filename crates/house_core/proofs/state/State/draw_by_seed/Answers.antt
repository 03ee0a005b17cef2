use Rattle.std.proofs.Common.{ap, arith}
use Rattle.house_model.specs.Said.{denominator_of}
use Rattle.house_core.specs.declared.state.State.{State}
use Rattle.house_core.proofs.state.State.draw_by_seed.Goals as goal
use Rattle.house_core.proofs.state.State.draw_by_seed.Goals.{in-Some+else-not-is_sealed_by, in_default}

pub draw_of-self-requires : goal.draw_of-self-requires
draw_of-self-requires c = record {
  den = elim c.match-self.branch [
    | in-Some+else-not-is_sealed_by w ↦ omega (arith, c.denominator.ensures, ap (λ (s : State). denominator_of s.book) w.self-is, c.requires.state.some c.requires.assigned)
    | in_default w ↦ omega (arith, c.denominator.ensures, ap (λ (s : State). denominator_of s.book) w.self-is, c.requires.state.some c.requires.assigned)
  ];
}
