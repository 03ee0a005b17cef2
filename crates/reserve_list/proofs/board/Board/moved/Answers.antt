use Rattle.std.proofs.Common.{ap, ◌∙◌, sym, arith}
use Rattle.std.specs.Option.{option_map_or}
use Rattle.reserve_list.specs.Board.{count_of, gains, moves_up, name_on}
use Rattle.reserve_list.specs.declared.fault.Moved.TheVariants as moved
use Rattle.reserve_list.proofs.BoardLemmas.{find-first, find-none}
use Rattle.reserve_list.proofs.MoveLemmas.{gains-none}
use Rattle.reserve_list.proofs.board.Board.moved.Goals as goal

pub returns-then-not-holds : goal.returns-then-not-holds
unfolding moves_up
returns-then-not-holds c =
    let b = c.args.self.now in
    sym (ap (λ up. option_map_or (λ k. moved.Up (name_on b.outcome k)) up moved.Nobody)
    (find-none (gains b c.args.number) (count_of b.outcome)
    (gains-none b c.count-applicants.ensures.board c.args.number c.requires.number c.requires.stays (sym c.holds.ensures ∙ c.if-not-holds.true))))

pub returns-then-gains : goal.returns-then-gains
unfolding moves_up
returns-then-gains c =
    let b = c.args.self.now in
    ap moved.Up c.name.ensures
    ∙ sym (ap (λ up. option_map_or (λ k. moved.Up (name_on b.outcome k)) up moved.Nobody)
    (find-first (gains b c.args.number) (count_of b.outcome) c.loop-other.other (omega (arith, c.loop-other-test.true, c.count-applicants.ensures.value)) (sym c.gains.ensures ∙ c.if-gains.true) c.loop-other.invariant))

pub returns : goal.returns
unfolding moves_up
returns c =
    let b = c.args.self.now in
    sym (ap (λ up. option_map_or (λ k. moved.Up (name_on b.outcome k)) up moved.Nobody)
    (find-none (gains b c.args.number) (count_of b.outcome) (λ k kl. c.loop-other.invariant k (omega (arith, kl, c.loop-other-test.false, c.count-applicants.ensures.value)))))
