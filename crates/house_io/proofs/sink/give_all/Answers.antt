use Rattle.std.proofs.Common.{◌++◌, ◌-◌, take, drop, length, length-drop, subst, arith}
use Rattle.std.proofs.Math.Seq.{take-add}
use Rattle.std.proofs.lemmas.List.{take_all}
use Rattle.house_io.specs.Sink.{AppendsWhereTold}
use Rattle.std.proofs.lemmas.Grind.{common_steps}
use Rattle.house_io.proofs.Told.{AppendsWhereTold-trans}
use Rattle.house_io.proofs.sink.give_all.Goals as goal

pub loop-at-preserved : goal.loop-at-preserved
loop-at-preserved g c =
    let given = g.O.Sink.given in
    let more = AppendsWhereTold-trans (given c.args.output.now) (given c.loop-at.output) (given c.give.new.self) _ _ c.loop-at.invariant.given_so_far c.in_ok-at.ensures.appended in
    let piece_is = take_all (length c.args.text.now - c.loop-at.at) (drop c.loop-at.at c.args.text.now) (omega (arith, length-drop c.loop-at.at c.args.text.now)) in
    record {
      within = grind (arith, common_steps);
      given_so_far = rw (take-add c.loop-at.at c.in_ok-at.field-0 c.args.text.now) (subst (λ bytes. AppendsWhereTold (given c.args.output.now) (given c.give.new.self) (take c.loop-at.at c.args.text.now ++ take c.in_ok-at.field-0 bytes)) piece_is more);
      never_fell = omega arith;
    }
