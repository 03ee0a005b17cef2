use Rattle.std.proofs.Common.{◌<◌, ◌∙◌, refl, sym, subst, take, arith}
use Rattle.input_run.specs.Kept.{HasTaken}
use Rattle.input_run.specs.Hearing.{GoOn}
use Rattle.input_run.proofs.HearLemmas.{go_on-none}
use Rattle.input_run.proofs.OpeningLemmas.{ended_at, few_lines, one_more, taken_all}
use Rattle.input_run.proofs.opening.take_opening.Goals as goal

pub loop-index-init : goal.loop-index-init
loop-index-init c = record { taken = λ taken few. (taken, go_on-none c.args.goal); keeps = refl }

pub line-requires : goal.line-requires
line-requires c = subst (λ n. c.loop-index.index < n) c.count-index-end.ensures c.loop-index-test.true

pub returns-in-Ended-clause-takes : goal.returns-in-Ended-clause-takes
returns-in-Ended-clause-takes c = λ taken few.
    let so_far = c.loop-index.invariant.taken taken few in
    let within = subst (λ n. c.loop-index.index < n) c.count-index-end.ensures c.loop-index-test.true in
    let lines = c.args.lines.now in
    ended_at c.args.goal lines c.loop-index.index c.line.result.now c.take_line.new.run c.line.ensures.value within few
    (c.in-Ended.ensures.takes (take c.loop-index.index lines) so_far.0 so_far.1 (few_lines lines c.loop-index.index within few))

pub loop-index-preserved : goal.loop-index-preserved
loop-index-preserved c = record {
  taken = λ taken few.
      let so_far = c.loop-index.invariant.taken taken few in
      let within = subst (λ n. c.loop-index.index < n) c.count-index-end.ensures c.loop-index-test.true in
      let lines = c.args.lines.now in
      let taken = c.in-Going.ensures.takes (take c.loop-index.index lines) so_far.0 so_far.1 (few_lines lines c.loop-index.index within few) in
      let more = sym (one_more lines c.loop-index.index c.line.result.now c.line.ensures.value) in
      (subst (λ ls. HasTaken c.args.goal ls c.take_line.new.run) more taken.0, subst (GoOn c.args.goal) more taken.1);
  keeps = c.in-Going.ensures.keeps ∙ c.loop-index.invariant.keeps;
}

pub returns-clause-takes : goal.returns-clause-takes
returns-clause-takes c = λ taken few.
    taken_all c.args.goal c.args.lines.now c.loop-index.index c.loop-index.run (omega (arith, c.loop-index-test.false, c.loop-index.auto.index-end, c.count-index-end.ensures)) few (c.loop-index.invariant.taken taken few)

pub take_line-requires : goal.take_line-requires
take_line-requires c = c.line.ensures.no_line_feed
