use Rattle.std.proofs.Common.{◌≡◌, [], refl}
use Rattle.input_run.specs.declared.fault.InputFault.TheVariants as fault
use Rattle.input_run.proofs.InputLemmas.{no_further-none, taken_none}
use Rattle.input_run.proofs.PieceLemmas.{at_end, by_limit, by_line, end_decides, heard_end, none_heard}
use Rattle.input_run.proofs.input.hear_input.Goals as goal

pub returns-in_err-piece-clause-no_further : goal.returns-in_err-piece-clause-no_further
returns-in_err-piece-clause-no_further g c = λ opening opened.
    let left = g.I.Source.left c.args.input.now in
    no_further-none c.args.goal opening left left left [] c.new-hearing.result (taken_none left) refl (c.new-hearing.ensures.heard opening opened)

pub returns-in-Err-clause-undecided : goal.returns-in-Err-clause-undecided
returns-in-Err-clause-undecided g c = λ opening opened failed.
    let left = g.I.Source.left c.args.input.now in
    let same : c.in-Err.fault ≡ fault.Failed = cc in
    (c.in-Err.ensures.takes c.args.goal opening left (none_heard c.args.goal opening left c.new-hearing.result (c.new-hearing.ensures.heard opening opened))).undecided (cc)

pub returns-in-Err-clause-no_further : goal.returns-in-Err-clause-no_further
returns-in-Err-clause-no_further g c = λ opening opened.
    let left = g.I.Source.left c.args.input.now in
    (c.in-Err.ensures.takes c.args.goal opening left (none_heard c.args.goal opening left c.new-hearing.result (c.new-hearing.ensures.heard opening opened))).no_further

pub returns-in_err-finish-in-Ok-AtEnd-clause-no_further : goal.returns-in_err-finish-in-Ok-AtEnd-clause-no_further
returns-in_err-finish-in-Ok-AtEnd-clause-no_further g c = λ opening opened.
    let left = g.I.Source.left c.args.input.now in
    (c.in-Ok-AtEnd.ensures.takes c.args.goal opening left (none_heard c.args.goal opening left c.new-hearing.result (c.new-hearing.ensures.heard opening opened))).no_further

pub returns-in_ok-finish-in-Ok-AtEnd-clause-heard : goal.returns-in_ok-finish-in-Ok-AtEnd-clause-heard
returns-in_ok-finish-in-Ok-AtEnd-clause-heard g c = λ opening opened.
    let left = g.I.Source.left c.args.input.now in
    let after = g.I.Source.left c.take_pieces.new.input in
    let takes = c.in-Ok-AtEnd.ensures.takes c.args.goal opening left (none_heard c.args.goal opening left c.new-hearing.result (c.new-hearing.ensures.heard opening opened)) in
    let ends = at_end c.args.goal opening left after c.take_pieces.new.hearing c.in-Ok-AtEnd.field-0 c.in-Ok-AtEnd.field-0-is takes in
    let finished = c.in_ok-finish-in-Ok-AtEnd.ensures.ends c.args.goal opening ends.0.0 ends.0.2 in
    heard_end c.args.goal opening left after c.take_pieces.new.hearing c.in_ok-finish-in-Ok-AtEnd.field-0 ends.0 ends.1 finished.0 finished.1

pub returns-in_ok-finish-in-Ok-AtEnd-clause-decided : goal.returns-in_ok-finish-in-Ok-AtEnd-clause-decided
returns-in_ok-finish-in-Ok-AtEnd-clause-decided g c = λ opening opened.
    let left = g.I.Source.left c.args.input.now in
    let after = g.I.Source.left c.take_pieces.new.input in
    let takes = c.in-Ok-AtEnd.ensures.takes c.args.goal opening left (none_heard c.args.goal opening left c.new-hearing.result (c.new-hearing.ensures.heard opening opened)) in
    end_decides c.args.goal opening left after (at_end c.args.goal opening left after c.take_pieces.new.hearing c.in-Ok-AtEnd.field-0 c.in-Ok-AtEnd.field-0-is takes).1

pub returns-in_ok-finish-in-Ok-AtEnd-clause-no_further : goal.returns-in_ok-finish-in-Ok-AtEnd-clause-no_further
returns-in_ok-finish-in-Ok-AtEnd-clause-no_further g c = λ opening opened.
    let left = g.I.Source.left c.args.input.now in
    (c.in-Ok-AtEnd.ensures.takes c.args.goal opening left (none_heard c.args.goal opening left c.new-hearing.result (c.new-hearing.ensures.heard opening opened))).no_further

pub returns-in-Ok-Ended-clause-heard : goal.returns-in-Ok-Ended-clause-heard
returns-in-Ok-Ended-clause-heard g c = λ opening opened.
    let left = g.I.Source.left c.args.input.now in
    let takes = c.in-Ok-Ended.ensures.takes c.args.goal opening left (none_heard c.args.goal opening left c.new-hearing.result (c.new-hearing.ensures.heard opening opened)) in
    (by_line c.args.goal opening left (g.I.Source.left c.take_pieces.new.input) c.take_pieces.new.hearing c.in-Ok-Ended.field-0 c.in-Ok-Ended.field-0-is takes).0

pub returns-in-Ok-Ended-clause-decided : goal.returns-in-Ok-Ended-clause-decided
returns-in-Ok-Ended-clause-decided g c = λ opening opened.
    let left = g.I.Source.left c.args.input.now in
    let takes = c.in-Ok-Ended.ensures.takes c.args.goal opening left (none_heard c.args.goal opening left c.new-hearing.result (c.new-hearing.ensures.heard opening opened)) in
    (by_line c.args.goal opening left (g.I.Source.left c.take_pieces.new.input) c.take_pieces.new.hearing c.in-Ok-Ended.field-0 c.in-Ok-Ended.field-0-is takes).1

pub returns-in-Ok-Ended-clause-no_further : goal.returns-in-Ok-Ended-clause-no_further
returns-in-Ok-Ended-clause-no_further g c = λ opening opened.
    let left = g.I.Source.left c.args.input.now in
    (c.in-Ok-Ended.ensures.takes c.args.goal opening left (none_heard c.args.goal opening left c.new-hearing.result (c.new-hearing.ensures.heard opening opened))).no_further

pub returns-in-Ok-Over-clause-heard : goal.returns-in-Ok-Over-clause-heard
returns-in-Ok-Over-clause-heard g c = λ opening opened.
    let left = g.I.Source.left c.args.input.now in
    let takes = c.in-Ok-Over.ensures.takes c.args.goal opening left (none_heard c.args.goal opening left c.new-hearing.result (c.new-hearing.ensures.heard opening opened)) in
    (by_limit c.args.goal opening left (g.I.Source.left c.take_pieces.new.input) c.take_pieces.new.hearing c.in-Ok-Over.field-0 c.in-Ok-Over.field-0-is takes).0

pub returns-in-Ok-Over-clause-decided : goal.returns-in-Ok-Over-clause-decided
returns-in-Ok-Over-clause-decided g c = λ opening opened.
    let left = g.I.Source.left c.args.input.now in
    let takes = c.in-Ok-Over.ensures.takes c.args.goal opening left (none_heard c.args.goal opening left c.new-hearing.result (c.new-hearing.ensures.heard opening opened)) in
    (by_limit c.args.goal opening left (g.I.Source.left c.take_pieces.new.input) c.take_pieces.new.hearing c.in-Ok-Over.field-0 c.in-Ok-Over.field-0-is takes).1

pub returns-in-Ok-Over-clause-no_further : goal.returns-in-Ok-Over-clause-no_further
returns-in-Ok-Over-clause-no_further g c = λ opening opened.
    let left = g.I.Source.left c.args.input.now in
    (c.in-Ok-Over.ensures.takes c.args.goal opening left (none_heard c.args.goal opening left c.new-hearing.result (c.new-hearing.ensures.heard opening opened))).no_further
