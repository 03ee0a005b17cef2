use Rattle.std.proofs.Common.{◌∙◌, refl, arith}
use Rattle.input_run.proofs.InputLemmas.{piece_heard}
use Rattle.input_run.proofs.PieceLemmas.{piece_end, piece_ended, piece_failed, piece_going, piece_memory, piece_over}
use Rattle.input_run.proofs.piece.take_piece.Goals as goal

pub returns-in-Ok-eq0-clause-takes : goal.returns-in-Ok-eq0-clause-takes
returns-in-Ok-eq0-clause-takes g c = λ goal opening before heard.
    piece_end goal opening before (g.I.Source.left c.args.input.now) (g.I.Source.left c.take.new.self) c.take.new.buf c.in-Ok-eq0.field-0 c.args.hearing.now heard c.in-Ok-eq0.ensures.taken (c.take.auto.buf ∙ c.requires)
    (cc) (c.in-Ok-eq0.ensures.end (cc) (omega (arith, c.requires)))

pub returns-in-Going-clause-takes : goal.returns-in-Going-clause-takes
returns-in-Going-clause-takes g c = λ goal opening before heard.
    piece_going goal opening before (g.I.Source.left c.args.input.now) (g.I.Source.left c.take.new.self) c.take.new.buf c.in-Ok.count c.args.hearing.now c.hear.new.self heard c.in-Ok.ensures.taken (c.take.auto.buf ∙ c.requires)
    c.in-Ok.count-test.1 (omega (arith, c.in-Ok.ensures.count, c.take.auto.buf)) (piece_heard goal opening heard.0 _ c.take.new.buf c.in-Ok.count c.hear.new.self (c.in-Going.ensures.hears goal opening heard.0 heard.2) refl)

pub returns-in-Ended-clause-takes : goal.returns-in-Ended-clause-takes
returns-in-Ended-clause-takes g c = λ goal opening before heard.
    piece_ended goal opening before (g.I.Source.left c.args.input.now) (g.I.Source.left c.take.new.self) c.take.new.buf c.in-Ok.count c.args.hearing.now c.hear.new.self heard c.in-Ok.ensures.taken (c.take.auto.buf ∙ c.requires)
    (c.in-Ended.ensures.hears goal opening heard.0 heard.2)

pub returns-in-Over-clause-takes : goal.returns-in-Over-clause-takes
returns-in-Over-clause-takes g c = λ goal opening before heard.
    piece_over goal opening before (g.I.Source.left c.args.input.now) (g.I.Source.left c.take.new.self) c.take.new.buf c.in-Ok.count c.args.hearing.now c.hear.new.self heard c.in-Ok.ensures.taken (c.take.auto.buf ∙ c.requires)
    (c.in-Over.ensures.hears goal opening heard.0 heard.2)

pub returns-in-Memory-clause-takes : goal.returns-in-Memory-clause-takes
returns-in-Memory-clause-takes g c = λ goal opening before heard.
    piece_memory goal opening before (g.I.Source.left c.args.input.now) (g.I.Source.left c.take.new.self) c.take.new.buf c.in-Ok.count c.args.hearing.now c.hear.new.self heard c.in-Ok.ensures.taken (c.take.auto.buf ∙ c.requires)

pub returns-in-Err-clause-takes : goal.returns-in-Err-clause-takes
returns-in-Err-clause-takes g c = λ goal opening before heard.
    piece_failed goal opening before (g.I.Source.left c.args.input.now) (g.I.Source.left c.take.new.self) c.args.hearing.now heard c.in-Err.ensures.untouched
