use Rattle.std.proofs.Common.{◌∙◌, refl, arith}
use Rattle.input_run.proofs.PieceLemmas.{more_heard, no_more}
use Rattle.input_run.proofs.piece.take_pieces.Goals as goal

pub pieces-init : goal.pieces-init
pieces-init g c = record { heard = λ goal opening before heard. heard; keeps = refl; never_falls = omega arith }

pub pieces-preserved : goal.pieces-preserved
pieces-preserved g c = record {
  heard = λ goal opening before heard.
      (more_heard goal opening before (g.I.Source.left c.take_piece.new.input) c.pieces.hearing c.take_piece.new.hearing c.in_ok-end.field-0 c.in-None.is
      (c.in_ok-end.ensures.takes goal opening before (c.pieces.invariant.heard goal opening before heard))).0;
  keeps = c.in_ok-end.ensures.keeps ∙ c.pieces.invariant.keeps;
  never_falls = omega (arith, c.pieces.invariant.never_falls, c.in_ok-end.ensures.never_falls);
}

pub pieces-smaller : goal.pieces-smaller
pieces-smaller g c =
    let heard = c.requires.heard in
    (more_heard heard.0 heard.1 heard.2 (g.I.Source.left c.take_piece.new.input) c.pieces.hearing c.take_piece.new.hearing c.in_ok-end.field-0 c.in-None.is
    (c.in_ok-end.ensures.takes heard.0 heard.1 heard.2 (c.pieces.invariant.heard heard.0 heard.1 heard.2 heard.3))).1

pub returns-in-Some-clause-takes : goal.returns-in-Some-clause-takes
returns-in-Some-clause-takes g c = λ goal opening before heard.
    no_more goal opening before (g.I.Source.left c.take_piece.new.input) c.pieces.hearing c.take_piece.new.hearing c.in_ok-end.field-0 c.in-Some.end c.in-Some.is
    (c.in_ok-end.ensures.takes goal opening before (c.pieces.invariant.heard goal opening before heard))
