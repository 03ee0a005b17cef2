use Rattle.std.proofs.Common.{◌++◌, refl, sym, subst, take, ◌∙◌, inl, inr, arith}
use Rattle.std.proofs.lemmas.Grind.{common_steps}
use Rattle.input_run.specs.Hearing.{Advances}
use Rattle.input_run.proofs.HearLemmas.{ended_part, full_heard, heard_all, heard_none, heard_part, some_rest}
use Rattle.input_run.proofs.hearing.Hearing.hear.Goals as goal
use Rattle.input_run.proofs.hearing.Hearing.hear.Goals.{then-self-ge-MOST_BYTES-via-then-self-ge-MOST_BYTES, then-self-ge-MOST_BYTES-via-else-self-ge-MOST_BYTES+then-self-ge-MOST_LINES}

pub returns-then-self-ge-MOST_BYTES-clause-hears : goal.returns-then-self-ge-MOST_BYTES-clause-hears
returns-then-self-ge-MOST_BYTES-clause-hears c = λ g opening heard hears.
    let so_far = c.loop-rest.invariant.heard g opening heard hears in (
      so_far.0,
      c.loop-rest.rest.now,
      so_far.1,
      some_rest c.loop-rest.rest.now (sym c.is_empty.ensures ∙ c.loop-rest-test.true),
      full_heard g opening (heard ++ so_far.0) c.loop-rest.self so_far.2
          (elim c.then-self-ge-MOST_BYTES.branch [
            | then-self-ge-MOST_BYTES-via-then-self-ge-MOST_BYTES w ↦ inl w.if-self-ge-MOST_BYTES.true
            | then-self-ge-MOST_BYTES-via-else-self-ge-MOST_BYTES+then-self-ge-MOST_LINES w ↦ inr w.if-self-ge-MOST_LINES.true
          ]),
    )

pub returns-in_default-clause-hears : goal.returns-in_default-clause-hears
returns-in_default-clause-hears c = λ g opening heard hears.
    let so_far = c.loop-rest.invariant.heard g opening heard hears in
    let advances = c.advance-used.ensures.advances g opening (heard ++ so_far.0) so_far.2 in
    ended_part g opening heard c.args.piece.now so_far.0 c.loop-rest.rest.now _ c.advance-used.result.0 c.min-most.result c.advance-used.result.1 c.advance-used.new.self advances so_far.1
    (grind (arith, common_steps)) c.advance-used.ensures.used c.in_default.not-Going

pub loop-rest-init : goal.loop-rest-init
loop-rest-init c = record {
  heard = λ g opening heard hears. heard_none g opening heard c.args.piece.now c.args.self.now hears;
  keeps = refl;
}

pub loop-rest-preserved : goal.loop-rest-preserved
loop-rest-preserved c = record {
  heard = λ g opening heard hears.
      let so_far = c.loop-rest.invariant.heard g opening heard hears in
      let part = take c.min-most.result c.loop-rest.rest.now in
      let advances = c.advance-used.ensures.advances g opening (heard ++ so_far.0) so_far.2 in
      let goes_on = subst (λ p. Advances g opening ((heard ++ so_far.0) ++ take c.advance-used.result.0 part) p c.advance-used.new.self) c.in-Going.is advances in
      heard_part g opening heard c.args.piece.now so_far.0 c.loop-rest.rest.now part c.advance-used.result.0 c.min-most.result _ c.advance-used.new.self goes_on so_far.1 refl c.advance-used.ensures.used refl;
  keeps = c.advance-used.ensures.keeps ∙ c.loop-rest.invariant.keeps;
}

pub returns-clause-hears : goal.returns-clause-hears
returns-clause-hears c = λ g opening heard hears.
    let so_far = c.loop-rest.invariant.heard g opening heard hears in
    heard_all g opening heard c.args.piece.now so_far.0 c.loop-rest.rest.now c.loop-rest.self so_far.1 (sym c.is_empty.ensures ∙ c.loop-rest-test.false) so_far.2
