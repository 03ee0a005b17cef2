use Rattle.std.proofs.Common.{◌++◌, ◌∷◌, [], ◌∙◌, refl, sym}
use Rattle.house_model.specs.Reviews.{took_of}
use Rattle.house_model.specs.Ending.{stop_of}
use Rattle.house_model.specs.Runs.{halt}
use Rattle.input_run.specs.declared.line_run.LineRun.{LineRun}
use Rattle.input_run.proofs.HearLemmas.{going_unstopped, line_goes_on, line_settles, line_stops, line_took, refused_stops, short_stops}
use Rattle.input_run.proofs.KeptLemmas.{line_ended, line_taken}
use Rattle.input_run.proofs.line_run.take_line.Goals as goal

pub keep-requires : goal.keep-requires
keep-requires c = c.requires

pub returns-then-is_settled-clause-takes : goal.returns-then-is_settled-clause-takes
returns-then-is_settled-clause-takes c = λ lines taken go few.
    let g = c.args.goal in
    let x = c.args.line.now in
    let new : LineRun = c.keep.new.self in
    let step = c.in-Going.ensures.step g lines taken.stands few in
    let none = going_unstopped (stop_of (halt g) (lines ++ x ∷ [])) (took_of g lines x) c.in-Going.took step in
    let is = line_took (stop_of (halt g) (lines ++ x ∷ [])) (took_of g lines x) c.in-Going.took step in
    let has = line_taken g lines x c.in-Going.took c.args.run.now new c.line.new.self taken go (c.in-Going.ensures.stands g lines taken.stands few (λ e. cc)) c.keep.ensures.house none is
    c.in-Ok.ensures.kept in
    line_settles g lines x (took_of g lines x) c.in-Going.took new go has step (sym c.if-is_settled.true ∙ c.is_settled.ensures (lines ++ x ∷ []) has.stands)

pub returns-else-is_settled-clause-takes : goal.returns-else-is_settled-clause-takes
returns-else-is_settled-clause-takes c = λ lines taken go few.
    let g = c.args.goal in
    let x = c.args.line.now in
    let new : LineRun = c.keep.new.self in
    let step = c.in-Going.ensures.step g lines taken.stands few in
    let none = going_unstopped (stop_of (halt g) (lines ++ x ∷ [])) (took_of g lines x) c.in-Going.took step in
    let is = line_took (stop_of (halt g) (lines ++ x ∷ [])) (took_of g lines x) c.in-Going.took step in
    let has = line_taken g lines x c.in-Going.took c.args.run.now new c.line.new.self taken go (c.in-Going.ensures.stands g lines taken.stands few (λ e. cc)) c.keep.ensures.house none is
    c.in-Ok.ensures.kept in
    (has, line_goes_on g lines x (took_of g lines x) c.in-Going.took go step (sym c.if-is_settled.false ∙ c.is_settled.ensures (lines ++ x ∷ []) has.stands), is)

pub returns-in-Refused-clause-takes : goal.returns-in-Refused-clause-takes
returns-in-Refused-clause-takes c = λ lines taken go few.
    let g = c.args.goal in
    let x = c.args.line.now in
    let old : LineRun = c.args.run.now in
    let new : LineRun = record { house = c.line.new.self; kept = old.kept } in
    let stop = refused_stops (stop_of (halt g) (lines ++ x ∷ [])) (took_of g lines x) _ _ (c.in-Refused.ensures.step g lines taken.stands few) in
    line_stops g lines x new go (line_ended g lines x stop.0 old new taken go (c.in-Refused.ensures.stands g lines taken.stands few (λ e. cc)) stop.1 refl) stop

pub returns-in-Short-clause-takes : goal.returns-in-Short-clause-takes
returns-in-Short-clause-takes c = λ lines taken go few.
    let g = c.args.goal in
    let x = c.args.line.now in
    let old : LineRun = c.args.run.now in
    let new : LineRun = record { house = c.line.new.self; kept = old.kept } in
    let stop = short_stops (stop_of (halt g) (lines ++ x ∷ [])) (took_of g lines x) (c.in-Short.ensures.step g lines taken.stands few) in
    line_stops g lines x new go (line_ended g lines x stop.0 old new taken go (c.in-Short.ensures.stands g lines taken.stands few (λ e. cc)) stop.1 refl) stop
