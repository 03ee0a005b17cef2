use Rattle.std.proofs.Common.{◌≡◌, sym, ap, ◌∙◌, Some, Err}
use Rattle.house_model.specs.Ending.{Halt}
use Rattle.house_core.specs.declared.round.Stop.TheVariants as stop
use Rattle.house_core.proofs.RefusalLemmas.{blank_goes_on, review_goes_on}
use Rattle.house_core.proofs.SaysLemmas.{blank_says, blank_kept, review_taken}
use Rattle.house_core.proofs.TakeLemmas.{read_formed, bad_not_taken, bad_not_read, bad_no_review, command_ok, command_kept, command_refused, command_short, command_shortage, command_lacks, command_goal, command_same, command_no_review}
use Rattle.house_core.proofs.state.State.take.Goals as goal

pub take_command-requires-clause-formed : goal.take_command-requires-clause-formed
take_command-requires-clause-formed c = read_formed _ _ c.in-House.ensures

pub returns-in-Blank-clause-ok : goal.returns-in-Blank-clause-ok
returns-in-Blank-clause-ok c = λ lines says. blank_goes_on c.args.self.now.goal lines _ c.in-Blank.ensures

pub returns-in-Blank-clause-took : goal.returns-in-Blank-clause-took
returns-in-Blank-clause-took c = λ lines says. blank_kept c.args.self.now.goal lines _ c.in-Blank.ensures

pub returns-in-Blank-clause-says : goal.returns-in-Blank-clause-says
returns-in-Blank-clause-says c = λ lines says. blank_says lines _ _ says c.in-Blank.ensures

pub returns-in-Review-clause-ok : goal.returns-in-Review-clause-ok
returns-in-Review-clause-ok c = λ lines says. review_goes_on c.args.self.now.goal lines _ c.in-Review.ensures.1

pub returns-in-Review-clause-took : goal.returns-in-Review-clause-took
returns-in-Review-clause-took c = λ lines says. (review_taken lines _ _ _ _ says c.requires c.in-Review.ensures.1 (rw c.in-Review.ensures.2 at c.review.ensures.reviews)).0

pub returns-in-Review-clause-says : goal.returns-in-Review-clause-says
returns-in-Review-clause-says c = λ lines says. (review_taken lines _ _ _ _ says c.requires c.in-Review.ensures.1 (rw c.in-Review.ensures.2 at c.review.ensures.reviews)).1

pub returns-in-Some-clause-refused : goal.returns-in-Some-clause-refused
returns-in-Some-clause-refused c = λ lines says r e.
    let same : c.in-Some.sooner ≡ r = cc in
    bad_not_taken lines _ _ says c.in-Bad.verb c.in-Bad.reason c.in-Some.sooner c.in-Bad.ensures (sym c.turned_away.ensures ∙ c.in-Some.is) ∙ ap (λ q. Some (Halt.Refused q)) same

pub returns-in-Some-clause-none_by_review : goal.returns-in-Some-clause-none_by_review
returns-in-Some-clause-none_by_review c = λ h. absurd (bad_no_review _ _ _ c.in-Bad.ensures h)

pub returns-in-None-clause-refused : goal.returns-in-None-clause-refused
returns-in-None-clause-refused c = λ lines says r e.
    let same : c.in-Bad.reason ≡ r = cc in
    bad_not_read lines _ _ says c.in-Bad.verb c.in-Bad.reason c.in-Bad.ensures (sym c.turned_away.ensures ∙ c.in-None.is) ∙ ap (λ q. Some (Halt.Refused q)) same

pub returns-in-None-clause-none_by_review : goal.returns-in-None-clause-none_by_review
returns-in-None-clause-none_by_review c = λ h. absurd (bad_no_review _ _ _ c.in-Bad.ensures h)

pub returns-in-Ok-clause-ok : goal.returns-in-Ok-clause-ok
returns-in-Ok-clause-ok c = λ lines says. (rw c.in-Ok.is at (command_ok lines _ _ says c.in-House.command c.in-House.ensures _ _ c.take_command.ensures.takes)).0

pub returns-in-Ok-clause-took : goal.returns-in-Ok-clause-took
returns-in-Ok-clause-took c = λ lines says. command_kept lines _ _ says c.in-House.command c.in-House.ensures

pub returns-in-Ok-clause-says : goal.returns-in-Ok-clause-says
returns-in-Ok-clause-says c = λ lines says. (rw c.in-Ok.is at (command_ok lines _ _ says c.in-House.command c.in-House.ensures _ _ c.take_command.ensures.takes)).1

pub returns-in-Err-clause-refused : goal.returns-in-Err-clause-refused
returns-in-Err-clause-refused c = λ lines says r e.
    let same : c.in-Err.stop ≡ stop.Refused r = cc in
    command_refused lines _ _ says c.in-House.command c.in-House.ensures _ _ r c.take_command.ensures.takes (c.in-Err.is ∙ ap Err same)

pub returns-in-Err-clause-short : goal.returns-in-Err-clause-short
returns-in-Err-clause-short c = λ lines says s e.
    let same : c.in-Err.stop ≡ stop.Short s = cc in
    command_short lines _ _ says c.in-House.command c.in-House.ensures _ _ s c.take_command.ensures.takes (c.in-Err.is ∙ ap Err same)

pub returns-in-Err-clause-shortage : goal.returns-in-Err-clause-shortage
returns-in-Err-clause-shortage c = λ s e.
    let same : c.in-Err.stop ≡ stop.Short s = cc in
    command_shortage _ c.in-House.command _ _ s c.take_command.ensures.takes (c.in-Err.is ∙ ap Err same)

pub returns-in-Err-clause-memory : goal.returns-in-Err-clause-memory
returns-in-Err-clause-memory c = λ lines says e.
    let same : c.in-Err.stop ≡ stop.Memory = cc in
    command_lacks lines _ _ says c.in-House.command c.in-House.ensures _ _ c.take_command.ensures.takes (c.in-Err.is ∙ ap Err same)

pub returns-in-Err-clause-none_by_review : goal.returns-in-Err-clause-none_by_review
returns-in-Err-clause-none_by_review c = λ h. absurd (command_no_review _ _ c.in-House.ensures h)

pub returns-in-Ok-clause-goal : goal.returns-in-Ok-clause-goal
returns-in-Ok-clause-goal c = command_goal _ c.in-House.command _ _ c.take_command.ensures.takes

pub returns-in-Err-clause-goal : goal.returns-in-Err-clause-goal
returns-in-Err-clause-goal c = command_goal _ c.in-House.command _ _ c.take_command.ensures.takes

pub returns-in-Err-clause-err : goal.returns-in-Err-clause-err
returns-in-Err-clause-err c = command_same _ c.in-House.command _ _ c.in-Err.stop c.take_command.ensures.takes c.in-Err.is
