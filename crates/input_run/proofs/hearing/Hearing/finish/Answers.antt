use Rattle.std.proofs.Common.{[], ◌++◌, sym, ap, ◌∙◌, subst}
use Rattle.std.specs.Prelude.{option_copied}
use Rattle.house_model.specs.Heard.{whole_lines}
use Rattle.house_model.specs.Text.{lines}
use Rattle.input_run.specs.Hearing.{HasHeard, HasLines, TellsEnd}
use Rattle.input_run.proofs.HearLemmas.{all_heard, countable, last_heard}
use Rattle.input_run.proofs.hearing.Hearing.finish.Goals as goal

pub returns-in-None-clause-ends : goal.returns-in-None-clause-ends
returns-in-None-clause-ends c = λ g opening heard hears. all_heard g opening heard c.args.self hears (sym c.rest.ensures.rest ∙ ap option_copied c.in-None.is)

pub returns-in_default-clause-ends : goal.returns-in_default-clause-ends
returns-in_default-clause-ends c = λ g opening heard hears.
    let own = subst (λ g. HasHeard g opening heard c.args.self) (sym hears.goal) hears in
    let takes = c.take_line.ensures.takes (opening ++ whole_lines heard) own.taken own.go_on (countable opening heard own.few own.within) in
    subst (λ g. HasLines g (opening ++ lines heard) c.take_line.new.run × TellsEnd g opening heard [] (opening ++ lines heard)) hears.goal
    (last_heard c.args.self.goal opening heard c.in-Some.line.now c.args.self c.take_line.result c.take_line.new.run own (sym c.rest.ensures.rest ∙ ap option_copied c.in-Some.is) takes c.in_default.not-Memory)

pub take_line-requires : goal.take_line-requires
take_line-requires c = c.in-Some.ensures.no_line_feed
