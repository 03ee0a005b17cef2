use Rattle.std.proofs.Common.{◌≡◌, ◌+◌, ◌++◌, take, Some, sym, ap, ◌∙◌, subst}
use Rattle.std.specs.Prelude.{option_copied}
use Rattle.command_text.specs.Cutting.{ended_line}
use Rattle.house_model.specs.Heard.{whole_lines}
use Rattle.input_run.specs.Hearing.{Advances, HasHeard}
use Rattle.input_run.proofs.HearLemmas.{countable, heard_more, line_heard, whole_line_heard}
use Rattle.input_run.proofs.hearing.Hearing.advance.Goals as goal

pub returns-in_default-line-clause-advances : goal.returns-in_default-line-clause-advances
returns-in_default-line-clause-advances c = λ g opening heard hears.
    heard_more g opening heard c.args.piece.now c.args.self.now c.feed.new.self c.in-Ok.fed.used c.in-Ok.fed.whole hears c.in-Ok.ensures.ok
    (sym c.line.ensures.ended ∙ ap option_copied c.in_default-line.is) c.requires.room c.requires.lines

pub returns-in-Some-clause-advances : goal.returns-in-Some-clause-advances
returns-in-Some-clause-advances c = λ g opening heard hears.
    let old = c.args.self.now in
    let own = subst (λ g. HasHeard g opening heard old) (sym hears.goal) hears in
    let takes = c.take_line.ensures.takes (opening ++ whole_lines heard) own.taken own.go_on (countable opening heard own.few own.within) in
    subst (λ g. Advances g opening (heard ++ take c.in-Some.used c.args.piece.now) c.progress.result (record { goal = old.goal; run = c.take_line.new.run; cutter = old.cutter; bytes = old.bytes + c.in-Some.used; lines = old.lines + 1 })) hears.goal
    (subst (λ p. Advances old.goal opening (heard ++ take c.in-Some.used c.args.piece.now) p (record { goal = old.goal; run = c.take_line.new.run; cutter = old.cutter; bytes = old.bytes + c.in-Some.used; lines = old.lines + 1 })) (sym c.progress.ensures)
    (whole_line_heard old.goal opening heard c.args.piece.now old c.in-Some.used c.in-Some.line.now c.take_line.result c.take_line.new.run own c.in-Some.ensures.found c.requires.room c.requires.lines takes))

pub returns-clause-advances : goal.returns-clause-advances
returns-clause-advances c = λ g opening heard hears.
    let old = c.args.self.now in
    let own = subst (λ g. HasHeard g opening heard old) (sym hears.goal) hears in
    let line = c.in-Some-line.line.now in
    let ended : ended_line c.feed.new.self ≡ Some line = sym c.line.ensures.ended ∙ ap option_copied c.in-Some-line.is in
    let takes = c.take_line-2.ensures.takes (opening ++ whole_lines heard) own.taken own.go_on (countable opening heard own.few own.within) in
    subst (λ g. Advances g opening (heard ++ take c.in-Ok.fed.used c.args.piece.now) c.progress-2.result (record { goal = old.goal; run = c.take_line-2.new.run; cutter = c.feed.new.self; bytes = old.bytes + c.in-Ok.fed.used; lines = old.lines + 1 })) hears.goal
    (subst (λ p. Advances old.goal opening (heard ++ take c.in-Ok.fed.used c.args.piece.now) p (record { goal = old.goal; run = c.take_line-2.new.run; cutter = c.feed.new.self; bytes = old.bytes + c.in-Ok.fed.used; lines = old.lines + 1 })) (sym c.progress-2.ensures)
    (line_heard old.goal opening heard c.args.piece.now old c.feed.new.self c.in-Ok.fed.used c.in-Ok.fed.whole line c.take_line-2.result c.take_line-2.new.run own c.in-Ok.ensures.ok ended c.requires.room c.requires.lines takes))

pub take_line-requires : goal.take_line-requires
take_line-requires c = c.in-Some.ensures.no_line_feed

pub take_line-requires-2 : goal.take_line-requires-2
take_line-requires-2 c = c.in-Some-line.ensures.no_line_feed
