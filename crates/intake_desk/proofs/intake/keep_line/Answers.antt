use Rattle.std.proofs.Common.{◌≡◌, ◌+◌, length, ◌∙◌, ap, subst, ◌<◌}
use Rattle.std.proofs.lemmas.List.{length_push}
use Rattle.house_io.specs.Sink.{AppendsWhereTold}
use Rattle.intake_log.specs.declared.limits.TheConstants.{MOST_LINE_BYTES}
use Rattle.intake_desk.specs.Intake.{told_line}
use Rattle.intake_desk.specs.Progress.{GivesFront}
use Rattle.intake_desk.proofs.KeptLemmas.{is-kept, not-above}
use Rattle.intake_desk.proofs.intake.keep_line.Goals as goal

pub returns-in-Ok-tell-clause-keeps : goal.returns-in-Ok-tell-clause-keeps
returns-in-Ok-tell-clause-keeps g c =
    let lines = c.args.log.now.lines in
    let line = c.args.line.now in
    let held : c.count.result ≡ length lines + 1 = c.count.ensures ∙ ap length (c.lines.ensures.lines ∙ c.in-Ok.ensures.appended) ∙ length_push lines line in
    let short : MOST_LINE_BYTES < length line → ⊥ = λ h. let e = c.in-Ok.ensures.long.1 (c.requires.unbroken, h) in cc in (
      is-kept lines line short (λ h. let e = c.in-Ok.ensures.full.1 (c.requires.unbroken, not-above (length line) short, h) in cc),
      record { lines_are = c.in-Ok.ensures.appended; unbroken = c.in-Ok.ensures.unbroken; durable = c.in-Ok.ensures.acknowledged },
      subst (λ n. AppendsWhereTold (g.O.Sink.given c.args.output.now) (g.O.Sink.given c.tell.new.output) (told_line n)) held c.in-Ok-tell.ensures.whole,
    )

pub returns-in-Err-clause-keeps : goal.returns-in-Err-clause-keeps
returns-in-Err-clause-keeps g c =
    let lines = c.args.log.now.lines in
    let line = c.args.line.now in
    let held : c.count.result ≡ length lines + 1 = c.count.ensures ∙ ap length (c.lines.ensures.lines ∙ c.in-Ok.ensures.appended) ∙ length_push lines line in
    let short : MOST_LINE_BYTES < length line → ⊥ = λ h. let e = c.in-Ok.ensures.long.1 (c.requires.unbroken, h) in cc in (
      is-kept lines line short (λ h. let e = c.in-Ok.ensures.full.1 (c.requires.unbroken, not-above (length line) short, h) in cc),
      record { lines_are = c.in-Ok.ensures.appended; unbroken = c.in-Ok.ensures.unbroken; durable = c.in-Ok.ensures.acknowledged },
      subst (λ n. GivesFront (g.O.Sink.given c.args.output.now) (g.O.Sink.given c.tell.new.output) (told_line n)) held c.in-Err.ensures.front,
    )
