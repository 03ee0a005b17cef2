use Rattle.std.proofs.Common.{◌≡◌, ◌⊎◌, inr, ◌++◌, length, sym, ◌∙◌, ap, subst, Some, IfSome, IsTrue, is_some}
use Rattle.std.specs.Option.{option_map}
use Rattle.house_io.specs.Sink.{AppendsWhereTold}
use Rattle.house_model.specs.Heard.{whole_lines}
use Rattle.disk_io.specs.Disk.{LeavesOnly}
use Rattle.intake_log.specs.Log.{LeavesLines}
use Rattle.intake_log.specs.Scan.{settled}
use Rattle.intake_log.specs.Start.{IsEarlierOrShort}
use Rattle.intake_log.proofs.JournalLemmas.{held}
use Rattle.intake_desk.specs.Due.{GivesWhole, HasAtLeast, HasLines, IsDue, due_status, lines_to_put, status_of}
use Rattle.intake_desk.specs.Input.{taken_before}
use Rattle.intake_desk.specs.Intake.{kept_behind, told}
use Rattle.intake_desk.specs.Progress.{IsFront}
use Rattle.intake_desk.specs.Words.{asked_for, texts}
use Rattle.intake_desk.specs.declared.words.Asked.TheVariants as asked
use Rattle.intake_desk.specs.declared.status.DeskStatus.TheVariants as status
use Rattle.intake_desk.proofs.CallLemmas.{complete-stopped, due-stopped, has-lines, lines-found, none-given, same-asked, same-given, settled-long, start-front}
use Rattle.intake_desk.proofs.MomentLemmas.{joined, wider}
use Rattle.intake_desk.proofs.call.desk.Goals as goal

pub returns-in-Ok-clause-journal_has_the_lines : goal.returns-in-Ok-clause-journal_has_the_lines
returns-in-Ok-clause-journal_has_the_lines g c asked old lines s whole =
    let l_is : c.in-Ok.log.lines ≡ old = lines-found (g.D.Disk.content c.args.disk) s.bytes c.in-Ok.log.lines old c.in-Ok.ensures.lines s.reads s.journal in
    let a_is : c.in-Some.asked ≡ asked = same-asked (asked_for (texts c.args.words.now.items)) c.in-Some.asked asked (sym c.asked_for.ensures ∙ c.in-Some.is) s.asks in
    let puts : lines_to_put c.in-Some.asked (g.I.Source.left c.args.input.now) ≡ Some lines = ap (λ a. lines_to_put a (g.I.Source.left c.args.input.now)) a_is ∙ s.puts in
    let leaves = held (lines_to_put c.in-Some.asked (g.I.Source.left c.args.input.now)) _ lines puts c.carry_out-status.ensures.has_the_lines whole in
    subst (λ d. HasLines g.D.Disk.content g.D.Disk.images d (old ++ kept_behind old lines)) (sym c.into_disk.ensures)
    (has-lines g.D.Disk.content g.D.Disk.images c.carry_out-status.new.log.disk (old ++ kept_behind old lines) (g.met.D.Disk.reads_may_stay c.carry_out-status.new.log.disk)
    (subst (λ l. LeavesLines g.D.Disk.content g.D.Disk.images c.carry_out-status.new.log.disk (l ++ kept_behind l lines)) l_is leaves))

pub returns-in-Ok-clause-read_fault_keeps_whole_lines : goal.returns-in-Ok-clause-read_fault_keeps_whole_lines
returns-in-Ok-clause-read_fault_keeps_whole_lines g c asked old lines s text rest before after fault =
    let l_is : c.in-Ok.log.lines ≡ old = lines-found (g.D.Disk.content c.args.disk) s.bytes c.in-Ok.log.lines old c.in-Ok.ensures.lines s.reads s.journal in
    let whole = whole_lines (taken_before text rest) in
    let keeps = c.carry_out-status.ensures.keeps_whole_lines text rest before after fault in (
      subst (λ d. HasLines g.D.Disk.content g.D.Disk.images d (old ++ whole)) (sym c.into_disk.ensures)
          (has-lines g.D.Disk.content g.D.Disk.images c.carry_out-status.new.log.disk (old ++ whole) (g.met.D.Disk.reads_may_stay c.carry_out-status.new.log.disk) (subst (λ l. LeavesLines g.D.Disk.content g.D.Disk.images c.carry_out-status.new.log.disk (l ++ whole)) l_is keeps.0)),
      subst (λ l. AppendsWhereTold (g.O.Sink.given c.args.output.now) (g.O.Sink.given c.carry_out-status.new.output) (told (length l) (length whole))) l_is keeps.1,
    )

pub returns-in-Ok-clause-acknowledged : goal.returns-in-Ok-clause-acknowledged
returns-in-Ok-clause-acknowledged g c old lines s count some whole image left =
    let l_is : c.in-Ok.log.lines ≡ old = lines-found (g.D.Disk.content c.args.disk) s.bytes c.in-Ok.log.lines old c.in-Ok.ensures.lines s.reads s.journal in
    let a_is : c.in-Some.asked ≡ asked.Intake = same-asked (asked_for (texts c.args.words.now.items)) c.in-Some.asked asked.Intake (sym c.asked_for.ensures ∙ c.in-Some.is) s.asks in
    let puts : lines_to_put c.in-Some.asked (g.I.Source.left c.args.input.now) ≡ Some lines = ap (λ a. lines_to_put a (g.I.Source.left c.args.input.now)) a_is ∙ s.puts in
    let tells : IsTrue (is_some (g.D.Disk.content c.carry_out-status.new.log.disk)) = c.carry_out-status.ensures.told ∙ c.in-Ok.ensures.told ∙ ap is_some s.reads in
    let least = held (lines_to_put c.in-Some.asked (g.I.Source.left c.args.input.now)) _ lines puts (c.carry_out-status.ensures.acknowledged a_is) count
    (subst (λ l. GivesWhole (g.O.Sink.given c.args.output.now) (g.O.Sink.given c.carry_out-status.new.output) (told (length l) count)) (sym l_is) whole) tells image (subst (λ d. g.D.Disk.images d image) c.into_disk.ensures left) in
    subst (λ l. HasAtLeast count l lines image) l_is least

pub returns-in-Ok-clause-any_moment : goal.returns-in-Ok-clause-any_moment
returns-in-Ok-clause-any_moment g c asked old lines s =
    let l_is : c.in-Ok.log.lines ≡ old = lines-found (g.D.Disk.content c.args.disk) s.bytes c.in-Ok.log.lines old c.in-Ok.ensures.lines s.reads s.journal in
    let a_is : c.in-Some.asked ≡ asked = same-asked (asked_for (texts c.args.words.now.items)) c.in-Some.asked asked (sym c.asked_for.ensures ∙ c.in-Some.is) s.asks in
    let puts : lines_to_put c.in-Some.asked (g.I.Source.left c.args.input.now) ≡ Some lines = ap (λ a. lines_to_put a (g.I.Source.left c.args.input.now)) a_is ∙ s.puts in
    let first = wider g.D.Disk.moment g.D.Disk.images_since c.args.disk c.in-Ok.log.disk (IsEarlierOrShort s.bytes (g.D.Disk.images c.args.disk)) (λ image. g.D.Disk.images c.args.disk image ⊎ IsFront old lines image) (c.in-Ok.ensures.any_moment s.bytes s.reads)
    (start-front s.bytes old lines (g.D.Disk.images c.args.disk) s.journal) in
    let reads : g.D.Disk.content c.in-Ok.log.disk ≡ Some (settled s.bytes) = c.in-Ok.ensures.settled ∙ ap (option_map settled) s.reads in
    let second = wider g.D.Disk.moment g.D.Disk.images_since c.in-Ok.log.disk c.carry_out-status.new.log.disk (IsFront c.in-Ok.log.lines lines) (λ image. g.D.Disk.images c.args.disk image ⊎ IsFront old lines image) (c.carry_out-status.ensures.any_moment lines (settled s.bytes) puts reads)
    (λ image front. inr (subst (λ l. IsFront l lines image) l_is front)) in
    subst (λ d. LeavesOnly g.D.Disk.moment g.D.Disk.images_since c.args.disk d (λ image. g.D.Disk.images c.args.disk image ⊎ IsFront old lines image)) (sym c.into_disk.ensures) (joined g.D.Disk.moment g.D.Disk.images_since c.args.disk c.in-Ok.log.disk c.carry_out-status.new.log.disk (λ image. g.D.Disk.images c.args.disk image ⊎ IsFront old lines image) first second)

pub returns-in-Err-clause-due : goal.returns-in-Err-clause-due
returns-in-Err-clause-due g c =
    let w_is : Some c.in-Some.asked ≡ asked_for (texts c.args.words.now.items) = sym c.in-Some.is ∙ c.asked_for.ensures in
    let due = due-stopped c.in-Some.asked (g.D.Disk.content c.args.disk) (g.I.Source.left c.args.input.now) c.in-Err.stopped.cause c.in-Err.ensures.bad_journal c.in-Err.ensures.full in
    subst (λ w. IfSome (due_status w (g.D.Disk.content c.args.disk) (g.I.Source.left c.args.input.now)) (λ d. IsDue d c.status_of.result)) w_is
    (subst (λ ended. IfSome (due_status (Some c.in-Some.asked) (g.D.Disk.content c.args.disk) (g.I.Source.left c.args.input.now)) (λ d. IsDue d ended)) (sym c.status_of.ensures) due)

pub returns-in-Err-clause-complete : goal.returns-in-Err-clause-complete
returns-in-Err-clause-complete g c read write disk =
    let w_is : Some c.in-Some.asked ≡ asked_for (texts c.args.words.now.items) = sym c.in-Some.is ∙ c.asked_for.ensures in
    let due = due-stopped c.in-Some.asked (g.D.Disk.content c.args.disk) (g.I.Source.left c.args.input.now) c.in-Err.stopped.cause c.in-Err.ensures.bad_journal c.in-Err.ensures.full in
    let complete = complete-stopped c.in-Some.asked (g.D.Disk.content c.args.disk) (g.I.Source.left c.args.input.now) c.in-Err.stopped.cause (λ e. disk (c.in-Err.ensures.failed e)) due in
    subst (λ w. IfSome (due_status w (g.D.Disk.content c.args.disk) (g.I.Source.left c.args.input.now)) (λ d. (c.status_of.result ≡ d) ⊎ (c.status_of.result ≡ status.Memory))) w_is
    (subst (λ ended. IfSome (due_status (Some c.in-Some.asked) (g.D.Disk.content c.args.disk) (g.I.Source.left c.args.input.now)) (λ d. (ended ≡ d) ⊎ (ended ≡ status.Memory))) (sym c.status_of.ensures) complete)

pub returns-in-Err-clause-unstarted : goal.returns-in-Err-clause-unstarted
returns-in-Err-clause-unstarted g c bytes reads none = (
  same-given (g.O.Sink.given c.args.output.now),
  λ sound. c.in-Err.ensures.settled (λ e. sound (c.status_of.ensures ∙ ap status_of e)) ∙ ap (option_map settled) reads ∙ ap Some (settled-long bytes none) ∙ sym reads,
)

pub returns-in-Err-clause-acknowledged : goal.returns-in-Err-clause-acknowledged
returns-in-Err-clause-acknowledged g c old lines s count some whole image left =
    absurd (none-given (g.O.Sink.given c.args.output.now) (length old) count some whole)

pub returns-in-Err-clause-any_moment : goal.returns-in-Err-clause-any_moment
returns-in-Err-clause-any_moment g c asked old lines s =
    wider g.D.Disk.moment g.D.Disk.images_since c.args.disk c.in-Err.stopped.disk (IsEarlierOrShort s.bytes (g.D.Disk.images c.args.disk)) (λ image. g.D.Disk.images c.args.disk image ⊎ IsFront old lines image) (c.in-Err.ensures.any_moment s.bytes s.reads)
    (start-front s.bytes old lines (g.D.Disk.images c.args.disk) s.journal)
