use Rattle.std.proofs.Common.{◌≡◌, ◌++◌, ℕ, length, sym, ap, ◌∙◌, append-nil, subst, Some, IfSome, is_some, IsTrue}
use Rattle.house_base.specs.Text.{Text}
use Rattle.house_model.specs.Text.{Lines}
use Rattle.disk_io.specs.Disk.{LeavesOnly}
use Rattle.intake_log.specs.Log.{LeavesLines}
use Rattle.intake_desk.specs.Due.{Gives, GivesWhole, HasAtLeast, IsDue, IsWhole, due_text, lines_to_put}
use Rattle.intake_desk.specs.Intake.{intake_end, kept_behind, told}
use Rattle.intake_desk.specs.Progress.{IsFront}
use Rattle.intake_desk.proofs.DueLemmas.{due-taken, gives-taken, least-taken, lines-taken, moments-taken}
use Rattle.intake_log.specs.Journal.{StandsFor}
use Rattle.intake_log.proofs.JournalLemmas.{started}
use Rattle.intake_desk.proofs.KeptLemmas.{kept-none}
use Rattle.intake_desk.proofs.MomentLemmas.{is-told}
use Rattle.intake_desk.proofs.call.carry_out.Goals as goal

pub returns-in-Intake-clause-due : goal.returns-in-Intake-clause-due
returns-in-Intake-clause-due g c =
    subst (λ a. IfSome (lines_to_put a (g.I.Source.left c.args.input.now)) (λ lines. IsDue (intake_end c.args.log.now.lines lines) c.take_in.result)) (sym c.in-Intake.is)
    (due-taken g.D.Disk.content g.D.Disk.images g.D.Disk.moment g.D.Disk.images_since _ _ _ _ _ _ (g.I.Source.left c.args.input.now) c.take_in.ensures.takes)

pub returns-in-Intake-clause-given : goal.returns-in-Intake-clause-given
returns-in-Intake-clause-given g c =
    subst (λ a. IfSome (lines_to_put a (g.I.Source.left c.args.input.now)) (λ lines.
    Gives c.take_in.result (g.O.Sink.given c.args.output.now) (g.O.Sink.given c.take_in.new.output) (due_text a c.args.log.now.lines lines))) (sym c.in-Intake.is)
    (gives-taken g.D.Disk.content g.D.Disk.images g.D.Disk.moment g.D.Disk.images_since _ _ _ _ _ _ (g.I.Source.left c.args.input.now) c.take_in.ensures.takes)

pub returns-in-Intake-clause-has_the_lines : goal.returns-in-Intake-clause-has_the_lines
returns-in-Intake-clause-has_the_lines g c =
    subst (λ a. IfSome (lines_to_put a (g.I.Source.left c.args.input.now)) (λ lines. IsWhole c.take_in.result →
    LeavesLines g.D.Disk.content g.D.Disk.images c.take_in.new.log.disk (c.args.log.now.lines ++ kept_behind c.args.log.now.lines lines))) (sym c.in-Intake.is)
    (lines-taken g.D.Disk.content g.D.Disk.images g.D.Disk.moment g.D.Disk.images_since _ _ _ _ _ _ (g.I.Source.left c.args.input.now) c.take_in.ensures.takes)

pub returns-in-Intake-clause-acknowledged : goal.returns-in-Intake-clause-acknowledged
returns-in-Intake-clause-acknowledged g c is =
    subst (λ a. IfSome (lines_to_put a (g.I.Source.left c.args.input.now)) (λ lines. (count : ℕ)
    → GivesWhole (g.O.Sink.given c.args.output.now) (g.O.Sink.given c.take_in.new.output) (told (length c.args.log.now.lines) count)
    → IsTrue (is_some (g.D.Disk.content c.take_in.new.log.disk)) → (image : Text) → g.D.Disk.images c.take_in.new.log.disk image → HasAtLeast count c.args.log.now.lines lines image)) (sym c.in-Intake.is)
    (least-taken g.D.Disk.content g.D.Disk.images g.D.Disk.moment g.D.Disk.images_since _ _ _ _ _ _ (g.I.Source.left c.args.input.now) c.take_in.ensures.takes)

pub returns-in-Intake-clause-any_moment : goal.returns-in-Intake-clause-any_moment
returns-in-Intake-clause-any_moment g c =
    subst (λ a. (lines : Lines) (bytes : Text) → lines_to_put a (g.I.Source.left c.args.input.now) ≡ Some lines → g.D.Disk.content c.args.log.now.disk ≡ Some bytes
    → LeavesOnly g.D.Disk.moment g.D.Disk.images_since c.args.log.now.disk c.take_in.new.log.disk (IsFront c.args.log.now.lines lines)) (sym c.in-Intake.is)
    (moments-taken g.D.Disk.content g.D.Disk.images g.D.Disk.moment g.D.Disk.images_since _ _ _ _ _ _ (g.I.Source.left c.args.input.now) c.take_in.ensures.takes)

pub returns-in-Show-clause-has_the_lines : goal.returns-in-Show-clause-has_the_lines
returns-in-Show-clause-has_the_lines g c =
    let old = c.args.log.now.lines in
    subst (λ a. IfSome (lines_to_put a (g.I.Source.left c.args.input.now)) (λ lines. IsWhole c.show.result → LeavesLines g.D.Disk.content g.D.Disk.images c.args.log.now.disk (old ++ kept_behind old lines))) (sym c.in-Show.is)
    (λ whole. subst (LeavesLines g.D.Disk.content g.D.Disk.images c.args.log.now.disk) (sym (ap (λ l. old ++ l) (kept-none old) ∙ append-nil old)) (c.lines.ensures.durable c.requires.unbroken))

pub returns-in-Show-clause-any_moment : goal.returns-in-Show-clause-any_moment
returns-in-Show-clause-any_moment g c lines bytes is reads =
    let old = c.args.log.now.lines in
    started g.D.Disk.moment g.D.Disk.images_since c.args.log.now.disk _
    (λ image left. (0, subst (StandsFor image) (sym (append-nil old)) (c.lines.ensures.durable c.requires.unbroken (is-told (g.D.Disk.content c.args.log.now.disk) bytes reads) image (g.met.D.Disk.only_now c.args.log.now.disk image left))))
