use Rattle.std.proofs.Common.{◌≡◌, ◌+◌, ◌-◌, ◌++◌, ◌∷◌, [], length, sym, ◌∙◌, ap, subst, arith, length-append}
use Rattle.std.proofs.lemmas.List.{length_push}
use Rattle.command_text.specs.Held.{HasNoFeed}
use Rattle.intake_desk.specs.Input.{HasCome, IsNext}
use Rattle.intake_desk.specs.Progress.{GoesOnWith}
use Rattle.intake_desk.proofs.InputLemmas.{next-no_feed, next-within}
use Rattle.intake_desk.proofs.KeptLemmas.{kept-room}
use Rattle.intake_desk.proofs.ProgressLemmas.{ends-done, ends-fault, ends-kept, ends-last, ends-long, goes-first, goes-on}
use Rattle.intake_desk.proofs.intake.take_in.Goals as goal

pub loop-end-init : goal.loop-end-init
loop-end-init g c =
    record {
      old_is = c.count-old.ensures ∙ ap length c.lines.ensures.lines;
      so_far = (
        [],
        subst (λ w. GoesOnWith g.D.Disk.content g.D.Disk.images g.D.Disk.moment g.D.Disk.images_since (g.I.Source.left c.args.input.now) (g.I.Source.left c.args.input.now) (g.O.Sink.given c.args.output.now) (g.O.Sink.given c.args.output.now) c.args.log.now c.args.log.now w [])
            (sym c.new-waiting.ensures)
            (goes-first g.D.Disk.content g.D.Disk.images g.D.Disk.moment g.D.Disk.images_since g.met.D.Disk.only_now (g.I.Source.left c.args.input.now) (g.O.Sink.given c.args.output.now) c.args.log.now c.requires.unbroken (c.lines.ensures.durable c.requires.unbroken)),
      );
      input_never_fell = omega arith;
      output_never_fell = omega arith;
      disk_never_fell = omega arith;
    }

pub returns-in-Ok-Long-clause-takes : goal.returns-in-Ok-Long-clause-takes
returns-in-Ok-Long-clause-takes g c =
    let i = c.loop-end.invariant in
    let done = i.so_far.0 in
    let p = i.so_far.1 in
    let number : c.count.result - c.count-old.result + 1 ≡ length done + 1 =
    let held : c.count.result ≡ length c.args.log.now.lines + length done = c.count.ensures ∙ ap length (c.lines-in-loop-end.ensures.lines ∙ p.stays.holds.lines_are) ∙ length-append c.args.log.now.lines done in
    omega (arith, held, i.old_is) in
    ends-long g.D.Disk.content g.D.Disk.images g.D.Disk.moment g.D.Disk.images_since (g.I.Source.left c.args.input.now) (g.I.Source.left c.loop-end.input) (g.O.Sink.given c.args.output.now) (g.O.Sink.given c.loop-end.output) c.args.log.now c.loop-end.log c.loop-end.waiting done p (g.I.Source.left c.take_line.new.input) c.take_line.new.waiting c.take_line.ensures.uncut _ number (subst (HasCome c.take_line.new.waiting (g.I.Source.left c.take_line.new.input)) c.in-Ok-Long.field-0-is c.in-Ok-Long.ensures.came)

pub returns-in-Ok-End-clause-takes : goal.returns-in-Ok-End-clause-takes
returns-in-Ok-End-clause-takes g c =
    let i = c.loop-end.invariant in
    let done = i.so_far.0 in
    let p = i.so_far.1 in
    ends-done g.D.Disk.content g.D.Disk.images g.D.Disk.moment g.D.Disk.images_since (g.I.Source.left c.args.input.now) (g.I.Source.left c.loop-end.input) (g.O.Sink.given c.args.output.now) (g.O.Sink.given c.loop-end.output) c.args.log.now c.loop-end.log c.loop-end.waiting done p (g.I.Source.left c.take_line.new.input) c.take_line.new.waiting c.take_line.ensures.uncut (subst (HasCome c.take_line.new.waiting (g.I.Source.left c.take_line.new.input)) c.in-Ok-End.field-0-is c.in-Ok-End.ensures.came)

pub returns-in-Err-clause-takes : goal.returns-in-Err-clause-takes
returns-in-Err-clause-takes g c =
    let i = c.loop-end.invariant in
    let done = i.so_far.0 in
    let p = i.so_far.1 in
    ends-fault g.D.Disk.content g.D.Disk.images g.D.Disk.moment g.D.Disk.images_since (g.I.Source.left c.args.input.now) (g.I.Source.left c.loop-end.input) (g.O.Sink.given c.args.output.now) (g.O.Sink.given c.loop-end.output) c.args.log.now c.loop-end.log c.loop-end.waiting done p (g.I.Source.left c.take_line.new.input) c.take_line.new.waiting c.take_line.ensures.uncut c.in-Err.ensures.unfinished

pub keep_line-requires-clause-no_line_feed : goal.keep_line-requires-clause-no_line_feed
keep_line-requires-clause-no_line_feed g c =
    let comes : IsNext c.take_line.new.waiting (g.I.Source.left c.take_line.new.input) c.in-Ok-Line.end c.in-Ok-Line.is_last = subst (HasCome c.take_line.new.waiting (g.I.Source.left c.take_line.new.input)) c.in-Ok-Line.field-0-is c.in-Ok-Line.ensures.came in
    subst HasNoFeed (sym c.line.ensures) (next-no_feed c.take_line.new.waiting (g.I.Source.left c.take_line.new.input) c.in-Ok-Line.end c.in-Ok-Line.is_last comes)

pub returns-in-Err-keep_line-clause-takes : goal.returns-in-Err-keep_line-clause-takes
returns-in-Err-keep_line-clause-takes g c =
    let i = c.loop-end.invariant in
    let done = i.so_far.0 in
    let p = i.so_far.1 in
    let number : c.count.result - c.count-old.result + 1 ≡ length done + 1 =
    let held : c.count.result ≡ length c.args.log.now.lines + length done = c.count.ensures ∙ ap length (c.lines-in-loop-end.ensures.lines ∙ p.stays.holds.lines_are) ∙ length-append c.args.log.now.lines done in
    omega (arith, held, i.old_is) in
    let comes : IsNext c.take_line.new.waiting (g.I.Source.left c.take_line.new.input) c.in-Ok-Line.end c.in-Ok-Line.is_last = subst (HasCome c.take_line.new.waiting (g.I.Source.left c.take_line.new.input)) c.in-Ok-Line.field-0-is c.in-Ok-Line.ensures.came in
    ends-kept g.D.Disk.content g.D.Disk.images g.D.Disk.moment g.D.Disk.images_since (g.I.Source.left c.args.input.now) (g.I.Source.left c.loop-end.input) (g.O.Sink.given c.args.output.now) (g.O.Sink.given c.loop-end.output) c.args.log.now c.loop-end.log c.loop-end.waiting done p (g.I.Source.left c.take_line.new.input) c.take_line.new.waiting c.take_line.ensures.uncut c.keep_line.new.log (g.O.Sink.given c.keep_line.new.output) c.in-Ok-Line.end c.in-Ok-Line.is_last c.line.result.now (c.count.result - c.count-old.result + 1) comes c.line.ensures number c.keep_line.ensures.any_moment (Unit {0}) c.in-Err-keep_line.status c.in-Err-keep_line.ensures.keeps

pub returns-then-is_last-clause-takes : goal.returns-then-is_last-clause-takes
returns-then-is_last-clause-takes g c =
    let i = c.loop-end.invariant in
    let done = i.so_far.0 in
    let p = i.so_far.1 in
    let number : c.count.result - c.count-old.result + 1 ≡ length done + 1 =
    let held : c.count.result ≡ length c.args.log.now.lines + length done = c.count.ensures ∙ ap length (c.lines-in-loop-end.ensures.lines ∙ p.stays.holds.lines_are) ∙ length-append c.args.log.now.lines done in
    omega (arith, held, i.old_is) in
    let comes : IsNext c.take_line.new.waiting (g.I.Source.left c.take_line.new.input) c.in-Ok-Line.end c.in-Ok-Line.is_last = subst (HasCome c.take_line.new.waiting (g.I.Source.left c.take_line.new.input)) c.in-Ok-Line.field-0-is c.in-Ok-Line.ensures.came in
    ends-last g.D.Disk.content g.D.Disk.images g.D.Disk.moment g.D.Disk.images_since (g.I.Source.left c.args.input.now) (g.I.Source.left c.loop-end.input) (g.O.Sink.given c.args.output.now) (g.O.Sink.given c.loop-end.output) c.args.log.now c.loop-end.log c.loop-end.waiting done p (g.I.Source.left c.take_line.new.input) c.take_line.new.waiting c.take_line.ensures.uncut c.keep_line.new.log (g.O.Sink.given c.keep_line.new.output) c.in-Ok-Line.end c.in-Ok-Line.is_last c.line.result.now (c.count.result - c.count-old.result + 1) comes c.line.ensures number c.keep_line.ensures.any_moment c.in_default.field-0 c.if-is_last.true c.in_default.ensures.keeps

pub overflow_add-end : goal.overflow_add-end
overflow_add-end g c =
    let comes : IsNext c.take_line.new.waiting (g.I.Source.left c.take_line.new.input) c.in-Ok-Line.end c.in-Ok-Line.is_last = subst (HasCome c.take_line.new.waiting (g.I.Source.left c.take_line.new.input)) c.in-Ok-Line.field-0-is c.in-Ok-Line.ensures.came in
    omega (arith, c.take_line.ensures.few, next-within c.take_line.new.waiting (g.I.Source.left c.take_line.new.input) c.in-Ok-Line.end c.in-Ok-Line.is_last comes)

pub loop-end-smaller : goal.loop-end-smaller
loop-end-smaller g c =
    let room = kept-room c.loop-end.log.lines c.line.result.now c.in_default.ensures.keeps.0 in
    let more = ap length c.in_default.ensures.keeps.1.lines_are ∙ length_push c.loop-end.log.lines c.line.result.now in
    omega (arith, room, more)

pub loop-end-preserved : goal.loop-end-preserved
loop-end-preserved g c =
    let i = c.loop-end.invariant in
    let done = i.so_far.0 in
    let p = i.so_far.1 in
    let number : c.count.result - c.count-old.result + 1 ≡ length done + 1 =
    let held : c.count.result ≡ length c.args.log.now.lines + length done = c.count.ensures ∙ ap length (c.lines-in-loop-end.ensures.lines ∙ p.stays.holds.lines_are) ∙ length-append c.args.log.now.lines done in
    omega (arith, held, i.old_is) in
    let comes : IsNext c.take_line.new.waiting (g.I.Source.left c.take_line.new.input) c.in-Ok-Line.end c.in-Ok-Line.is_last = subst (HasCome c.take_line.new.waiting (g.I.Source.left c.take_line.new.input)) c.in-Ok-Line.field-0-is c.in-Ok-Line.ensures.came in
    record {
      old_is = i.old_is;
      so_far = (
        done ++ c.line.result.now ∷ [],
        subst (λ w. GoesOnWith g.D.Disk.content g.D.Disk.images g.D.Disk.moment g.D.Disk.images_since (g.I.Source.left c.args.input.now) (g.I.Source.left c.take_line.new.input) (g.O.Sink.given c.args.output.now) (g.O.Sink.given c.keep_line.new.output) c.args.log.now c.keep_line.new.log w (done ++ c.line.result.now ∷ []))
            (sym c.skip.ensures)
            (goes-on g.D.Disk.content g.D.Disk.images g.D.Disk.moment g.D.Disk.images_since (g.I.Source.left c.args.input.now) (g.I.Source.left c.loop-end.input) (g.O.Sink.given c.args.output.now) (g.O.Sink.given c.loop-end.output) c.args.log.now c.loop-end.log c.loop-end.waiting done p (g.I.Source.left c.take_line.new.input) c.take_line.new.waiting c.take_line.ensures.uncut c.keep_line.new.log (g.O.Sink.given c.keep_line.new.output) c.in-Ok-Line.end c.in-Ok-Line.is_last c.line.result.now (c.count.result - c.count-old.result + 1) comes c.line.ensures number c.keep_line.ensures.any_moment c.in_default.field-0 c.if-is_last.false c.keep_line.ensures.told c.in_default.ensures.keeps),
      );
      input_never_fell = omega (arith, i.input_never_fell, c.take_line.ensures.never_falls);
      output_never_fell = omega (arith, i.output_never_fell, c.keep_line.ensures.output_never_falls);
      disk_never_fell = omega (arith, i.disk_never_fell, c.keep_line.ensures.disk_never_falls);
    }
