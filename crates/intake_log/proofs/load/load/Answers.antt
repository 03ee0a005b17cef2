use Rattle.std.proofs.Common.{◌≡◌, sym, ◌∙◌, ap, subst}
use Rattle.intake_log.specs.Scan.{Explains, scan}
use Rattle.intake_log.specs.Scan.Scanned.{Ended}
use Rattle.intake_log.proofs.StartLemmas.{from-front, if_ok-both, if_ok-map, if_err-map, read-kept}
use Rattle.intake_log.proofs.load.load.Goals as goal

pub returns-clause-ended : goal.returns-clause-ended
returns-clause-ended g c =
    if_ok-map c.scan_lines.result _ _ c.scan_lines.ensures.ended
    (λ read ends. from-front (g.D.Disk.content c.args.disk.now) (g.D.Disk.content c.settle.new.disk) c.in_ok-front.front.items (λ s. s ≡ Ended read.0)
    c.in_ok-settle.ensures.settled c.in_ok-front.ensures.front (ap scan (sym c.deref.ensures.value) ∙ ends))

pub returns-clause-kept : goal.returns-clause-kept
returns-clause-kept g c =
    let r = c.read_front.ensures.only_reads in
    if_ok-both c.scan_lines.result _ _ _ c.scan_lines.ensures.ended c.scan_lines.ensures.gate
    (λ read ends gate_is. read-kept g.D.Disk.content g.D.Disk.images g.D.Disk.moment g.D.Disk.images_since c.settle.new.disk c.read_front.new.disk c.in_ok-front.front.items read.1 read.0
    r.same c.in_ok-front.ensures.front c.in_ok-settle.ensures.durable r.after (ap scan (sym c.deref.ensures.value) ∙ ends) gate_is)

pub returns-clause-explained : goal.returns-clause-explained
returns-clause-explained g c =
    if_err-map c.scan_lines.result _ _ c.scan_lines.ensures.explained
    (λ fault explains. from-front (g.D.Disk.content c.args.disk.now) (g.D.Disk.content c.settle.new.disk) c.in_ok-front.front.items (λ s. Explains s fault)
    c.in_ok-settle.ensures.settled c.in_ok-front.ensures.front (subst (λ l. Explains (scan l) fault) c.deref.ensures.value explains))
