use Rattle.std.proofs.Common.{◌≤◌, ◌+◌, [], ◌∷◌, length, inl, sym, ◌∙◌, ap, subst, option_map}
use Rattle.disk_io.specs.Disk.{written}
use Rattle.intake_log.specs.Journal.{IsBeforeOrAfter}
use Rattle.intake_log.proofs.JournalLemmas.{if_some, mapped, started, goes_on, gate-below, gate-below-staged, stands, first-stands, second-stands, closed-again, held}
use Rattle.intake_log.proofs.entry.put_entry.Goals as goal

pub write_at-requires : goal.write_at-requires
write_at-requires g c =
    let k = c.requires.kept in
    if_some _ _ (λ bytes told. gate-below c.args.gate bytes c.args.line.now c.args.piece.now k.0 (k.1.closed bytes told) c.requires.line c.requires.piece)

pub write_at-requires-2 : goal.write_at-requires-2
write_at-requires-2 g c =
    let k = c.requires.kept in
    if_some _ _ (λ now told-now.
    let from = mapped (λ b. written b (c.args.gate + 1) c.args.piece.now) _ now (sym (c.in_ok-sync.ensures.same ∙ c.in_ok-write_at.ensures.written) ∙ told-now) in
    subst (λ b. c.args.gate ≤ length b) (sym from.2) (gate-below-staged c.args.gate from.0 c.args.line.now c.args.piece.now k.0 (k.1.closed from.0 from.1) c.requires.line c.requires.piece))

pub returns-in_err-write_at-clause-any_moment : goal.returns-in_err-write_at-clause-any_moment
returns-in_err-write_at-clause-any_moment g c lines bytes k told =
    let P = IsBeforeOrAfter lines c.args.line.now in
    let d0 = c.args.disk.now in
    let z = k.closed bytes told in
    let m = g.D.Disk.moment in
    let s = g.D.Disk.images_since in
    let begun = started m s d0 P (λ f left. inl (stands c.args.gate bytes c.args.line.now c.args.piece.now lines z c.requires.line c.requires.piece f (k.durable bytes told f (g.met.D.Disk.only_now d0 f left)))) in
    goes_on m s d0 d0 c.write_at.new.self P begun c.write_at.ensures.time
    (λ f left. inl (first-stands c.args.gate bytes c.args.line.now c.args.piece.now lines z c.requires.line c.requires.piece _ _ _ (k.durable bytes told) c.write_at.ensures.during f left))

pub returns-in_err-sync-clause-any_moment : goal.returns-in_err-sync-clause-any_moment
returns-in_err-sync-clause-any_moment g c lines bytes k told =
    let P = IsBeforeOrAfter lines c.args.line.now in
    let d0 = c.args.disk.now in
    let z = k.closed bytes told in
    let m = g.D.Disk.moment in
    let s = g.D.Disk.images_since in
    let begun = started m s d0 P (λ f left. inl (stands c.args.gate bytes c.args.line.now c.args.piece.now lines z c.requires.line c.requires.piece f (k.durable bytes told f (g.met.D.Disk.only_now d0 f left)))) in
    let one = goes_on m s d0 d0 c.write_at.new.self P begun c.write_at.ensures.time
    (λ f left. inl (first-stands c.args.gate bytes c.args.line.now c.args.piece.now lines z c.requires.line c.requires.piece _ _ _ (k.durable bytes told) c.write_at.ensures.during f left)) in
    let two = goes_on m s d0 c.write_at.new.self c.sync.new.self P one c.sync.ensures.time
    (λ f left. inl (first-stands c.args.gate bytes c.args.line.now c.args.piece.now lines z c.requires.line c.requires.piece _ _ _ (k.durable bytes told) c.write_at.ensures.images f (c.sync.ensures.during f left))) in
    two

pub returns-in_err-write_at-2-clause-any_moment : goal.returns-in_err-write_at-2-clause-any_moment
returns-in_err-write_at-2-clause-any_moment g c lines bytes k told =
    let P = IsBeforeOrAfter lines c.args.line.now in
    let d0 = c.args.disk.now in
    let z = k.closed bytes told in
    let m = g.D.Disk.moment in
    let s = g.D.Disk.images_since in
    let begun = started m s d0 P (λ f left. inl (stands c.args.gate bytes c.args.line.now c.args.piece.now lines z c.requires.line c.requires.piece f (k.durable bytes told f (g.met.D.Disk.only_now d0 f left)))) in
    let one = goes_on m s d0 d0 c.write_at.new.self P begun c.write_at.ensures.time
    (λ f left. inl (first-stands c.args.gate bytes c.args.line.now c.args.piece.now lines z c.requires.line c.requires.piece _ _ _ (k.durable bytes told) c.write_at.ensures.during f left)) in
    let two = goes_on m s d0 c.write_at.new.self c.sync.new.self P one c.sync.ensures.time
    (λ f left. inl (first-stands c.args.gate bytes c.args.line.now c.args.piece.now lines z c.requires.line c.requires.piece _ _ _ (k.durable bytes told) c.write_at.ensures.images f (c.sync.ensures.during f left))) in
    let staged = sym (c.in_ok-sync.ensures.same ∙ c.in_ok-write_at.ensures.written ∙ ap (option_map (λ b. written b (c.args.gate + 1) c.args.piece.now)) told) in
    let only = held _ _ (written bytes (c.args.gate + 1) c.args.piece.now) (sym staged) c.in_ok-sync.ensures.durable in
    let three = goes_on m s d0 c.sync.new.self c.write_at-2.new.self P two c.write_at-2.ensures.time
    (λ f left. second-stands c.args.gate bytes c.args.line.now c.args.piece.now lines z c.requires.line c.requires.piece _ _ only c.write_at-2.ensures.during f left) in
    three

pub returns-in_err-sync-2-clause-any_moment : goal.returns-in_err-sync-2-clause-any_moment
returns-in_err-sync-2-clause-any_moment g c lines bytes k told =
    let P = IsBeforeOrAfter lines c.args.line.now in
    let d0 = c.args.disk.now in
    let z = k.closed bytes told in
    let m = g.D.Disk.moment in
    let s = g.D.Disk.images_since in
    let begun = started m s d0 P (λ f left. inl (stands c.args.gate bytes c.args.line.now c.args.piece.now lines z c.requires.line c.requires.piece f (k.durable bytes told f (g.met.D.Disk.only_now d0 f left)))) in
    let one = goes_on m s d0 d0 c.write_at.new.self P begun c.write_at.ensures.time
    (λ f left. inl (first-stands c.args.gate bytes c.args.line.now c.args.piece.now lines z c.requires.line c.requires.piece _ _ _ (k.durable bytes told) c.write_at.ensures.during f left)) in
    let two = goes_on m s d0 c.write_at.new.self c.sync.new.self P one c.sync.ensures.time
    (λ f left. inl (first-stands c.args.gate bytes c.args.line.now c.args.piece.now lines z c.requires.line c.requires.piece _ _ _ (k.durable bytes told) c.write_at.ensures.images f (c.sync.ensures.during f left))) in
    let staged = sym (c.in_ok-sync.ensures.same ∙ c.in_ok-write_at.ensures.written ∙ ap (option_map (λ b. written b (c.args.gate + 1) c.args.piece.now)) told) in
    let only = held _ _ (written bytes (c.args.gate + 1) c.args.piece.now) (sym staged) c.in_ok-sync.ensures.durable in
    let three = goes_on m s d0 c.sync.new.self c.write_at-2.new.self P two c.write_at-2.ensures.time
    (λ f left. second-stands c.args.gate bytes c.args.line.now c.args.piece.now lines z c.requires.line c.requires.piece _ _ only c.write_at-2.ensures.during f left) in
    let four = goes_on m s d0 c.write_at-2.new.self c.sync-2.new.self P three c.sync-2.ensures.time
    (λ f left. second-stands c.args.gate bytes c.args.line.now c.args.piece.now lines z c.requires.line c.requires.piece _ _ only c.write_at-2.ensures.images f (c.sync-2.ensures.during f left)) in
    four

pub returns-clause-any_moment : goal.returns-clause-any_moment
returns-clause-any_moment g c lines bytes k told =
    let P = IsBeforeOrAfter lines c.args.line.now in
    let d0 = c.args.disk.now in
    let z = k.closed bytes told in
    let m = g.D.Disk.moment in
    let s = g.D.Disk.images_since in
    let begun = started m s d0 P (λ f left. inl (stands c.args.gate bytes c.args.line.now c.args.piece.now lines z c.requires.line c.requires.piece f (k.durable bytes told f (g.met.D.Disk.only_now d0 f left)))) in
    let one = goes_on m s d0 d0 c.write_at.new.self P begun c.write_at.ensures.time
    (λ f left. inl (first-stands c.args.gate bytes c.args.line.now c.args.piece.now lines z c.requires.line c.requires.piece _ _ _ (k.durable bytes told) c.write_at.ensures.during f left)) in
    let two = goes_on m s d0 c.write_at.new.self c.sync.new.self P one c.sync.ensures.time
    (λ f left. inl (first-stands c.args.gate bytes c.args.line.now c.args.piece.now lines z c.requires.line c.requires.piece _ _ _ (k.durable bytes told) c.write_at.ensures.images f (c.sync.ensures.during f left))) in
    let staged = sym (c.in_ok-sync.ensures.same ∙ c.in_ok-write_at.ensures.written ∙ ap (option_map (λ b. written b (c.args.gate + 1) c.args.piece.now)) told) in
    let only = held _ _ (written bytes (c.args.gate + 1) c.args.piece.now) (sym staged) c.in_ok-sync.ensures.durable in
    let three = goes_on m s d0 c.sync.new.self c.write_at-2.new.self P two c.write_at-2.ensures.time
    (λ f left. second-stands c.args.gate bytes c.args.line.now c.args.piece.now lines z c.requires.line c.requires.piece _ _ only c.write_at-2.ensures.during f left) in
    let four = goes_on m s d0 c.write_at-2.new.self c.sync-2.new.self P three c.sync-2.ensures.time
    (λ f left. second-stands c.args.gate bytes c.args.line.now c.args.piece.now lines z c.requires.line c.requires.piece _ _ only c.write_at-2.ensures.images f (c.sync-2.ensures.during f left)) in
    four

pub returns-clause-acknowledged : goal.returns-clause-acknowledged
returns-clause-acknowledged g c lines k = record {
  closed = λ now told-now.
      let last = mapped (λ b. written b c.args.gate (1 ∷ [])) _ now (sym (c.in_ok-sync-2.ensures.same ∙ c.in_ok-write_at-2.ensures.written) ∙ told-now) in
      let from = mapped (λ b. written b (c.args.gate + 1) c.args.piece.now) _ last.0 (sym (c.in_ok-sync.ensures.same ∙ c.in_ok-write_at.ensures.written) ∙ last.1) in
      closed-again c.args.gate from.0 c.args.line.now c.args.piece.now lines (k.closed from.0 from.1) c.requires.line c.requires.piece now
      (last.2 ∙ ap (λ b. written b c.args.gate (1 ∷ [])) from.2);
  durable = λ now told-now. held _ _ now told-now c.in_ok-sync-2.ensures.durable;
}
