use Rattle.std.proofs.Common.{◌≡◌, ◌≤◌, ◌++◌, ◌∷◌, [], false, List, ℕ, Some, length, ap, sym, ◌∙◌, subst, arith, rules, is_err}
use Rattle.disk_io.specs.Disk.{LeavesOnly}
use Rattle.intake_log.specs.declared.limits.TheConstants.{MOST_LINE_BYTES}
use Rattle.intake_log.specs.Journal.{IsBeforeOrAfter}
use Rattle.intake_log.specs.Log.{IsLog, LeavesLines}
use Rattle.intake_log.proofs.LogLemmas.{few, kept-leaves, unbroken-kept, untouched-leaves, ok-if-not-err}
use Rattle.intake_log.proofs.log.Log.put.Goals as goal

pub returns-in_err-admit-clause-any_moment : goal.returns-in_err-admit-clause-any_moment
returns-in_err-admit-clause-any_moment g c =
    untouched-leaves g.D.Disk.content g.D.Disk.images g.D.Disk.moment g.D.Disk.images_since g.met.D.Disk.only_now c.args.self.now c.args.line.now
    (subst (λ log. IsLog g.D.Disk.content g.D.Disk.images log) c.self.view_is c.self.invariant)

pub returns-in_err-push-clause-any_moment : goal.returns-in_err-push-clause-any_moment
returns-in_err-push-clause-any_moment g c =
    let leaves = untouched-leaves g.D.Disk.content g.D.Disk.images g.D.Disk.moment g.D.Disk.images_since g.met.D.Disk.only_now c.args.self.now c.args.line.now
    (subst (λ log. IsLog g.D.Disk.content g.D.Disk.images log) c.self.view_is c.self.invariant) in
    subst (λ disk. c.args.self.now.broken ≡ false → (bytes : List ℕ) → g.D.Disk.content c.args.self.now.disk ≡ Some bytes →
    LeavesOnly g.D.Disk.moment g.D.Disk.images_since c.args.self.now.disk disk (IsBeforeOrAfter c.args.self.now.lines c.args.line.now))
    (ap (λ log. log.disk) (sym c.self.view_is)) leaves

pub put_entry-requires-clause-few : goal.put_entry-requires-clause-few
put_entry-requires-clause-few g c = omega (arith, few c.self.inside.lines c.self.invariant.within, c.self.invariant.gate)

pub returns-then-is_err-clause-any_moment : goal.returns-then-is_err-clause-any_moment
returns-then-is_err-clause-any_moment g c =
    subst (λ log. log.broken ≡ false → (bytes : List ℕ) → g.D.Disk.content log.disk ≡ Some bytes →
    LeavesOnly g.D.Disk.moment g.D.Disk.images_since log.disk c.put_entry.new.disk (IsBeforeOrAfter log.lines c.args.line.now))
    c.self.view_is
    (λ e bytes told. c.put_entry.ensures.any_moment c.self.inside.lines bytes (unbroken-kept c.self.inside.broken _ e c.self.invariant.kept) told)

pub overflow_add-self-2 : goal.overflow_add-self-2
overflow_add-self-2 g c =
    let short : length c.args.line.now ≤ MOST_LINE_BYTES = c.in_ok-admit.ensures.short in
    omega (arith, few c.self.inside.lines c.self.invariant.within, c.self.invariant.gate, short)

pub returns-clause-acknowledged : goal.returns-clause-acknowledged
returns-clause-acknowledged g c =
    let inside = c.self.inside in
    let unbroken : inside.broken ≡ false = ap (λ log. log.broken) c.self.view_is ∙ c.in_ok-admit.ensures.unbroken in
    let done : is_err c.put_entry.result ≡ false = search rules in
    let kept = ok-if-not-err c.put_entry.result _ done c.put_entry.ensures.acknowledged inside.lines (unbroken-kept inside.broken _ unbroken c.self.invariant.kept) in
    subst (λ lines. LeavesLines g.D.Disk.content g.D.Disk.images c.put_entry.new.disk (lines ++ c.args.line.now ∷ [])) (ap (λ log. log.lines) c.self.view_is)
    (kept-leaves g.D.Disk.content g.D.Disk.images c.put_entry.new.disk _ (inside.lines ++ c.args.line.now ∷ []) kept)

pub returns-clause-any_moment : goal.returns-clause-any_moment
returns-clause-any_moment g c =
    subst (λ log. log.broken ≡ false → (bytes : List ℕ) → g.D.Disk.content log.disk ≡ Some bytes →
    LeavesOnly g.D.Disk.moment g.D.Disk.images_since log.disk c.put_entry.new.disk (IsBeforeOrAfter log.lines c.args.line.now))
    c.self.view_is
    (λ e bytes told. c.put_entry.ensures.any_moment c.self.inside.lines bytes (unbroken-kept c.self.inside.broken _ e c.self.invariant.kept) told)
