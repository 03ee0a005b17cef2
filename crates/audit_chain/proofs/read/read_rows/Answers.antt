use Rattle.std.proofs.Common.{◌++◌, ◌∷◌, [], Ok, Err, sym, ap, ◌∙◌, subst, append_assoc}
use Rattle.audit_chain.specs.File.{parts}
use Rattle.audit_chain.specs.Reading.{HasRead}
use Rattle.audit_chain.specs.declared.fault.RowFault.TheVariants.{BadRow}
use Rattle.audit_chain.proofs.HeldLemmas.{held_in_part, held_misfit, held_no_header, held_none, held_whole}
use Rattle.audit_chain.proofs.read.read_rows.Goals as goal

pub returns-in-None-clause-bad : goal.returns-in-None-clause-bad
returns-in-None-clause-bad c = λ _. held_none c.args.bytes.now c.in-None.ensures.none

pub returns-in-None-2-clause-bad : goal.returns-in-None-2-clause-bad
returns-in-None-2-clause-bad c = λ _.
    held_no_header c.args.bytes.now c.in-Some.cut.0.now c.in-Some.cut.1.now c.in-Some.ensures.found (rw c.in-None-2.is at c.in_ok-reading.ensures)

pub returns-then-not-branch-clause-bad : goal.returns-then-not-branch-clause-bad
returns-then-not-branch-clause-bad c =
    λ _.
    let taken = c.loop-row.invariant.0 in
    let read = c.loop-row.invariant.2 in
    let same = c.take.ensures.same (c.in_ok-take.was ∙ ap Ok c.if-not-branch.true) in
    let stays : HasRead taken c.take.new.self.version c.take.new.self.lines c.take.new.self.ended =
    subst (λ r. HasRead taken r.version r.lines r.ended) (sym same) read in
    let misfit = sym (c.in_ok-take.ensures.fits taken read) ∙ c.if-not-branch.true in
    held_misfit c.args.bytes.now taken c.loop-row.rest.now c.in-Some-first_row.row.now c.in-Some-first_row.after.now c.loop-row.invariant.1 c.in-Some-first_row.ensures.found read.all_fit misfit
    ∙ ap (λ n. Err (BadRow n)) (sym (c.next.ensures taken stays))

pub loop-row-preserved : goal.loop-row-preserved
loop-row-preserved c =
    let taken = c.loop-row.invariant.0 in
    let row = c.in-Some-first_row.row.now in (
      taken ++ row ∷ [],
      c.loop-row.invariant.1
          ∙ ap (λ ps. taken ++ ps) c.in-Some-first_row.ensures.found
          ∙ sym (append_assoc taken (row ∷ []) (parts c.in-Some-first_row.after.now)),
      c.take.ensures.taken taken c.loop-row.invariant.2 (c.in_ok-take.was ∙ ap Ok c.if-not-branch.false),
      c.take.ensures.each (c.in_ok-take.was ∙ ap Ok c.if-not-branch.false) c.loop-row.invariant.3,
    )

pub returns-then-is_whole-clause-ok : goal.returns-then-is_whole-clause-ok
returns-then-is_whole-clause-ok c =
    held_whole c.args.bytes.now c.loop-row.invariant.0 c.loop-row.rest.now _ _ _ c.loop-row.invariant.1 c.in_default.ensures.none (sym c.is_whole.ensures ∙ c.if-is_whole.true) c.loop-row.invariant.2
    ∙ ap Ok (sym c.into_lines.ensures)

pub returns-else-is_whole-clause-bad : goal.returns-else-is_whole-clause-bad
returns-else-is_whole-clause-bad c =
    λ _.
    let taken = c.loop-row.invariant.0 in
    let read = c.loop-row.invariant.2 in
    held_in_part c.args.bytes.now taken c.loop-row.rest.now _ _ _ c.loop-row.invariant.1 c.in_default.ensures.none (sym c.is_whole.ensures ∙ c.if-is_whole.false) read
    ∙ ap (λ n. Err (BadRow n)) (sym (c.next-else-is_whole.ensures taken read))

pub returns-then-is_whole-clause-lines : goal.returns-then-is_whole-clause-lines
returns-then-is_whole-clause-lines c =
    rw c.into_lines.ensures (record { each = c.loop-row.invariant.3; few = c.loop-row.invariant.2.few })
