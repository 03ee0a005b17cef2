use Rattle.std.proofs.Common.{◌+◌, sym, ap, subst, ◌∙◌, arith}
use Rattle.std.proofs.lemmas.List.{length_push}
use Rattle.seat_quota.specs.Tally.{row_at}
use Rattle.seat_quota.specs.Totals.{IsRow}
use Rattle.seat_quota.proofs.TallyLemmas.{length-rows, own-row, given-along, given_more}
use Rattle.seat_quota.proofs.rows.cents.Goals as goal

pub bounds-rows-reviewer : goal.bounds-rows-reviewer
bounds-rows-reviewer c =
    let d = c.args.desk.now in
    let len = length-rows (λ row. row.items) c.args.rows.now (row_at d) d.pairs.side c.requires.rows in
    omega (arith, len, c.requires.desk.side, c.count-reviewer-end.ensures.value)

pub row_cents-requires-clause-row : goal.row_cents-requires-clause-row
row_cents-requires-clause-row c =
    let s = c.args.plan.now in
    let d = c.args.desk.now in
    let r = c.loop-reviewer.reviewer in
    let xs = c.deref.result.now in
    let own = own-row (λ row. row.items) c.args.rows.now c.index-rows-reviewer.result s d r xs c.requires.desk c.requires.rows c.index-rows-reviewer.is c.deref.ensures.value (omega (arith, c.count-reviewer-end.ensures.value)) in
    subst (λ n. IsRow n xs) (sym c.requires.desk.side) own.is_row

pub loop-reviewer-preserved : goal.loop-reviewer-preserved
loop-reviewer-preserved c =
    let s = c.args.plan.now in
    let d = c.args.desk.now in
    let r = c.loop-reviewer.reviewer in
    let xs = c.deref.result.now in
    let own = own-row (λ row. row.items) c.args.rows.now c.index-rows-reviewer.result s d r xs c.requires.desk c.requires.rows c.index-rows-reviewer.is c.deref.ensures.value (omega (arith, c.count-reviewer-end.ensures.value)) in
    let given = given-along d r xs c.row_cents.result own.among c.row_cents.ensures.room c.row_cents.ensures.value in
    let old = c.loop-reviewer.cents.items in
    rw c.in_ok-push.ensures.items (record {
      each = length_push old c.row_cents.result ∙ ap (λ n. n + 1) c.loop-reviewer.invariant.each;
      given = given_more d old c.row_cents.result r c.loop-reviewer.invariant.each c.loop-reviewer.invariant.given given;
    })
