use Rattle.std.proofs.Common.{◌≡◌, map, sym, ap, ◌∙◌, arith}
use Rattle.house_base.specs.Setting.{size}
use Rattle.peer_selection.specs.Counting.{numbers_below}
use Rattle.peer_selection.specs.Profile.{profile_on}
use Rattle.house_model.specs.Report.{place_of_number}
use Rattle.house_model.specs.Report.{applicant_row, applicant_rows_of}
use Rattle.call_outcome.proofs.OutcomePlaceLemmas.{place_of_number-at}
use Rattle.call_outcome.proofs.OutcomeLemmas.{rows_more}
use Rattle.call_outcome.proofs.applicants.applicant_rows.Goals as goal

pub loop-number-init : goal.loop-number-init
unfolding numbers_below
loop-number-init c = λ pairs points v assigned is rows. c.new-rows.ensures.items

pub loop-number-preserved : goal.loop-number-preserved
loop-number-preserved c =
    let s = c.args.plan.now in
    let stands = place_of_number-at s c.at_number-place.result c.loop-number.number c.count-number-end.ensures.setting c.at_number-place.ensures.below c.at_number-place.ensures.number in
    λ pairs points v assigned is rows.
    let f = profile_on s pairs points in
    rows_more (λ number. applicant_row f v (place_of_number s number)) c.loop-number.number c.loop-number.rows.items c.push.new.self.items c.applicant_row.result (c.loop-number.invariant pairs points v assigned is rows)
    (c.applicant_row.ensures pairs points v assigned is rows ∙ ap (applicant_row f v) (sym stands)) c.in_ok-push.ensures.items

pub returns : goal.returns
unfolding applicant_rows_of
returns c =
    let s = c.args.plan.now in
    let whole : c.loop-number.number ≡ size s = omega (arith, c.loop-number-test.false, c.count-number-end.ensures.value) in
    λ pairs points v assigned is rows. c.loop-number.invariant pairs points v assigned is rows ∙ ap (λ n. map (λ number. applicant_row (profile_on s pairs points) v (place_of_number s number)) (numbers_below n)) whole
