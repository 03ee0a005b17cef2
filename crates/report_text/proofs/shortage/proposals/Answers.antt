use Rattle.std.proofs.Common.{◌≡◌, ◌+◌, ◌++◌, ◌∷◌, [], map, filter, sym, ap, ◌∙◌, arith}
use Rattle.house_base.specs.Setting.{size, name_at}
use Rattle.peer_selection.specs.Counting.{numbers_below}
use Rattle.peer_selection.proofs.CountingLemmas.{numbers_below-add_one}
use Rattle.house_model.specs.Texts.{proposals_in}
use Rattle.cut_gap.specs.Cut.{marked}
use Rattle.report_text.proofs.FilterLemmas.{passes_last, skips_last}
use Rattle.report_text.proofs.PairLineLemmas.{name_of_person}
use Rattle.report_text.proofs.shortage.proposals.Goals as goal
use Rattle.report_text.proofs.shortage.proposals.Goals.{then-has_proposal+in_ok-push, else-has_proposal}

pub loop-place-init : goal.loop-place-init
unfolding numbers_below
loop-place-init c = c.in_ok-names.ensures.items

pub loop-place-preserved : goal.loop-place-preserved
loop-place-preserved c =
    let s = c.args.plan.now in
    let test = marked c.args.cut.now.proposals in
    let p = c.loop-place.place in
    elim c.if-has_proposal.branch [
      | then-has_proposal+in_ok-push w ↦
          ap (λ v. v.items) w.names-is ∙ w.in_ok-push.ensures.items
          ∙ ap (λ ns. ns ++ w.person.result.name ∷ []) c.loop-place.invariant
          ∙ ap (λ name. map (name_at s) (filter test (numbers_below p)) ++ name ∷ []) (sym (name_of_person s p w.person.result w.person.ensures))
          ∙ sym (passes_last (name_at s) test (numbers_below p) (numbers_below (p + 1)) p (numbers_below-add_one p) (sym c.has_proposal.ensures ∙ w.if-has_proposal.true))
      | else-has_proposal w ↦
          ap (λ v. v.items) w.names-is ∙ c.loop-place.invariant
          ∙ sym (skips_last (name_at s) test (numbers_below p) (numbers_below (p + 1)) p (numbers_below-add_one p) (sym c.has_proposal.ensures ∙ w.if-has_proposal.false))
    ]

pub returns : goal.returns
unfolding proposals_in
returns c =
    let s = c.args.plan.now in
    let n : c.loop-place.place ≡ size s = omega (arith, c.loop-place.auto.place-end, c.loop-place-test.false, c.count-place-end.ensures.value) in
    c.loop-place.invariant ∙ ap (λ k. map (name_at s) (filter (marked c.args.cut.now.proposals) (numbers_below k))) n
