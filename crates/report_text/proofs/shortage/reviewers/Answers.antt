use Rattle.std.proofs.Common.{◌≡◌, ◌+◌, ◌++◌, ◌∷◌, [], map, filter, take, sym, ap, ◌∙◌, arith}
use Rattle.std.proofs.lemmas.List.{take_all}
use Rattle.house_base.specs.declared.plan.Owner.{Owner}
use Rattle.house_model.specs.Texts.{reviewers_in}
use Rattle.cut_gap.specs.Cut.{marked}
use Rattle.report_text.proofs.FilterLemmas.{take_next, passes_last, skips_last}
use Rattle.report_text.proofs.OwnerLemmas.{Contains-at, first_below}
use Rattle.report_text.proofs.shortage.reviewers.Goals as goal
use Rattle.report_text.proofs.shortage.reviewers.Goals.{then-has_reviewer+in_ok-push, else-has_reviewer}

pub has_reviewer-requires : goal.has_reviewer-requires
has_reviewer-requires c =
    let s = c.args.plan.now in
    omega (arith, c.requires, first_below s c.owner-owner.result c.count.ensures.setting (Contains-at s.owners c.loop-index.index c.owner-owner.result c.owner-owner.ensures))

pub loop-index-preserved : goal.loop-index-preserved
loop-index-preserved c =
    let owners = c.args.plan.now.owners in
    let i = c.loop-index.index in
    let test = λ (o : Owner). marked c.args.cut.now.reviewers o.first in
    let grown = take_next owners i c.owner-owner.result c.owner-owner.ensures in
    elim c.if-has_reviewer.branch [
      | then-has_reviewer+in_ok-push w ↦
          ap (λ v. v.items) w.names-is ∙ w.in_ok-push.ensures.items
          ∙ ap (λ ns. ns ++ c.owner-owner.result.name ∷ []) c.loop-index.invariant
          ∙ sym (passes_last (λ o. o.name) test (take i owners) (take (i + 1) owners) c.owner-owner.result grown (sym c.has_reviewer.ensures ∙ w.if-has_reviewer.true))
      | else-has_reviewer w ↦
          ap (λ v. v.items) w.names-is ∙ c.loop-index.invariant
          ∙ sym (skips_last (λ o. o.name) test (take i owners) (take (i + 1) owners) c.owner-owner.result grown (sym c.has_reviewer.ensures ∙ w.if-has_reviewer.false))
    ]

pub returns : goal.returns
unfolding reviewers_in
returns c =
    let owners = c.args.plan.now.owners in
    let all : take c.loop-index.index owners ≡ owners = take_all c.loop-index.index owners (omega (arith, c.loop-index-test.false, c.owners-index-end.ensures.value)) in
    c.loop-index.invariant ∙ ap (λ os. map (λ (o : Owner). o.name) (filter (λ (o : Owner). marked c.args.cut.now.reviewers o.first) os)) all
