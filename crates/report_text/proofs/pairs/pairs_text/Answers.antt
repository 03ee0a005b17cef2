use Rattle.std.proofs.Common.{◌≡◌, ◌++◌, ◌∷◌, [], flat_map, take, sym, ap, ◌∙◌, append-nil, arith}
use Rattle.std.proofs.lemmas.Grind.{flat_map-append}
use Rattle.std.proofs.lemmas.List.{take_all}
use Rattle.house_base.specs.Grid.{cell}
use Rattle.house_model.specs.Texts.{pair_lines, pairs_text}
use Rattle.report_text.proofs.FilterLemmas.{take_next}
use Rattle.report_text.proofs.OwnerLemmas.{Contains-at}
use Rattle.report_text.proofs.pairs.pairs_text.Goals as goal

pub push_pairs-requires-clause-person : goal.push_pairs-requires-clause-person
push_pairs-requires-clause-person c = Contains-at c.args.plan.now.owners c.loop-index.index c.owner.result c.owner.ensures

pub loop-index-preserved : goal.loop-index-preserved
loop-index-preserved c =
    let owners = c.args.plan.now.owners in
    let lines = pair_lines c.args.plan.now (cell c.args.pairs.now) in
    let i = c.loop-index.index in
    let owner = c.owner.result in
    c.in_ok-push_pairs.ensures
    ∙ ap (λ t. t ++ lines owner) c.loop-index.invariant
    ∙ ap (λ t. flat_map lines (take i owners) ++ t) (sym (append-nil (lines owner)))
    ∙ sym (flat_map-append lines (take i owners) (owner ∷ []))
    ∙ ap (flat_map lines) (sym (take_next owners i owner c.owner.ensures))

pub returns : goal.returns
unfolding pairs_text
returns c =
    let owners = c.args.plan.now.owners in
    let all : take c.loop-index.index owners ≡ owners = take_all c.loop-index.index owners (omega (arith, c.loop-index-test.false, c.owners-index-end.ensures.value)) in
    c.loop-index.invariant ∙ ap (flat_map (pair_lines c.args.plan.now (cell c.args.pairs.now))) all
