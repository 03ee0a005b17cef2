use Rattle.std.proofs.Common.{◌≡◌, Some, position, bytes_eq, sym, ap, ◌∙◌}
use Rattle.std.specs.Option.{option_map, option_and_then}
use Rattle.house_base.specs.declared.plan.Owner.{Owner}
use Rattle.review_desk.specs.Desk.{person_under}
use Rattle.review_desk.proofs.PlaceLemmas.{find-numbered, find-unnumbered}
use Rattle.review_desk.proofs.places.reviewer_place.Goals as goal

pub returns-in_err-index : goal.returns-in_err-index
returns-in_err-index c =
    let s = c.args.plan.now in
    let name = c.in_ok-name.name.now in
    let given : c.args.line.now.reviewer ≡ Some name = sym c.in_ok-name.ensures.value in
    let none = find-unnumbered (λ (o : Owner). o.name) name s.owners (ap (position (bytes_eq name)) (sym c.requires) ∙ sym c.in_err-index.ensures.number) in
    c.from_residual-in_err-index.ensures
    ∙ (sym (ap (option_map (λ (o : Owner). o.first)) none) ∙ sym (ap (option_and_then (person_under s)) given))

pub returns : goal.returns
returns c =
    let s = c.args.plan.now in
    let name = c.in_ok-name.name.now in
    let given : c.args.line.now.reviewer ≡ Some name = sym c.in_ok-name.ensures.value in
    let found = find-numbered (λ (o : Owner). o.name) name s.owners c.in_ok-index.index c.owner.result (ap (position (bytes_eq name)) (sym c.requires) ∙ sym c.in_ok-index.ensures.number) c.owner.ensures in
    sym (ap (option_map (λ (o : Owner). o.first)) found) ∙ sym (ap (option_and_then (person_under s)) given)
