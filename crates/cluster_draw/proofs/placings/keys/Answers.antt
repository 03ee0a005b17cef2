use Rattle.std.proofs.Common.{◌++◌, ◌∷◌, [], map, take, sym, ap, ◌∙◌}
use Rattle.std.proofs.lemmas.List.{map_push}
use Rattle.house_model.specs.Register.{persons}
use Rattle.house_model.specs.Seeds.{person_key}
use Rattle.cluster_draw.proofs.PlacingLemmas.{take_push}
use Rattle.cluster_draw.proofs.placings.keys.Goals as goal

pub loop-person-preserved : goal.loop-person-preserved
loop-person-preserved c =
    let seed = c.args.seed.now in
    let people = persons c.args.book.now in
    let index = c.loop-person.person in
    let name = c.person_name-name.result in
    c.in_ok-push.ensures.items
    ∙ (ap (λ l. l ++ (c.digest_of.result, name) ∷ []) c.loop-person.invariant
    ∙ (ap (λ d. map (person_key seed) (take index people) ++ (d, name) ∷ []) c.digest_of.ensures
    ∙ sym (ap (map (person_key seed)) (take_push people index name c.person_name-name.ensures) ∙ map_push (person_key seed) (take index people) name)))
