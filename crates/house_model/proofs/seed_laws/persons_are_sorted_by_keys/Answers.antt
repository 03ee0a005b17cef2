use Rattle.std.proofs.Common.{ap, ◌∙◌, flat_map, slice_get, arith}
use Rattle.std.proofs.lemmas.List.{length-map}
use Rattle.house_model.specs.Register.{own_people}
use Rattle.house_model.specs.Seeds.{drawn_place, drawn_register}
use Rattle.house_model.proofs.SeedLemmas.{drawn_persons-sorted, drawn_cluster-at}
use Rattle.house_model.proofs.SeedPlaceLemmas.{slice_get-drawn_place}
use Rattle.house_model.proofs.seed_laws.persons_are_sorted_by_keys.Goals as goal

pub returns-clause-persons : goal.returns-clause-persons
returns-clause-persons c = λ seed reg keys moved sorted. drawn_persons-sorted seed reg keys moved sorted

pub returns-clause-clusters : goal.returns-clause-clusters
returns-clause-clusters c = λ seed reg keys clusters rank moved sorted below.
    drawn_cluster-at seed reg keys moved sorted clusters rank (omega (arith, below, length-map keys (λ key. key.1)))

pub returns-clause-places : goal.returns-clause-places
returns-clause-places c = λ seed reg keys clusters i a moved sorted at.
    ap (λ order. slice_get (flat_map (own_people (drawn_register seed clusters reg)) order) (drawn_place seed reg i)) (drawn_persons-sorted seed reg keys moved sorted)
    ∙ slice_get-drawn_place seed reg keys moved sorted clusters i a at
