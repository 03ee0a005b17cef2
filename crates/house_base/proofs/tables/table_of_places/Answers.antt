use Rattle.std.proofs.Common.{◌≡◌, ◌∙◌, ◌<◌, length, length-set, sym, arith, map, ap, get_or}
use Rattle.std.proofs.lemmas.List.{length-map, get_or-map}
use Rattle.std.proofs.lemmas.List.Elements.{All-get_or}
use Rattle.house_base.specs.declared.plan.Person.{Person}
use Rattle.house_base.proofs.TableLemmas.{entries_more}
use Rattle.house_base.proofs.tables.table_of_places.Goals as goal

pub loop-place-preserved : goal.loop-place-preserved
loop-place-preserved c =
    let numbers = map (λ (person : Person). person.number) c.args.people.now in
    let is : get_or numbers c.loop-place.place 0 ≡ c.index-people-place.result.number =
    get_or-map (λ person. person.number) c.args.people.now c.loop-place.place c.index-people-place.result 0 c.loop-place-test.true ∙ sym (ap (λ person. person.number) c.index-people-place.is) in
    let inside : c.loop-place.place < length numbers = omega (arith, c.loop-place-test.true, length-map c.args.people.now (λ (person : Person). person.number)) in
    let number = All-get_or (λ number. number < length c.args.people.now) numbers c.loop-place.place 0 inside c.requires.below in
    let below : c.index-people-place.result.number < length c.loop-place.table = omega (arith, is, number, c.requires.few, c.loop-place.invariant.room) in
    record {
      room = length-set c.loop-place.table c.index-people-place.result.number c.loop-place.place ∙ c.loop-place.invariant.room;
      entries = entries_more numbers c.loop-place.table c.loop-place.place c.index-people-place.result.number c.requires.differ inside is below c.loop-place.invariant.entries;
    }

pub bounds-table-person : goal.bounds-table-person
bounds-table-person c =
    let numbers = map (λ (person : Person). person.number) c.args.people.now in
    let is : get_or numbers c.loop-place.place 0 ≡ c.index-people-place.result.number =
    get_or-map (λ person. person.number) c.args.people.now c.loop-place.place c.index-people-place.result 0 c.loop-place-test.true ∙ sym (ap (λ person. person.number) c.index-people-place.is) in
    let inside : c.loop-place.place < length numbers = omega (arith, c.loop-place-test.true, length-map c.args.people.now (λ (person : Person). person.number)) in
    let number = All-get_or (λ number. number < length c.args.people.now) numbers c.loop-place.place 0 inside c.requires.below in
    omega (arith, is, number, c.requires.few)
