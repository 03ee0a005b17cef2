use Rattle.std.proofs.Common.{◌≡◌}
use Rattle.house_base.specs.Setting.{setting_of}
use Rattle.house_base.proofs.TableLemmas.{number_at-map}
use Rattle.house_base.proofs.plan.Plan.build.Goals as goal

pub table_of_places-place_of_number-requires-clause-below : goal.table_of_places-place_of_number-requires-clause-below
table_of_places-place_of_number-requires-clause-below c = rw c.deref.ensures.value c.requires.numbers_below

pub invariant_of-result : goal.invariant_of-result
invariant_of-result c =
    let s = setting_of c.args.call c.args.people.items c.args.owners.items c.args.barred in
    let items : c.deref.result.now ≡ s.people = c.deref.ensures.value in
    let owners : c.deref-2.result.now ≡ s.owners = c.deref-2.ensures.value in
    record {
      setting = c.requires;
      gives_places = record {
        room = c.table_of_places-place_of_number.ensures.room;
        place = λ place below. rw (number_at-map s place, ← items) (c.table_of_places-place_of_number.ensures.place place (rw items below));
      };
      gives_owners = rw (← owners) c.table_of_owners-owner_of_place.ensures;
    }
