use Rattle.std.proofs.Common.{sym, ap, ◌∙◌, arith, slice_get, map}
use Rattle.std.proofs.lemmas.List.{length-set, length-map}
use Rattle.first_assign.proofs.PlaceLemmas.{person_of-read, first_more, applicant_of}
use Rattle.first_assign.proofs.hand_made.first_places.Goals as goal

pub loop-number-preserved : goal.loop-number-preserved
loop-number-preserved c =
    let owner = c.owner_at-owner.result in
    let names = c.requires.names.persons c.at_number.result owner c.owner_at-owner.ensures.person c.owner_at-owner.ensures.owned in
    let named = person_of-read c.args.book.now c.loop-number.number owner.name
    (ap (slice_get (map (λ a. a.1) c.args.book.now.applicants)) (sym c.at_number.ensures.number) ∙ names) in
    record {
      room = omega (arith, length-set c.loop-number.places.items c.person_of.result owner.first, c.loop-number.invariant.room);
      first = first_more c.args.plan.now c.args.book.now c.loop-number.places.items c.loop-number.number c.person_of.result owner
          c.owner_at-owner.ensures.person named c.person_of.ensures.person c.loop-number.invariant.room c.loop-number.invariant.first;
    }

pub returns-clause-places : goal.returns-clause-places
returns-clause-places c = record {
  room = c.loop-number.invariant.room;
  first = λ person l.
      let r = applicant_of c.args.book.now person l in
      c.loop-number.invariant.first person r.0
      (omega (arith, r.1, length-map c.args.book.now.applicants (λ a. a.1), c.loop-number-test.false, c.count-number-end.ensures.value)) r.2;
}
