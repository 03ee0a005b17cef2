use Rattle.std.proofs.Common.{◌≡◌, ◌++◌, ◌∷◌, [], sym, ap, ◌∙◌, arith, length, get_or, take, length-append}
use Rattle.std.proofs.lemmas.List.{take_all}
use Rattle.std.proofs.lemmas.Option.{slice_get-get_or}
use Rattle.house_model.specs.Register.{own_count, owners_from}
use Rattle.house_model.proofs.RegisterPeopleLemmas.{numbered}
use Rattle.cluster_draw.specs.Placings.{name_of, names_of, own_rows, applicants_in}
use Rattle.cluster_draw.specs.declared.placings.Placing.{Placing}
use Rattle.cluster_draw.proofs.PeopleLemmas.{applicants_in-start, applicants_in-more, owners_in-more, length-own_rows, same_owner}
use Rattle.cluster_draw.proofs.people.people_and_owners.Goals as goal

pub loop-index-init : goal.loop-index-init
loop-index-init c = record {
  people = c.new-people.ensures.items ∙ applicants_in-start c.args.book.now c.args.placings.now;
  owners = c.new-owners.ensures.items;
  short = omega (arith, ap length c.new-people.ensures.items);
}

pub loop-index-preserved : goal.loop-index-preserved
loop-index-preserved c =
    let reg = c.args.book.now in
    let index = c.loop-index.index in
    let placings = c.args.placings.now in
    let nobody : Placing = record { person = 0; cluster = 0 } in
    let placing = get_or placings index nobody in
    let here = slice_get-get_or placings index nobody c.loop-index-test.true in
    let rows = own_rows (name_of reg placing) placing.cluster (numbered reg) in
    let longer : c.push_own.new.people.items ≡ c.loop-index.people.items ++ rows = c.in_ok-owner.ensures.people in
    record {
      people = longer ∙ (ap (λ l. l ++ rows) c.loop-index.invariant.people ∙ sym (applicants_in-more reg placings index placing here));
      owners = c.in_ok-push.ensures.items
          ∙ (ap (λ l. l ++ c.in_ok-owner.owner ∷ []) c.loop-index.invariant.owners
          ∙ (ap (λ o. owners_from reg 0 (names_of reg (take index placings)) ++ o ∷ [])
          (same_owner c.in_ok-owner.owner (name_of reg placing) (length (applicants_in reg (take index placings))) (own_count reg (name_of reg placing)) c.in_ok-owner.ensures.name
          (omega (arith, c.in_ok-owner.ensures.first, ap length c.loop-index.invariant.people)) c.in_ok-owner.ensures.own)
          ∙ sym (owners_in-more reg placings index placing here)));
      short = omega (
        arith,
        ap length longer,
        length-append c.loop-index.people.items rows,
        length-own_rows reg (name_of reg placing) placing.cluster,
        c.loop-index.invariant.short,
        c.in_ok-owner.ensures.own,
        c.in_ok-owner.ensures.few_own,
      );
    }

pub returns-clause-people : goal.returns-clause-people
returns-clause-people c =
    c.loop-index.invariant.people ∙ ap (applicants_in c.args.book.now) (take_all c.loop-index.index c.args.placings.now (omega (arith, c.loop-index-test.false)))

pub returns-clause-owners : goal.returns-clause-owners
returns-clause-owners c =
    c.loop-index.invariant.owners
    ∙ ap (λ l. owners_from c.args.book.now 0 (names_of c.args.book.now l)) (take_all c.loop-index.index c.args.placings.now (omega (arith, c.loop-index-test.false)))
