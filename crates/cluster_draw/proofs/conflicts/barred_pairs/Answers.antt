use Rattle.std.proofs.Common.{◌≡◌, ◌<◌, [], sym, ap, ◌∙◌, ◌*◌, ◌==◌, ◌&&◌, ◌||◌, false, arith, length, get_or, take}
use Rattle.std.proofs.lemmas.List.{length-replicate, take_all}
use Rattle.std.proofs.lemmas.Option.{slice_get-get_or}
use Rattle.house_base.specs.Grid.{cell}
use Rattle.house_model.specs.Register.{names, pair_among}
use Rattle.cluster_draw.specs.Barred.{name_in, is_barred}
use Rattle.cluster_draw.specs.Placings.{name_of, numbers_in}
use Rattle.cluster_draw.specs.declared.placings.Placing.{Placing}
use Rattle.cluster_draw.proofs.BarredLemmas.{is_barred-none, is_barred-more, name_of_number, number_in_range, own_places}
use Rattle.cluster_draw.proofs.conflicts.barred_pairs.Goals as goal

pub loop-index-init : goal.loop-index-init
loop-index-init c =
    let count = c.count.ensures.value in
    record {
      side = c.in_ok-barred.ensures.side ∙ count;
      square = ap (λ grid. length grid.cells) c.in_ok-barred.ensures.whole ∙ (length-replicate (c.count.result * c.count.result) false ∙ ap (λ n. n * n) count);
      cells = λ r p rl pl. c.in_ok-barred.ensures.empty r p ∙ sym (is_barred-none c.args.book.now.barred c.args.applicants.now r p);
    }

pub bounds-reviewers-index : goal.bounds-reviewers-index
bounds-reviewers-index c = omega (arith, c.loop-index-test.true, c.requires.reviewers.many)

pub bar_person-requires-clause-known : goal.bar_person-requires-clause-known
bar_person-requires-clause-known c =
    let nobody : Placing = record { person = 0; cluster = 0 } in
    c.requires.reviewers.known c.loop-index.index (get_or c.args.placings.now c.loop-index.index nobody)
    (slice_get-get_or c.args.placings.now c.loop-index.index nobody c.loop-index-test.true)

pub bar_person-requires-clause-first_below : goal.bar_person-requires-clause-first_below
bar_person-requires-clause-first_below c =
    let any = c.index-reviewers-index.result in
    c.requires.reviewers.first c.loop-index.index (get_or c.args.reviewers.now c.loop-index.index any)
    (slice_get-get_or c.args.reviewers.now c.loop-index.index any (omega (arith, c.loop-index-test.true, c.requires.reviewers.many)))

pub bar_person-requires-clause-places : goal.bar_person-requires-clause-places
bar_person-requires-clause-places c =
    own_places c.args.book.now c.args.applicants.now c.table_of_places-places.result c.requires.applicants (omega (arith, c.count.ensures.value, c.count.ensures.most))
    c.table_of_places-places.ensures.room c.table_of_places-places.ensures.place

pub loop-index-preserved : goal.loop-index-preserved
loop-index-preserved c =
    let reg = c.args.book.now in
    let applicants = c.args.applicants.now in
    let index = c.loop-index.index in
    let nobody : Placing = record { person = 0; cluster = 0 } in
    let placing = get_or c.args.placings.now index nobody in
    let any = c.index-reviewers-index.result in
    let owner = get_or c.args.reviewers.now index any in
    let here = slice_get-get_or c.args.placings.now index nobody c.loop-index-test.true in
    let at = slice_get-get_or c.args.reviewers.now index any (omega (arith, c.loop-index-test.true, c.requires.reviewers.many)) in
    record {
      side = c.bar_person.ensures.side ∙ c.loop-index.invariant.side;
      square = c.bar_person.ensures.as_many ∙ c.loop-index.invariant.square;
      cells = λ r p rl pl.
          let below : p < length applicants = omega (arith, pl, c.requires.applicants.many) in
          let number = get_or (numbers_in applicants) p 0 in
          let place : get_or c.table_of_places-places.result number 0 ≡ p = c.table_of_places-places.ensures.place p below in
          sym (ap (cell c.bar_person.new.barred r) place)
          ∙ (c.bar_person.ensures.cells r number rl (number_in_range reg applicants c.requires.applicants p below)
          ∙ (ap (λ q. cell c.loop-index.barred r q || (owner.first == r && pair_among reg.barred (name_of reg placing) (get_or (names reg) number []))) place
          ∙ (ap (λ b. b || (owner.first == r && pair_among reg.barred (name_of reg placing) (get_or (names reg) number []))) (c.loop-index.invariant.cells r p rl pl)
          ∙ (ap (λ t. is_barred reg.barred applicants (take index c.args.reviewers.now) r p || (owner.first == r && pair_among reg.barred (name_of reg placing) t))
          (name_of_number reg applicants c.requires.applicants p below)
          ∙ (ap (λ t. is_barred reg.barred applicants (take index c.args.reviewers.now) r p || (owner.first == r && pair_among reg.barred t (name_in applicants p)))
          (c.requires.reviewers.named index placing owner here at)
          ∙ sym (is_barred-more reg.barred applicants c.args.reviewers.now index owner r p at))))));
    }

pub returns-clause-cells : goal.returns-clause-cells
returns-clause-cells c =
    λ r p rl pl.
    c.loop-index.invariant.cells r p rl pl
    ∙ ap (λ os. is_barred c.args.book.now.barred c.args.applicants.now os r p)
    (take_all c.loop-index.index c.args.reviewers.now (omega (arith, c.loop-index-test.false, c.requires.reviewers.many)))
