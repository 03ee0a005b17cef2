use Rattle.std.proofs.Common.{◌*◌, ◌∙◌, sym, ap, arith, get_or, sum}
use Rattle.std.specs.Prelude.{position}
use Rattle.std.specs.Str.{bytes_eq}
use Rattle.slip_check.specs.Slip.{rank_among}
use Rattle.slip_check.proofs.CheckLemmas.{worth_is, worth_of_stranger}
use Rattle.slip_check.proofs.CountLemmas.{scores_most}
use Rattle.slip_check.proofs.count.Count.worth.Goals as goal

pub total-requires-clause-most : goal.total-requires-clause-most
total-requires-clause-most c =
    let r = c.requires.counted in
    rw c.deref.ensures.value (λ k. omega (arith, r.1.few_voters, scores_most r.0 c.args.self.now r.1 k, ap (λ v. get_or v.scores k 0) c.self.view_is))

pub returns-in-None : goal.returns-in-None
returns-in-None c = λ rows r slip name seats persons members ballots.
    worth_of_stranger rows c.args.self.now slip c.args.name.now r name members
    (ap (λ v. position (bytes_eq c.args.name.now) v.members) (sym c.self.view_is) ∙ sym c.find.ensures.number ∙ c.in-None.is)

pub returns-in-Some : goal.returns-in-Some
returns-in-Some c = λ rows r slip name seats persons members ballots.
    worth_is rows c.args.self.now slip c.args.name.now c.args.seats c.args.persons c.in-Some.index (c.from.result * c.total.result) (c.from-in-Some.result * c.from-in-Some-2.result)
    c.rank.result c.chance.result r name seats persons members ballots
    (ap (λ v. position (bytes_eq c.args.name.now) v.members) (sym c.self.view_is) ∙ sym c.find.ensures.number ∙ c.in-Some.is)
    (ap (λ n. n * c.total.result) c.from.ensures ∙ ap (λ n. c.args.seats * n) (c.total.ensures.value ∙ ap sum c.deref.ensures.value ∙ ap (λ v. sum v.scores) c.self.view_is))
    (ap (λ n. n * c.from-in-Some-2.result) c.from-in-Some.ensures ∙ ap (λ n. c.args.persons * n) c.from-in-Some-2.ensures)
    (c.rank.ensures.value ∙ ap (λ x. rank_among x c.in-Some.index) c.deref-in-Some.ensures.value ∙ ap (λ v. rank_among v.scores c.in-Some.index) c.self.view_is)
    (c.chance.ensures.counted 0)
