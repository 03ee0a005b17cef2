use Rattle.std.proofs.Common.{◌≡◌, ◌∙◌, ◌++◌, ◌∷◌, [], ℕ, List, Some, ap, arith, drop, get_or, length, subst, sym, take, true}
use Rattle.std.specs.Prelude.{codes}
use Rattle.std.proofs.lemmas.List.{take_at}
use Rattle.slip_check.specs.Form.{goes_on}
use Rattle.command_text.specs.Strict.{Row, spelled_behind}
use Rattle.house_base.specs.Text.{among}
use Rattle.slip_check.specs.Counted.{Counted, IsCount}
use Rattle.slip_check.proofs.CountLemmas.{ballot_off, ballot_off_may, ballot_some, ballot_taken, given_as, scores_most, vote_may}
use Rattle.slip_check.proofs.GiveLemmas.{few_points, points_most}
use Rattle.slip_check.proofs.count.Count.take_ballot.Goals as goal

pub returns-in-Err-clause-off : goal.returns-in-Err-clause-off
returns-in-Err-clause-off c =
    λ before r e ws spells. ballot_off before ws (c.in-Err.ensures.off (cc) ws spells)

pub returns-then-not-may_vote-clause-off : goal.returns-then-not-may_vote-clause-off
returns-then-not-may_vote-clause-off c =
    λ before r e ws spells.
    ballot_off_may before c.args.rest.now c.in-Ok.ballot.person _ _ ws c.in-Ok.ensures.found spells (sym (c.may_vote.ensures before r) ∙ c.if-not-may_vote.true)

pub add-requires-clause-few : goal.add-requires-clause-few
add-requires-clause-few c =
    let may = vote_may c.requires.0 c.args.self.now c.in-Ok.ballot.person c.requires.1 (sym (c.may_vote.ensures c.requires.0 c.requires.1) ∙ c.if-not-may_vote.false) in
    omega (arith, may.0, ap (λ v. length v.voters) c.self.view_is)

pub add-requires-clause-unknown : goal.add-requires-clause-unknown
add-requires-clause-unknown c =
    let may = vote_may c.requires.0 c.args.self.now c.in-Ok.ballot.person c.requires.1 (sym (c.may_vote.ensures c.requires.0 c.requires.1) ∙ c.if-not-may_vote.false) in
    ap (λ v. among v.voters c.in-Ok.ballot.person) c.self.view_is ∙ may.1

pub give-requires-clause-some : goal.give-requires-clause-some
give-requires-clause-some c =
    rw c.deref-2.ensures.value (ballot_some _ _ _ _ c.in-Ok.ensures.found.2)

pub give-requires-clause-few : goal.give-requires-clause-few
give-requires-clause-few c =
    rw c.deref-2.ensures.value (few_points _ _ _ c.in-Ok.ensures.found.2.cells_are)

pub give-requires-clause-points : goal.give-requires-clause-points
give-requires-clause-points c =
    rw c.deref-2.ensures.value (points_most _ _ _ c.in-Ok.ensures.found.2.cells_are)

pub give-requires-clause-most : goal.give-requires-clause-most
give-requires-clause-most c =
    let may = vote_may c.requires.0 c.args.self.now c.in-Ok.ballot.person c.requires.1 (sym (c.may_vote.ensures c.requires.0 c.requires.1) ∙ c.if-not-may_vote.false) in
    rw c.deref_mut.ensures.value (λ k. omega (arith, may.0, scores_most c.requires.0 c.args.self.now c.requires.1 k, ap (λ v. get_or v.scores k 0) c.self.view_is))

pub returns-clause-taken : goal.returns-clause-taken
returns-clause-taken c =
    λ before r.
    let new : Counted = record { members = c.self.inside.members; voters = c.add.new.self; scores = c.give.new.scores } in
    let items = c.self.inside.scores.items in
    let written : take c.self.inside.scores.len (c.give.new.scores ++ drop (length c.give.new.scores) items) ≡ c.give.new.scores =
    take_at c.give.new.scores (drop (length c.give.new.scores) items) c.self.inside.scores.len (omega (arith, c.give.ensures.each, ap length c.deref_mut.ensures.value, c.self.inside.scores.ok.0)) in
    let P = λ (s : List ℕ). (x : Row) × (spelled_behind c.args.rest.now ≡ Some x) × (goes_on before (codes "ballot" ∷ x) ≡ true)
    × IsCount (before ++ (codes "ballot" ∷ x) ∷ []) (record { members = c.self.inside.members; voters = c.add.new.self; scores = s }) in
    subst P (sym written)
    (ballot_taken before c.args.self.now new c.args.rest.now c.in-Ok.ballot.person c.in-Ok.ballot.cells.proposals.items c.in-Ok.ballot.cells.points.items r
    c.in-Ok.ensures.found (sym (c.may_vote.ensures before r) ∙ c.if-not-may_vote.false)
    (ap (λ v. v.members) c.self.view_is)
    (c.in_ok-add.ensures.added ∙ ap (λ v. v.voters ++ c.in-Ok.ballot.person ∷ []) c.self.view_is)
    (c.give.ensures.each ∙ ap length c.deref_mut.ensures.value ∙ ap (λ v. length v.scores) c.self.view_is)
    (given_as c.give.new.scores c.deref_mut.result.now c.args.self.now.scores c.self.inside.members c.args.self.now.members c.deref.result.now
    c.in-Ok.ballot.cells.proposals.items c.deref-2.result.now c.in-Ok.ballot.cells.points.items
    (c.deref_mut.ensures.value ∙ ap (λ v. v.scores) c.self.view_is) (ap (λ v. v.members) c.self.view_is) c.deref.ensures.value c.deref-2.ensures.value
    c.give.ensures.scores))
