use Rattle.std.proofs.Common.{◌≡◌, ℕ, ◌<◌, true, false, not, ◌&&◌, ◌||◌, sym, ap, ◌∙◌, subst, arith}
use Rattle.std.proofs.lemmas.Bool.{and_parts, and_from, both_ways, false_from_ne_true, not-true}
use Rattle.peer_selection.specs.Shortage.{Places}
use Rattle.assign_flow.specs.Places.{places_of}
use Rattle.assign_flow.specs.Residual.{IsUnderWay}
use Rattle.assign_flow.specs.Search.{tree_of, reviewer_mark}
use Rattle.assign_flow.specs.Ways.{graph_of}
use Rattle.assign_flow.proofs.TreeLemmas.{GoesTo, tree-few, tree-reviewer, found-grown, order-unreached, reviewer-sought, under_way-reviewer, came-reviewer, within}
use Rattle.assign_flow.proofs.search.Search.reach_reviewer.Goals as goal

pub mark_reviewer-requires-clause-few : goal.mark_reviewer-requires-clause-few
mark_reviewer-requires-clause-few c =
    let s = c.args.self.now in
    let r = c.args.reviewer in
    let new = order-unreached (places_of s.reached_reviewers r) (reviewer_mark s.reviewers.items r).before c.requires.new in
    omega (arith, tree-few (graph_of c.args.ways.now) (tree_of s) r c.requires.tree (omega (arith, s.reviewers_below r c.requires.near)) new)

pub returns-in-Some-clause-grown : goal.returns-in-Some-clause-grown
returns-in-Some-clause-grown c =
    let g = graph_of c.args.ways.now in
    let s = c.args.self.now in
    let t = tree_of s in
    let u = tree_of c.mark_reviewer.new.self in
    let r = c.args.reviewer in
    let step = c.mark_reviewer.ensures.reaches in
    let below : r < g.side = omega (arith, s.reviewers_below r c.requires.near) in
    let new = order-unreached (places_of s.reached_reviewers r) (reviewer_mark s.reviewers.items r).before c.requires.new in
    let came = came-reviewer g t r c.next-from.result (places_of c.offered_by.result) (places_of c.and.result) c.offered_by.ensures.ways c.offered_by.ensures.outside c.and.ensures c.next-from.ensures.here c.next-from.ensures.none in
    let p = c.in-Some.found in
    let ahead = places_of c.open_to-ahead.result in
    let room = places_of c.args.room.now in
    let here = sym (c.and-2.ensures p) ∙ c.in-Some.ensures.here in
    let both = and_parts (ahead p) (room p) here in
    let inside : p < g.side = within g.side p ahead room c.open_to-ahead.ensures.outside here in
    let parts = and_parts (g.free r p) (not (g.held r p)) (sym (c.open_to-ahead.ensures.ways p inside) ∙ both.0) in
    let way : GoesTo g u p r = record { below = below; reached = omega (arith, step.order); free = parts.0; held = not-true (g.held r p) parts.1 } in
    λ a b goes.
    found-grown g a b room u (tree_of c.mark_proposal.new.self) p r
    (reviewer-sought g a b room (places_of s.near_reviewers) (places_of s.near_proposals) t u r c.next-from.result goes step below new c.requires.near came)
    c.mark_proposal.ensures.reaches inside both.1 way

pub returns-clause-tree : goal.returns-clause-tree
returns-clause-tree c =
    let g = graph_of c.args.ways.now in
    let s = c.args.self.now in
    let t = tree_of s in
    let u = tree_of c.mark_reviewer.new.self in
    let r = c.args.reviewer in
    let step = c.mark_reviewer.ensures.reaches in
    let below : r < g.side = omega (arith, s.reviewers_below r c.requires.near) in
    let new = order-unreached (places_of s.reached_reviewers r) (reviewer_mark s.reviewers.items r).before c.requires.new in
    let came = came-reviewer g t r c.next-from.result (places_of c.offered_by.result) (places_of c.and.result) c.offered_by.ensures.ways c.offered_by.ensures.outside c.and.ensures c.next-from.ensures.here c.next-from.ensures.none in
    tree-reviewer g t u r c.next-from.result c.requires.tree step below new came.some

pub returns-clause-goes : goal.returns-clause-goes
returns-clause-goes c =
    let g = graph_of c.args.ways.now in
    let s = c.args.self.now in
    let t = tree_of s in
    let u = tree_of c.mark_reviewer.new.self in
    let r = c.args.reviewer in
    let step = c.mark_reviewer.ensures.reaches in
    let below : r < g.side = omega (arith, s.reviewers_below r c.requires.near) in
    let new = order-unreached (places_of s.reached_reviewers r) (reviewer_mark s.reviewers.items r).before c.requires.new in
    let came = came-reviewer g t r c.next-from.result (places_of c.offered_by.result) (places_of c.and.result) c.offered_by.ensures.ways c.offered_by.ensures.outside c.and.ensures c.next-from.ensures.here c.next-from.ensures.none in
    let ahead = places_of c.open_to-ahead.result in
    let room = places_of c.args.room.now in
    let more = places_of c.or-self.result in
    let no_room : (p : ℕ) → ahead p ≡ true → room p ≡ false = λ p e. false_from_ne_true (room p) (λ f.
    both_ways (ahead p && room p) (sym (c.and-2.ensures p) ∙ c.in_default.ensures.none p (omega arith)) (and_from (ahead p) (room p) e f)) in
    λ a b goes.
    let P : Places → Type 0 = λ near. IsUnderWay g a b room near more u in
    subst P (sym (ap places_of c.mark_reviewer.ensures.near_reviewers))
    (under_way-reviewer g a b room (places_of s.near_reviewers) (places_of s.near_proposals) ahead more t u r c.next-from.result goes step below new c.requires.near came c.open_to-ahead.ensures.ways
    (λ p. c.or-self.ensures p ∙ ap (λ x. places_of x p || ahead p) c.mark_reviewer.ensures.near_proposals) no_room)
