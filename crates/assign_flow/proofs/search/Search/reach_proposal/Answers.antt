use Rattle.std.proofs.Common.{◌<◌, ◌&&◌, ◌||◌, sym, ap, ◌∙◌, subst, arith}
use Rattle.peer_selection.specs.Shortage.{Places}
use Rattle.assign_flow.specs.Places.{places_of}
use Rattle.assign_flow.specs.Residual.{IsUnderWay}
use Rattle.assign_flow.specs.Search.{tree_of, reviewer_mark}
use Rattle.assign_flow.specs.Ways.{graph_of}
use Rattle.assign_flow.proofs.TreeLemmas.{tree-proposal, reached-same, under_way-proposal, came-proposal}
use Rattle.assign_flow.proofs.search.Search.reach_proposal.Goals as goal

pub returns-clause-tree : goal.returns-clause-tree
returns-clause-tree c =
    let g = graph_of c.args.ways.now in
    let s = c.args.self.now in
    let t = tree_of s in
    let u = tree_of c.mark_proposal.new.self in
    let p = c.args.proposal in
    let openers = places_of c.openers_of.result in
    let step = c.mark_proposal.ensures.reaches in
    let below : p < g.side = omega (arith, s.proposals_below p c.requires.near) in
    let came = came-proposal g t p c.next-from.result openers (places_of c.and.result) c.openers_of.ensures.ways c.openers_of.ensures.outside
    (λ r. c.and.ensures r ∙ ap (λ b. openers r && b) (sym (reached-same (places_of s.reached_reviewers r) (reviewer_mark s.reviewers.items r).before))) c.next-from.ensures.here c.next-from.ensures.none in
    tree-proposal g t u p c.next-from.result c.requires.tree step below c.requires.new came.some

pub returns-clause-goes : goal.returns-clause-goes
returns-clause-goes c =
    let g = graph_of c.args.ways.now in
    let s = c.args.self.now in
    let t = tree_of s in
    let u = tree_of c.mark_proposal.new.self in
    let p = c.args.proposal in
    let openers = places_of c.openers_of.result in
    let step = c.mark_proposal.ensures.reaches in
    let below : p < g.side = omega (arith, s.proposals_below p c.requires.near) in
    let came = came-proposal g t p c.next-from.result openers (places_of c.and.result) c.openers_of.ensures.ways c.openers_of.ensures.outside
    (λ r. c.and.ensures r ∙ ap (λ b. openers r && b) (sym (reached-same (places_of s.reached_reviewers r) (reviewer_mark s.reviewers.items r).before))) c.next-from.ensures.here c.next-from.ensures.none in
    let behind = places_of c.holders_of.result in
    let more = places_of c.or-self.result in
    λ a b room goes.
    let P : Places → Type 0 = λ near. IsUnderWay g a b room more near u in
    subst P (sym (ap places_of c.mark_proposal.ensures.near_proposals))
    (under_way-proposal g a b room (places_of s.near_reviewers) (places_of s.near_proposals) behind more t u p c.next-from.result goes step below c.requires.new c.requires.near came c.holders_of.ensures.ways
    (λ r. c.or-self.ensures r ∙ ap (λ x. places_of x r || behind r) c.mark_proposal.ensures.near_reviewers))
