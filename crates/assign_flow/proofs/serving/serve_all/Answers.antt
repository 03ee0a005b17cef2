use Rattle.std.proofs.Common.{◌≡◌, sym, ap, ◌∙◌, subst, slice_index, arith}
use Rattle.std.proofs.lemmas.Bool.{false_from_ne_true, both_ways}
use Rattle.house_base.specs.Grid.{Square, cell}
use Rattle.peer_selection.specs.Counting.{sum_below}
use Rattle.cut_gap.specs.Cut.{marked, demand_of}
use Rattle.assign_flow.specs.Draft.{IsDraft}
use Rattle.assign_flow.specs.Places.{places_of}
use Rattle.assign_flow.specs.Residual.{HasReached, reviewers_of, wanting, nowhere}
use Rattle.assign_flow.specs.Search.{tree_of, reviewer_mark}
use Rattle.assign_flow.proofs.DemandLemmas.{is_met-each, is_met-from}
use Rattle.assign_flow.proofs.ShortageLemmas.{unreached, shortage-reached, shortage-same, short-none, met-draft, some_wanting, sum-places, unwanted}
use Rattle.assign_flow.proofs.TreeLemmas.{reached-same}
use Rattle.assign_flow.proofs.serving.serve_all.Goals as goal

pub returns-then-is_complete-clause-pairs_meet_all : goal.returns-then-is_complete-clause-pairs_meet_all
returns-then-is_complete-clause-pairs_meet_all c =
    let needs = c.args.need.now in
    let rooms = c.args.room.now in
    let d = demand_of needs rooms c.args.may.now in
    let m = c.augment.new.self in
    let free : m.ways.free ≡ c.args.may.now = c.augment.ensures.free ∙ c.loop.invariant.free in
    let P : Square → Type 0 = λ s. IsDraft (record { side = s.side; need = slice_index needs; room = slice_index rooms; may = cell s }) (cell m.ways.held) (slice_index m.unmet.items) (slice_index m.rooms.spare.items) in
    let h = subst P free (c.augment.ensures.fits (slice_index needs) (slice_index rooms) c.loop.invariant.fits) in
    let equal : sum_below d.need d.side ≡ sum_below d.room d.side =
    omega (arith, sum-places needs, sum-places rooms, ap (sum_below (slice_index needs)) c.requires.needs, ap (sum_below (slice_index rooms)) c.requires.rooms) in
    let complete = c.is_complete.ensures.0 c.if-is_complete.true in
    rw c.into_ways.ensures (is_met-from d (cell m.ways.held) (met-draft d (cell m.ways.held) (slice_index m.unmet.items) (slice_index m.rooms.spare.items) h equal
    (λ r l. complete r (omega (arith, ap (λ s. s.side) free)))))

pub returns-clause-cut_is_shortage : goal.returns-clause-cut_is_shortage
returns-clause-cut_is_shortage c =
    let needs = c.args.need.now in
    let rooms = c.args.room.now in
    let d = demand_of needs rooms c.args.may.now in
    let m = c.augment.new.self in
    let s = c.augment.new.search in
    let t = tree_of s in
    let free : m.ways.free ≡ c.args.may.now = c.augment.ensures.free ∙ c.loop.invariant.free in
    let P : Square → Type 0 = λ s. IsDraft (record { side = s.side; need = slice_index needs; room = slice_index rooms; may = cell s }) (cell m.ways.held) (slice_index m.unmet.items) (slice_index m.rooms.spare.items) in
    let Q : Square → Type 0 = λ s. HasReached (record { side = s.side; free = cell s; held = cell m.ways.held }) (wanting m.unmet.items) nowhere t in
    let h = subst P free (c.augment.ensures.fits (slice_index needs) (slice_index rooms) c.loop.invariant.fits) in
    let reached = subst Q free (c.augment.ensures.reached c.loop-test.false) in
    let some = some_wanting (slice_index m.unmet.items) d.side (λ none.
    both_ways c.is_complete.result c.if-is_complete.false (c.is_complete.ensures.1 (λ r l. none r (omega (arith, ap (λ s. s.side) free))))) in
    let shortage = shortage-reached d (cell m.ways.held) (slice_index m.unmet.items) (slice_index m.rooms.spare.items) t some.0 h reached
    (λ p l o. unwanted (slice_index m.rooms.spare.items p) (c.augment.ensures.full c.loop-test.false p (omega (arith, ap (λ s. s.side) free)) o)) some.1 some.2 in
    shortage-same d (reviewers_of t) (unreached t) (marked c.in_ok-cut.cut.reviewers) (marked c.in_ok-cut.cut.proposals)
    (λ r l. reached-same (places_of s.reached_reviewers r) (reviewer_mark s.reviewers.items r).before ∙ sym (c.in_ok-cut.ensures.reviewers r (omega (arith, c.augment.ensures.search, c.loop.invariant.marks))))
    (λ p l. sym (c.in_ok-cut.ensures.proposals p (omega (arith, c.augment.ensures.search, c.loop.invariant.marks)))) shortage

pub returns-clause-short_where_none_do : goal.returns-clause-short_where_none_do
returns-clause-short_where_none_do c =
    let needs = c.args.need.now in
    let rooms = c.args.room.now in
    let d = demand_of needs rooms c.args.may.now in
    let cut = c.in_ok-cut.cut in
    λ y. false_from_ne_true _ (λ e. short-none d (marked cut.reviewers) (marked cut.proposals) y (returns-clause-cut_is_shortage c).short (is_met-each d y e))
