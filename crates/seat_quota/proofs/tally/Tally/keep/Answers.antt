use Rattle.std.proofs.Common.{◌≡◌, ◌≢◌, ℕ, ◌<◌, ◌≤◌, [], length, map, get_or, sym, ap, subst, ◌∙◌, arith}
use Rattle.std.proofs.lemmas.List.{get_or_default}
use Rattle.house_base.specs.Grid.{Square, cell}
use Rattle.house_base.specs.Setting.{size}
use Rattle.peer_selection.specs.Split.{cents_at}
use Rattle.review_desk.specs.Desk.{points_at}
use Rattle.seat_quota.specs.Tally.{DeskTotals, IsGiven, IsTally, row_at}
use Rattle.seat_quota.specs.Totals.{IsRow, row_among}
use Rattle.seat_quota.proofs.TallyLemmas.{length-rows, IsOwnRow, own-row, other_row, given-along, rows-kept, IsSetUp-kept, IsReview, exchange-from, tally-from}
use Rattle.seat_quota.proofs.tally.Tally.keep.Goals as goal

pub index-requires : goal.index-requires
index-requires c =
    let pairs = c.self.inside.desk.pairs in
    let len = length-rows (λ row. row.items) c.self.inside.rows.items (row_at c.self.inside.desk) pairs.side c.self.invariant.places in
    let side = ap (λ (x : DeskTotals). x.desk.pairs.side) c.self.view_is in
    omega (arith, len, side, c.requires.set_up.desk.side, c.requires.reviewer)

pub row_cents-after-requires-clause-row : goal.row_cents-after-requires-clause-row
row_cents-after-requires-clause-row c =
    let s = c.args.plan.now in
    let d = c.self.inside.desk in
    let t = c.self.inside.totals in
    let r = c.args.review.reviewer in
    let xs = c.as_slice-row.result.now in
    let tally : IsTally s (record { desk = d; totals = t }) = subst (IsTally s) (sym c.self.view_is) c.requires.set_up in
    let own : IsOwnRow s d r xs =
    own-row (λ row. row.items) c.self.inside.rows.items c.index.result.now s d r xs tally.desk c.self.invariant.places c.index.ensures c.as_slice-row.ensures.value c.requires.reviewer in
    subst (λ n. IsRow n xs) (sym (ap (λ (g : Square). g.side) c.keep.ensures.pairs ∙ tally.desk.side)) own.is_row

pub index-requires-2 : goal.index-requires-2
index-requires-2 c =
    let side = ap (λ (x : DeskTotals). x.desk.pairs.side) c.self.view_is in
    omega (arith, c.self.invariant.each, side, c.requires.set_up.desk.side, c.requires.reviewer)

pub exchange_row-requires : goal.exchange_row-requires
exchange_row-requires c =
    let s = c.args.plan.now in
    let d = c.self.inside.desk in
    let t = c.self.inside.totals in
    let r = c.args.review.reviewer in
    let p = c.args.review.proposal in
    let xs = c.as_slice-row.result.now in
    let tally : IsTally s (record { desk = d; totals = t }) = subst (IsTally s) (sym c.self.view_is) c.requires.set_up in
    let own : IsOwnRow s d r xs =
    own-row (λ row. row.items) c.self.inside.rows.items c.index.result.now s d r xs tally.desk c.self.invariant.places c.index.ensures c.as_slice-row.ensures.value c.requires.reviewer in
    let new = c.keep.new.self in
    let before = c.index-2.result.now in
    let after = c.row_cents-after.result in
    let had : IsGiven d r before =
    subst (IsGiven d r) (sym (c.index-2.ensures ∙ get_or_default c.self.inside.cents.items r before [] (omega (arith, c.self.invariant.each, tally.desk.side, c.requires.reviewer))))
    (c.self.invariant.given r (omega (arith, tally.desk.side, c.requires.reviewer))) in
    let review : IsReview s d new t r xs before after = record {
      tally = tally;
      kept = IsSetUp-kept s d new r p c.args.review.points tally.desk c.keep.ensures.pairs c.keep.ensures.reviewers c.keep.ensures.proposals c.requires.most c.keep.ensures.points;
      pairs = c.keep.ensures.pairs;
      others = λ i k il kl ne. c.keep.ensures.points i k (omega (arith, tally.desk.side)) (omega (arith, tally.desk.side)) ∙ other_row i k r p c.args.review.points (points_at d i k) ne;
      reviewer = c.requires.reviewer;
      places = own.places;
      had_each = subst (λ ys. length ys ≤ length before) (sym own.among) had.room;
      had = subst (λ ys. (i : ℕ) → i < length ys → get_or before i 0 ≡ cents_at (map (points_at d r) ys) i) (sym own.among) had.value;
      given_each = c.row_cents-after.ensures.room;
      given = c.row_cents-after.ensures.value;
    } in
    exchange-from s d new t r xs before after review

pub returns-clause-set_up : goal.returns-clause-set_up
returns-clause-set_up c =
    let s = c.args.plan.now in
    let d = c.self.inside.desk in
    let t = c.self.inside.totals in
    let r = c.args.review.reviewer in
    let p = c.args.review.proposal in
    let xs = c.as_slice-row.result.now in
    let tally : IsTally s (record { desk = d; totals = t }) = subst (IsTally s) (sym c.self.view_is) c.requires.set_up in
    let own : IsOwnRow s d r xs =
    own-row (λ row. row.items) c.self.inside.rows.items c.index.result.now s d r xs tally.desk c.self.invariant.places c.index.ensures c.as_slice-row.ensures.value c.requires.reviewer in
    let new = c.keep.new.self in
    let before = c.index-2.result.now in
    let after = c.row_cents-after.result in
    let had : IsGiven d r before =
    subst (IsGiven d r) (sym (c.index-2.ensures ∙ get_or_default c.self.inside.cents.items r before [] (omega (arith, c.self.invariant.each, tally.desk.side, c.requires.reviewer))))
    (c.self.invariant.given r (omega (arith, tally.desk.side, c.requires.reviewer))) in
    let review : IsReview s d new t r xs before after = record {
      tally = tally;
      kept = IsSetUp-kept s d new r p c.args.review.points tally.desk c.keep.ensures.pairs c.keep.ensures.reviewers c.keep.ensures.proposals c.requires.most c.keep.ensures.points;
      pairs = c.keep.ensures.pairs;
      others = λ i k il kl ne. c.keep.ensures.points i k (omega (arith, tally.desk.side)) (omega (arith, tally.desk.side)) ∙ other_row i k r p c.args.review.points (points_at d i k) ne;
      reviewer = c.requires.reviewer;
      places = own.places;
      had_each = subst (λ ys. length ys ≤ length before) (sym own.among) had.room;
      had = subst (λ ys. (i : ℕ) → i < length ys → get_or before i 0 ≡ cents_at (map (points_at d r) ys) i) (sym own.among) had.value;
      given_each = c.row_cents-after.ensures.room;
      given = c.row_cents-after.ensures.value;
    } in
    tally-from s d new t r xs before after review c.exchange_row.new.self c.exchange_row.ensures.scores c.exchange_row.ensures.summed c.exchange_row.ensures.den

pub invariant_of-self : goal.invariant_of-self
invariant_of-self c =
    let s = c.args.plan.now in
    let d = c.self.inside.desk in
    let t = c.self.inside.totals in
    let r = c.args.review.reviewer in
    let p = c.args.review.proposal in
    let xs = c.as_slice-row.result.now in
    let tally : IsTally s (record { desk = d; totals = t }) = subst (IsTally s) (sym c.self.view_is) c.requires.set_up in
    let own : IsOwnRow s d r xs =
    own-row (λ row. row.items) c.self.inside.rows.items c.index.result.now s d r xs tally.desk c.self.invariant.places c.index.ensures c.as_slice-row.ensures.value c.requires.reviewer in
    let new = c.keep.new.self in
    let after = c.row_cents-after.result in
    let others : (i k : ℕ) → i < size s → k < size s → i ≢ r → points_at new i k ≡ points_at d i k =
    λ i k il kl ne. c.keep.ensures.points i k (omega (arith, tally.desk.side)) (omega (arith, tally.desk.side)) ∙ other_row i k r p c.args.review.points (points_at d i k) ne in
    let given = given-along new r xs after (own.among ∙ ap (λ (g : Square). row_among g.side (cell g) r) (sym c.keep.ensures.pairs)) c.row_cents-after.ensures.room c.row_cents-after.ensures.value in
    rows-kept s d new (map (λ row. row.items) c.self.inside.rows.items) c.self.inside.cents.items r after tally.desk.side c.keep.ensures.pairs others c.requires.reviewer c.self.invariant given
