use Rattle.std.proofs.Common.{◌≡◌, ℕ, ◌<◌, [], length, map, get_or, sym, ap, subst, ◌∙◌, arith}
use Rattle.std.proofs.lemmas.List.{get_or-replicate, length-replicate}
use Rattle.house_base.specs.Grid.{Square}
use Rattle.house_base.specs.Setting.{size}
use Rattle.peer_selection.specs.Counting.{sum_below}
use Rattle.peer_selection.specs.Profile.{cents, score}
use Rattle.peer_selection.specs.Split.{cents_at}
use Rattle.peer_selection.proofs.CountingLemmas.{sum_below-zero, sum_below-add_one}
use Rattle.review_desk.specs.Desk.{desk_profile, points_at}
use Rattle.seat_quota.specs.Tally.{IsGiven, row_at}
use Rattle.seat_quota.specs.Totals.{IsRow}
use Rattle.seat_quota.proofs.GivenLemmas.{written_back}
use Rattle.seat_quota.proofs.TallyLemmas.{length-rows, IsOwnRow, own-row}
use Rattle.seat_quota.proofs.TotalLemmas.{cents-sum_most, cents-given}
use Rattle.seat_quota.proofs.totals.scores.Goals as goal

pub loop-reviewer-init : goal.loop-reviewer-init
loop-reviewer-init c =
    let f = desk_profile c.args.plan.now c.args.desk.now in
    let n = c.count.result in
    record {
      len = ap length c.in_ok-scores.ensures ∙ (length-replicate n 0 ∙ c.count.ensures.value);
      value = λ p l. ap (λ xs. get_or xs p 0) c.in_ok-scores.ensures ∙ (get_or-replicate n p 0 0 (omega (arith, c.count.ensures.value)) ∙ sym (sum_below-zero (λ r. cents f r p)));
    }

pub bounds-rows-at : goal.bounds-rows-at
bounds-rows-at c =
    let d = c.args.desk.now in
    let many = length-rows (λ row. row.items) c.args.rows.now (row_at d) d.pairs.side c.requires.rows.places in
    omega (arith, many, c.loop-reviewer-test.true, c.side-reviewer-end.ensures.value ∙ ap (λ (g : Square). g.side) c.grid.ensures)

pub give-requires-clause-row : goal.give-requires-clause-row
give-requires-clause-row c =
    let s = c.args.plan.now in
    let d = c.args.desk.now in
    let r = c.loop-reviewer.reviewer in
    let xs = c.deref.result.now in
    let side : c.side-reviewer-end.result ≡ size s = c.side-reviewer-end.ensures.value ∙ (ap (λ (g : Square). g.side) c.grid.ensures ∙ c.requires.desk.side) in
    let below : r < size s = omega (arith, side, c.loop-reviewer-test.true) in
    let own : IsOwnRow s d r xs =
    own-row (λ row. row.items) c.args.rows.now c.index-rows-at.result s d r xs c.requires.desk c.requires.rows.places c.index-rows-at.is c.deref.ensures.value below in
    subst (λ n. IsRow n xs) (sym (ap length c.deref_mut.ensures.value ∙ c.loop-reviewer.invariant.len)) own.is_row

pub give-requires-clause-cents : goal.give-requires-clause-cents
give-requires-clause-cents c =
    let s = c.args.plan.now in
    let d = c.args.desk.now in
    let r = c.loop-reviewer.reviewer in
    let xs = c.deref.result.now in
    let side : c.side-reviewer-end.result ≡ size s = c.side-reviewer-end.ensures.value ∙ (ap (λ (g : Square). g.side) c.grid.ensures ∙ c.requires.desk.side) in
    let below : r < size s = omega (arith, side, c.loop-reviewer-test.true) in
    let own : IsOwnRow s d r xs =
    own-row (λ row. row.items) c.args.rows.now c.index-rows-at.result s d r xs c.requires.desk c.requires.rows.places c.index-rows-at.is c.deref.ensures.value below in
    let given : IsGiven d r (get_or c.args.cents.now r []) = c.requires.rows.given r (omega (arith, below, c.requires.desk.side)) in
    omega (arith, given.room, ap length own.among)

pub give-requires-clause-most : goal.give-requires-clause-most
give-requires-clause-most c =
    let s = c.args.plan.now in
    let f = desk_profile s c.args.desk.now in
    let r = c.loop-reviewer.reviewer in
    let side : c.side-reviewer-end.result ≡ size s = c.side-reviewer-end.ensures.value ∙ (ap (λ (g : Square). g.side) c.grid.ensures ∙ c.requires.desk.side) in
    λ p l.
    let inside : p < size s = omega (arith, l, ap length c.deref_mut.ensures.value, c.loop-reviewer.invariant.len) in
    omega (
      arith,
      ap (λ xs. get_or xs p 0) c.deref_mut.ensures.value,
      c.loop-reviewer.invariant.value p inside,
      cents-sum_most f p r (omega (arith, side, c.loop-reviewer-test.true)) inside,
      c.requires.desk.setting.few,
    )

pub loop-reviewer-preserved : goal.loop-reviewer-preserved
loop-reviewer-preserved c =
    let s = c.args.plan.now in
    let d = c.args.desk.now in
    let r = c.loop-reviewer.reviewer in
    let xs = c.deref.result.now in
    let side : c.side-reviewer-end.result ≡ size s = c.side-reviewer-end.ensures.value ∙ (ap (λ (g : Square). g.side) c.grid.ensures ∙ c.requires.desk.side) in
    let below : r < size s = omega (arith, side, c.loop-reviewer-test.true) in
    let own : IsOwnRow s d r xs =
    own-row (λ row. row.items) c.args.rows.now c.index-rows-at.result s d r xs c.requires.desk c.requires.rows.places c.index-rows-at.is c.deref.ensures.value below in
    let f = desk_profile s d in
    let cs = get_or c.args.cents.now r [] in
    let given : IsGiven d r cs = c.requires.rows.given r (omega (arith, below, c.requires.desk.side)) in
    let each : (i : ℕ) → i < length xs → get_or cs i 0 ≡ cents_at (map (points_at d r) xs) i =
    subst (λ ys. (i : ℕ) → i < length ys → get_or cs i 0 ≡ cents_at (map (points_at d r) ys) i) (sym own.among) given.value in
    let back = written_back c.give.new.scores c.loop-reviewer.scores.items c.loop-reviewer.scores.len (omega (arith, c.give.auto.scores, c.deref_mut.ensures.len)) (omega (arith, ap length c.deref_mut.ensures.value, c.deref_mut.ensures.len)) in
    rw back (record {
      len = c.give.auto.scores ∙ (ap length c.deref_mut.ensures.value ∙ c.loop-reviewer.invariant.len);
      value = λ p l. omega (
        arith,
        c.give.ensures p (omega (arith, l, ap length c.deref_mut.ensures.value, c.loop-reviewer.invariant.len)),
        cents-given f r p xs cs own.places each,
        ap (λ ys. get_or ys p 0) c.deref_mut.ensures.value,
        c.loop-reviewer.invariant.value p l,
        sum_below-add_one (λ i. cents f i p) r,
      );
    })

pub returns-clause-value : goal.returns-clause-value
unfolding score
returns-clause-value c =
    let s = c.args.plan.now in
    let f = desk_profile s c.args.desk.now in
    let side : c.side-reviewer-end.result ≡ size s = c.side-reviewer-end.ensures.value ∙ (ap (λ (g : Square). g.side) c.grid.ensures ∙ c.requires.desk.side) in
    let whole : c.loop-reviewer.reviewer ≡ size s = omega (arith, side, c.loop-reviewer-test.false, c.loop-reviewer.auto.reviewer-end) in
    λ p l. c.loop-reviewer.invariant.value p l ∙ ap (sum_below (λ r. cents f r p)) whole
