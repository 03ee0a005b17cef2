use Rattle.std.proofs.Common.{◌≡◌, ℕ, ◌==◌, ◌||◌, not, sym, ap, ◌∙◌, arith, slice_index}
use Rattle.std.proofs.lemmas.Bool.{and_parts}
use Rattle.std.proofs.lemmas.List.{length-replicate, get_or-replicate}
use Rattle.house_base.specs.Grid.{cell}
use Rattle.house_base.specs.Setting.{size, need, may}
use Rattle.house_base.specs.declared.limits.TheConstants.{MOST_APPLICANTS}
use Rattle.peer_selection.specs.Counting.{all_below, count_below}
use Rattle.peer_selection.proofs.CountingLemmas.{all_below-zero, all_below-same, count_below-zero}
use Rattle.first_assign.proofs.StepLemmas.{all_more, is_valid-row_fails, is_valid-rows_hold}
use Rattle.first_assign.proofs.valid.is_valid.Goals as goal

pub loop-reviewer-init : goal.loop-reviewer-init
loop-reviewer-init c = record {
  may_be = all_below-zero _;
  needs = all_below-zero _;
  each = length-replicate {A = ℕ} MOST_APPLICANTS 0;
  received = λ p pl.
      get_or-replicate MOST_APPLICANTS p 0 0 (omega (arith, pl, c.requires, c.side-reviewer-end.ensures.value, c.side-reviewer-end.ensures.most))
      ∙ sym (count_below-zero (λ r. cell c.args.pairs.now r p));
}

pub returns-then-not-row_is_valid : goal.returns-then-not-row_is_valid
returns-then-not-row_is_valid c =
    sym (is_valid-row_fails c.args.plan.now (cell c.args.pairs.now) c.loop-reviewer.reviewer (omega arith) (sym c.row_is_valid.ensures.valid ∙ c.if-not-row_is_valid.true))

pub loop-reviewer-preserved : goal.loop-reviewer-preserved
loop-reviewer-preserved c =
    let s = c.args.plan.now in
    let f = cell c.args.pairs.now in
    let row = c.loop-reviewer.reviewer in
    let holds =
    and_parts (all_below (λ p. not (f row p) || may s row p) (size s)) (count_below (f row) (size s) == need s row) (sym c.row_is_valid.ensures.valid ∙ c.if-not-row_is_valid.false) in
    record {
      may_be = all_more _ row c.loop-reviewer.invariant.may_be holds.0;
      needs = all_more _ row c.loop-reviewer.invariant.needs holds.1;
      each = c.row_is_valid.ensures.each ∙ c.loop-reviewer.invariant.each;
      received = λ p pl. c.row_is_valid.ensures.counted c.if-not-row_is_valid.false p pl;
    }

pub returns : goal.returns
returns c =
    let s = c.args.plan.now in
    let f = cell c.args.pairs.now in
    let n = size s in
    let last : c.loop-reviewer.reviewer ≡ n = omega arith in
    let may_be = ap (all_below (λ r. all_below (λ p. not (f r p) || may s r p) n)) (sym last) ∙ c.loop-reviewer.invariant.may_be in
    let needs = ap (all_below (λ r. count_below (f r) n == need s r)) (sym last) ∙ c.loop-reviewer.invariant.needs in
    let counts = all_below-same (λ p. slice_index c.loop-reviewer.received p == s.reviews) (λ p. count_below (λ r. f r p) n == s.reviews) n
    (λ p pl. ap (λ k. k == s.reviews) (c.loop-reviewer.invariant.received p pl ∙ ap (count_below (λ r. f r p)) last)) in
    c.reviews_are_met.ensures ∙ (counts ∙ sym (is_valid-rows_hold s f may_be needs))
