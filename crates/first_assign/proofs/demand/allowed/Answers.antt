use Rattle.std.proofs.Common.{◌≡◌, ◌<◌, true, false, is_some, inl, inr, sym, ap, ◌∙◌, arith}
use Rattle.std.proofs.lemmas.Bool.{cases_eq}
use Rattle.house_base.specs.Grid.{cell}
use Rattle.house_base.specs.Setting.{size, may, owner_from}
use Rattle.first_assign.proofs.MemberLemmas.{may-first, may-other}
use Rattle.first_assign.proofs.demand.allowed.Goals as goal
use Rattle.first_assign.proofs.demand.allowed.Goals.{then-is_first, else-is_first}

pub loop-reviewer-preserved : goal.loop-reviewer-preserved
loop-reviewer-preserved c =
    let s = c.args.plan.now in
    let here = c.loop-reviewer.reviewer in
    let inside : here < size s = omega (arith, c.loop-reviewer-test.true, c.count-reviewer-end.ensures.value) in
    elim c.if-is_first.branch [
      | then-is_first w ↦
          let row = w.allow_row.ensures.row in
          let others = w.allow_row.ensures.others in
          let first : is_some (owner_from s here) ≡ true = sym c.is_first.ensures ∙ w.if-is_first.true in
          record {
            side = ap (λ g. g.side) w.pairs-is ∙ w.allow_row.ensures.side;
            rows = λ r p rl pl. ap (λ g. cell g r p) w.pairs-is ∙ (elim (cases_eq r here) [
              | inl same ↦ ap (λ k. cell w.allow_row.new.pairs k p) same ∙ (row p pl ∙ (sym (may-first s here p first) ∙ ap (λ k. may s k p) (sym same)))
              | inr other ↦ others r p (omega (arith, rl, inside)) other pl ∙ c.loop-reviewer.invariant.rows r p (omega (arith, rl, other)) pl
            ]);
            later = λ r p from rl pl. ap (λ g. cell g r p) w.pairs-is
                ∙ (others r p rl (λ e. omega (arith, e, from)) pl ∙ c.loop-reviewer.invariant.later r p (omega (arith, from)) rl pl);
          }
      | else-is_first w ↦
          let none : is_some (owner_from s here) ≡ false = sym c.is_first.ensures ∙ w.if-is_first.false in
          record {
            side = ap (λ g. g.side) w.pairs-is ∙ c.loop-reviewer.invariant.side;
            rows = λ r p rl pl. ap (λ g. cell g r p) w.pairs-is ∙ (elim (cases_eq r here) [
              | inl same ↦
                  c.loop-reviewer.invariant.later r p (omega (arith, same)) (omega (arith, same, inside)) pl
                  ∙ (sym (may-other s here p none) ∙ ap (λ k. may s k p) (sym same))
              | inr other ↦ c.loop-reviewer.invariant.rows r p (omega (arith, rl, other)) pl
            ]);
            later = λ r p from rl pl. ap (λ g. cell g r p) w.pairs-is ∙ c.loop-reviewer.invariant.later r p (omega (arith, from)) rl pl;
          }
    ]
