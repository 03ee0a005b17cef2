use Rattle.std.proofs.Common.{◌≡◌, ℕ, ◌<◌, ◌≤◌, true, false, inl, inr, sym, ap, ◌∙◌, arith}
use Rattle.std.proofs.lemmas.Bool.{cases_lt, false≢true}
use Rattle.house_base.specs.Grid.{cell}
use Rattle.house_base.specs.Rows.{has}
use Rattle.house_base.specs.declared.rows.TheConstants.{ROW_BITS}
use Rattle.house_base.proofs.Cells.{cell-words}
use Rattle.house_base.proofs.RowLemmas.{IfSome-map, IfSome-both, IfNone-map}
use Rattle.house_base.proofs.grid.Grid.next_in_row.Goals as goal

pub returns-clause-below : goal.returns-clause-below
returns-clause-below c =
    let side = ap (λ s. s.side) c.self.view_is in
    let row = c.args.row in
    IfSome-map (λ q. (q < ROW_BITS) × (has c.deref.result.now row q ≡ true)) (λ q. q < c.args.self.now.side) c.next_bit.result
    (λ q found. elim (cases_lt q c.args.self.now.side) [
      | inl below ↦ below
      | inr behind ↦ absurd (false≢true (sym (c.self.invariant.2 row q (omega (arith, side)) (omega (arith, side, behind)) found.0)
          ∙ (sym (ap (λ words. has words row q) c.deref.ensures.value) ∙ found.1)))
    ])
    (IfSome-both (λ q. q < ROW_BITS) (λ q. has c.deref.result.now row q ≡ true) c.next_bit.result c.next_bit.ensures.below c.next_bit.ensures.set)

pub returns-clause-true_there : goal.returns-clause-true_there
returns-clause-true_there c =
    let side = ap (λ s. s.side) c.self.view_is in
    let row = c.args.row in
    IfSome-map (λ q. (q < c.args.self.now.side) × (has c.deref.result.now row q ≡ true)) (λ q. cell c.args.self.now row q ≡ true) c.next_bit.result
    (λ q found. sym (ap (λ s. cell s row q) c.self.view_is)
    ∙ (cell-words c.self.inside.side c.self.inside.words.items row q (omega (arith, side)) (omega (arith, side, found.0))
    ∙ (sym (ap (λ words. has words row q) c.deref.ensures.value) ∙ found.1)))
    (IfSome-both (λ q. q < c.args.self.now.side) (λ q. has c.deref.result.now row q ≡ true) c.next_bit.result (returns-clause-below c) c.next_bit.ensures.set)

pub returns-clause-before : goal.returns-clause-before
returns-clause-before c =
    let side = ap (λ s. s.side) c.self.view_is in
    let row = c.args.row in
    IfSome-map (λ to. (to < c.args.self.now.side) × ((q : ℕ) → c.args.from ≤ q → q < to → has c.deref.result.now row q ≡ false))
    (λ to. (q : ℕ) → c.args.from ≤ q → q < to → cell c.args.self.now row q ≡ false) c.next_bit.result
    (λ to found q from below. sym (ap (λ s. cell s row q) c.self.view_is)
    ∙ (cell-words c.self.inside.side c.self.inside.words.items row q (omega (arith, side)) (omega (arith, side, found.0, below))
    ∙ (sym (ap (λ words. has words row q) c.deref.ensures.value) ∙ found.1 q from below)))
    (IfSome-both (λ to. to < c.args.self.now.side) (λ to. (q : ℕ) → c.args.from ≤ q → q < to → has c.deref.result.now row q ≡ false) c.next_bit.result
    (returns-clause-below c) c.next_bit.ensures.before)

pub returns-clause-none : goal.returns-clause-none
returns-clause-none c =
    let side = ap (λ s. s.side) c.self.view_is in
    let row = c.args.row in
    IfNone-map ((q : ℕ) → c.args.from ≤ q → q < ROW_BITS → has c.deref.result.now row q ≡ false)
    ((q : ℕ) → c.args.from ≤ q → q < c.args.self.now.side → cell c.args.self.now row q ≡ false) c.next_bit.result
    (λ none q from below. sym (ap (λ s. cell s row q) c.self.view_is)
    ∙ (cell-words c.self.inside.side c.self.inside.words.items row q (omega (arith, side)) (omega (arith, side, below))
    ∙ (sym (ap (λ words. has words row q) c.deref.ensures.value) ∙ none q from (omega (arith, below, side, c.self.invariant.0)))))
    c.next_bit.ensures.none
