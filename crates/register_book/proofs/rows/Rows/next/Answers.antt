use Rattle.std.proofs.Common.{◌≡◌, ℕ, ◌<◌, ◌≤◌, true, false, List, inl, inr, sym, ap, ◌∙◌, arith}
use Rattle.std.proofs.lemmas.Bool.{cases_lt}
use Rattle.house_base.specs.Rows.{has}
use Rattle.house_base.proofs.RowLemmas.{IfSome-map, IfSome-both, IfNone-map}
use Rattle.register_book.specs.Rows.{holds}
use Rattle.register_book.specs.declared.rows.TheConstants.{ROW_BITS}
use Rattle.register_book.proofs.BitLemmas.{holds-behind, holds-has}
use Rattle.register_book.proofs.rows.Rows.next.Goals as goal

as_held : (words held : List ℕ) (row column : ℕ) → words ≡ held → column < ROW_BITS → holds held row column ≡ has words row column
as_held words held row column e below = sym (ap (λ l. holds l row column) e) ∙ sym (holds-has words row column below)

pub returns-clause-set : goal.returns-clause-set
returns-clause-set c =
    let words = c.deref.result.now in
    let row = c.args.row in
    let e = c.deref.ensures.value ∙ c.self.view_is in
    IfSome-map (λ q. (q < ROW_BITS) × (has words row q ≡ true)) (λ q. holds c.args.self.now row q ≡ true) c.next_bit.result
    (λ q found. as_held words c.args.self.now row q e found.0 ∙ found.1)
    (IfSome-both (λ q. q < ROW_BITS) (λ q. has words row q ≡ true) c.next_bit.result c.next_bit.ensures.below c.next_bit.ensures.set)

pub returns-clause-before : goal.returns-clause-before
returns-clause-before c =
    let words = c.deref.result.now in
    let row = c.args.row in
    let e = c.deref.ensures.value ∙ c.self.view_is in
    IfSome-map (λ to. (to < ROW_BITS) × ((q : ℕ) → c.args.from ≤ q → q < to → has words row q ≡ false))
    (λ to. (q : ℕ) → c.args.from ≤ q → q < to → holds c.args.self.now row q ≡ false) c.next_bit.result
    (λ to found q from below. as_held words c.args.self.now row q e (omega (arith, below, found.0)) ∙ found.1 q from below)
    (IfSome-both (λ to. to < ROW_BITS) (λ to. (q : ℕ) → c.args.from ≤ q → q < to → has words row q ≡ false) c.next_bit.result c.next_bit.ensures.below c.next_bit.ensures.before)

pub returns-clause-none : goal.returns-clause-none
returns-clause-none c =
    let words = c.deref.result.now in
    let row = c.args.row in
    let e = c.deref.ensures.value ∙ c.self.view_is in
    IfNone-map ((q : ℕ) → c.args.from ≤ q → q < ROW_BITS → has words row q ≡ false)
    ((q : ℕ) → c.args.from ≤ q → holds c.args.self.now row q ≡ false) c.next_bit.result
    (λ none q from. elim (cases_lt q ROW_BITS) [
      | inl below ↦ as_held words c.args.self.now row q e below ∙ none q from below
      | inr behind ↦ holds-behind c.args.self.now row q behind
    ])
    c.next_bit.ensures.none
