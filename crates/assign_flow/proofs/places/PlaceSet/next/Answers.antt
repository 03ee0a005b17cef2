use Rattle.std.proofs.Common.{ℕ, ◌≡◌, ◌<◌, ◌≤◌, false, inl, inr, arith}
use Rattle.std.proofs.lemmas.Bool.{cases_lt}
use Rattle.house_base.specs.Rows.{has}
use Rattle.house_base.specs.declared.rows.TheConstants.{ROW_BITS}
use Rattle.house_base.proofs.RowLemmas.{IfNone-map}
use Rattle.assign_flow.proofs.PlaceLemmas.{has-past}
use Rattle.assign_flow.proofs.places.PlaceSet.next.Goals as goal

pub returns-clause-none : goal.returns-clause-none
returns-clause-none c =
    let words = c.args.self.now.words in
    IfNone-map ((q : ℕ) → c.args.from ≤ q → q < ROW_BITS → has words 0 q ≡ false) ((q : ℕ) → c.args.from ≤ q → has words 0 q ≡ false) c.next_bit.result
    (λ none q from. elim (cases_lt q ROW_BITS) [
      | inl below ↦ none q from below
      | inr past ↦ has-past words q (omega arith) past
    ])
    c.next_bit.ensures.none
