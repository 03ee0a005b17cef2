use Rattle.std.proofs.Common.{◌≡◌, ℕ, ◌+◌, ◌-◌, ◌<◌, true, false, List, length, get_or, set, refl, sym, ap, ◌∙◌, inl, inr, arith}
use Rattle.std.proofs.lemmas.Bool.{cases_eq, both_ways}
use Rattle.std.proofs.lemmas.List.{get_or_default, get_or-set_same, get_or-set_other}
use Rattle.peer_selection.specs.Counting.{sum_below}
use Rattle.peer_selection.specs.Profile.{Pairs}
use Rattle.peer_selection.specs.Shortage.{Demand}
use Rattle.peer_selection.proofs.CountingLemmas.{count_below-none, sum_below-same, sum_below-plus, sum_below-only}
use Rattle.assign_flow.specs.Draft.{IsDraft}
use Rattle.assign_flow.specs.Residual.{at_one}
use Rattle.assign_flow.proofs.WalkLemmas.{Sets, at_one-same, at_one-other, row-gains, column-gains}

-- Drafts, and one pair more.

-- what is read at a place, with whatever stands past the end
pub read_number : (xs : List ℕ) (i v : ℕ) → i < length xs → v ≡ get_or xs i v → v ≡ get_or xs i 0
read_number xs i v l e = e ∙ get_or_default xs i v 0 l

-- one less at a place
pub lowered : (xs : List ℕ) (i v : ℕ) → i < length xs → v ≡ get_or xs i 0 → 0 < v → (j : ℕ) → get_or (set xs i (v - 1)) j 0 + at_one j i ≡ get_or xs j 0
lowered xs i v l e some j = elim (cases_eq j i) [
  | inl same ↦ omega (arith, at_one-same j i same, ap (λ k. get_or (set xs i (v - 1)) k 0) same, get_or-set_same xs i (v - 1) 0 l, ap (λ k. get_or xs k 0) same, e)
  | inr other ↦ omega (arith, at_one-other j i other, get_or-set_other xs i j (v - 1) 0 other)
]

-- the sum is one less
pub sum-lowered : (f g : ℕ → ℕ) (n i : ℕ) → i < n → ((j : ℕ) → g j + at_one j i ≡ f j) → sum_below g n < sum_below f n
sum-lowered f g n i l h =
    omega (
      arith,
      sum_below-same (λ j. g j + at_one j i) f n (λ j k. h j),
      sum_below-plus g (λ j. at_one j i) n,
      sum_below-only (λ j. at_one j i) n i l (λ j k ne. at_one-other j i ne),
      at_one-same i i refl,
    )

pub draft-none : (d : Demand) (x : Pairs) (unmet spare : ℕ → ℕ) → ((r p : ℕ) → x r p ≡ false) → ((r : ℕ) → r < d.side → unmet r ≡ d.need r) → ((p : ℕ) → p < d.side → spare p ≡ d.room p) → IsDraft d x unmet spare
draft-none d x unmet spare none needs rooms = record {
  permitted = λ r p l k o. absurd (both_ways (x r p) (none r p) o);
  needs = λ r l. omega (arith, count_below-none (x r) d.side (λ p k. none r p), needs r l);
  rooms = λ p l. omega (arith, count_below-none (λ r. x r p) d.side (λ r k. none r p), rooms p l);
}

pub draft-takes : (d : Demand) (x y : Pairs) (unmet spare less_unmet less_spare : ℕ → ℕ) (row column : ℕ) → IsDraft d x unmet spare → Sets d.side x y row column true
    → row < d.side → column < d.side → x row column ≡ false → d.may row column ≡ true
    → ((r : ℕ) → less_unmet r + at_one r row ≡ unmet r) → ((p : ℕ) → less_spare p + at_one p column ≡ spare p) → IsDraft d y less_unmet less_spare
draft-takes d x y unmet spare less_unmet less_spare row column h set rl cl new may needs rooms = record {
  permitted = λ r p l k o. elim (cases_eq r row) [
    | inl same_row ↦ elim (cases_eq p column) [
      | inl same_column ↦ ap (λ i. d.may i p) same_row ∙ (ap (d.may row) same_column ∙ may)
      | inr other ↦ h.permitted r p l k (sym (set.other r p l k (λ e f. other f)) ∙ o)
    ]
    | inr other ↦ h.permitted r p l k (sym (set.other r p l k (λ e f. other e)) ∙ o)
  ];
  needs = λ r l. omega (arith, row-gains d.side x y row column r set cl new l, needs r, h.needs r l);
  rooms = λ p l. omega (arith, column-gains d.side x y row column p set rl new l, rooms p, h.rooms p l);
}
