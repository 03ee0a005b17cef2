use Rattle.std.proofs.Common.{◌≡◌, ℕ, ◌+◌, ◌<◌, ◌≤◌, Bool, true, false, List, length, get_or, set, sym, ap, ◌∙◌, inl, inr, arith}
use Rattle.std.proofs.lemmas.Bool.{cases_eq, cases_lt}
use Rattle.std.proofs.lemmas.List.{get_or-set_same, get_or-set_other}
use Rattle.peer_selection.specs.Counting.{count_below}
use Rattle.first_assign.proofs.StepLemmas.{count_passes, count_fails}

-- Counts of columns, row by row.

-- counts of the columns of a square: those before a column go as far as a row, the others stop before it
pub record AreCounts (f : ℕ → ℕ → Bool) (row column n : ℕ) (counts : List ℕ) : Type 0 where
  pub done : (p : ℕ) → p < column → get_or counts p 0 ≡ count_below (λ r. f r p) (row + 1)
  pub rest : (p : ℕ) → column ≤ p → p < n → get_or counts p 0 ≡ count_below (λ r. f r p) row

pub counts_begin : (f : ℕ → ℕ → Bool) (row n : ℕ) (counts : List ℕ)
    → ((p : ℕ) → p < n → get_or counts p 0 ≡ count_below (λ r. f r p) row) → AreCounts f row 0 n counts
counts_begin f row n counts before = record {
  done = λ p pl. absurd (let wrong : ⊥ = omega (arith, pl) in wrong);
  rest = λ p from pl. before p pl;
}

pub counts_more : (f : ℕ → ℕ → Bool) (row column n v : ℕ) (counts : List ℕ) → f row column ≡ true → column < length counts → v ≡ get_or counts column 0 → column < n
    → AreCounts f row column n counts → AreCounts f row (column + 1) n (set counts column (v + 1))
counts_more f row column n v counts here below read inside before = record {
  done = λ p pl. elim (cases_eq p column) [
    | inl same ↦
        ap (λ q. get_or (set counts column (v + 1)) q 0) same
        ∙ (get_or-set_same counts column (v + 1) 0 below
        ∙ (ap (λ k. k + 1) (read ∙ before.rest column (omega arith) inside)
        ∙ (sym (count_passes (λ r. f r column) row here) ∙ ap (λ q. count_below (λ r. f r q) (row + 1)) (sym same))))
    | inr other ↦ get_or-set_other counts column p (v + 1) 0 other ∙ before.done p (omega (arith, pl, other))
  ];
  rest = λ p from pl. get_or-set_other counts column p (v + 1) 0 (λ e. omega (arith, e, from)) ∙ before.rest p (omega (arith, from)) pl;
}

-- over columns in which a row has nothing
pub counts_run : (f : ℕ → ℕ → Bool) (row column to n : ℕ) (counts : List ℕ) → column ≤ to → to ≤ n → ((q : ℕ) → column ≤ q → q < to → f row q ≡ false)
    → AreCounts f row column n counts → AreCounts f row to n counts
counts_run f row column to n counts on inside run before = record {
  done = λ p pl. elim (cases_lt p column) [
    | inl early ↦ before.done p early
    | inr late ↦ before.rest p late (omega (arith, pl, inside)) ∙ sym (count_fails (λ r. f r p) row (run p late pl))
  ];
  rest = λ p from pl. before.rest p (omega (arith, from, on)) pl;
}
