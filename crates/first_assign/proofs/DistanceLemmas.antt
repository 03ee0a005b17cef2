use Rattle.std.proofs.Common.{◌≡◌, ℕ, ◌+◌, ◌-◌, ◌<◌, ◌≤◌, Bool, false, ap, ◌∙◌, inl, inr, arith}
use Rattle.std.specs.Prelude.{Option, Some, None, IfNone}
use Rattle.std.proofs.lemmas.Bool.{cases_lt}
use Rattle.peer_selection.proofs.RowLemmas.{round_cases}
use Rattle.first_assign.specs.Settling.{proposal_at}

-- The proposals behind a reviewer, and those from the first place on.

pub at-behind : (n r d : ℕ) → r < n → d < n - (r + 1) → proposal_at n r d ≡ r + 1 + d
at-behind n r d rl dl = elim (round_cases n (r + 1) d (omega arith) (omega arith)) [ inl x ↦ x.0 | inr x ↦ absurd (omega (arith, x.1, dl)) ]

pub at-first : (n r d : ℕ) → r < n → n - (r + 1) ≤ d → d < n → proposal_at n r d ≡ d - (n - (r + 1))
at-first n r d rl from dl = elim (round_cases n (r + 1) d (omega arith) dl) [ inl x ↦ absurd (omega (arith, x.1, from)) | inr x ↦ omega (arith, x.0, x.1) ]

-- a row has nothing at some distances, where it has nothing at the places there
pub none-round : (n r from to : ℕ) (row : ℕ → Bool) → r < n → to ≤ n → ((q : ℕ) → r + 1 + from ≤ q → q < n → row q ≡ false)
    → ((q : ℕ) → from - (n - (r + 1)) ≤ q → q + (n - (r + 1)) < to → row q ≡ false) → (e : ℕ) → from ≤ e → e < to → row (proposal_at n r e) ≡ false
none-round n r from to row rl inside behind first e above below =
    elim (cases_lt e (n - (r + 1))) [
      | inl early ↦ ap row (at-behind n r e rl early) ∙ behind (r + 1 + e) (omega arith) (omega (arith, early))
      | inr late ↦ ap row (at-first n r e rl late (omega arith)) ∙ first (e - (n - (r + 1))) (omega arith) (omega (arith, late))
    ]

pub if_none : {A : Type 0} (P : Type 0) (o : Option A) → P → IfNone o P
if_none P (Some x) h = tt
if_none P None h = h
