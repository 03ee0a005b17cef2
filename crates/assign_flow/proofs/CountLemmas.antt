use Rattle.std.proofs.Common.{◌≡◌, ◌≢◌, ℕ, zero, suc, ◌+◌, ◌<◌, Bool, true, false, not, ◌||◌, eqb, refl, sym, ap, ◌∙◌, inl, inr, arith}
use Rattle.std.proofs.lemmas.Bool.{cases_eq, both_ways, eq-eqb, ne_eqb}
use Rattle.peer_selection.specs.Counting.{count_below}
use Rattle.peer_selection.proofs.CountingLemmas.{one_if, below_suc, count_below-suc, count_below-same, count_below-passes, count_below-fails, count_below-more}

-- after a place is marked, fewer places are not
pub marks-fewer : (marks more : ℕ → Bool) (n at : ℕ) → at < n → ((i : ℕ) → more i ≡ (eqb i at || marks i)) → marks at ≡ false
    → count_below (λ i. not (more i)) n < count_below (λ i. not (marks i)) n
marks-fewer marks more n at l e h =
    let here : more at ≡ true = e at ∙ ap (λ b. b || marks at) (eq-eqb at at refl) in
    count_below-more (λ i. not (more i)) (λ i. not (marks i)) n at
    (λ i il o. elim (cases_eq i at) [
      | inl same ↦ absurd (both_ways (not (more i)) (ap (λ k. not (more k)) same ∙ ap not here) o)
      | inr other ↦ ap not (ap (λ b. b || marks i) (sym (ne_eqb i at other)) ∙ sym (e i)) ∙ o
    ])
    l (ap not here) (ap not h)

-- A count where one place more passes.

pub count_below-turned : (f g : ℕ → Bool) (n at : ℕ) → at < n → f at ≡ false → g at ≡ true → ((i : ℕ) → i < n → i ≢ at → g i ≡ f i) → count_below g n ≡ count_below f n + 1
count_below-turned f g zero at l x y h = absurd (omega arith)
count_below-turned f g (suc n) at l x y h =
    elim (below_suc at n l) [
      | inl below ↦ omega (
        arith,
        count_below-suc f n,
        count_below-suc g n,
        ap one_if (h n (omega arith) (λ e. omega arith)),
        count_below-turned f g n at below x y (λ i b ne. h i (omega arith) ne),
      )
      | inr last ↦ omega (
        arith,
        count_below-fails f n (ap f (sym last) ∙ x),
        count_below-passes g n (ap g (sym last) ∙ y),
        count_below-same g f n (λ i b. h i (omega arith) (λ e. omega arith)),
      )
    ]
