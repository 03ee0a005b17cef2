-- The distances round the places.
use Rattle.std.proofs.Common.{◌≡◌, ℕ, ◌+◌, ◌-◌, ◌≤◌, ◌<◌, inl, inr, ◌∙◌, arith}
use Rattle.std.proofs.lemmas.Bool.{cases_lt}
use Rattle.std.proofs.lemmas.Nat.{mod_below}
use Rattle.std.proofs.Math.Nat.{mod-eq_of_lt, mod-eq-sub-mod}
use Rattle.house_base.specs.Setting.{distance}

pub distance-lt : (n reviewer proposal : ℕ) → 0 < n → distance n reviewer proposal < n
unfolding distance
distance-lt n reviewer proposal some = mod_below (proposal + n - (reviewer + 1)) n some

-- a proposal behind the reviewer is reached without going round
pub distance-after : (n reviewer proposal : ℕ) → reviewer < proposal → proposal < n → distance n reviewer proposal ≡ proposal - (reviewer + 1)
unfolding distance
distance-after n reviewer proposal after below =
    let once : n ≤ proposal + n - (reviewer + 1) = omega arith in
    let twice : proposal + n - (reviewer + 1) - n < n = omega arith in
    mod-eq-sub-mod once ∙ (mod-eq_of_lt twice ∙ omega arith)

-- any other is reached round the end
pub distance-round : (n reviewer proposal : ℕ) → proposal ≤ reviewer → reviewer < n → distance n reviewer proposal ≡ proposal + n - (reviewer + 1)
unfolding distance
distance-round n reviewer proposal before below =
    let within : proposal + n - (reviewer + 1) < n = omega arith in
    mod-eq_of_lt within

pub distance-injective : (n reviewer p q : ℕ) → reviewer < n → p < n → q < n → distance n reviewer p ≡ distance n reviewer q → p ≡ q
distance-injective n reviewer p q reviewer_below p_below q_below same =
    elim (cases_lt reviewer p) [
      | inl p_after ↦ elim (cases_lt reviewer q) [
        | inl q_after ↦ omega (arith, distance-after n reviewer p p_after p_below, distance-after n reviewer q q_after q_below)
        | inr q_before ↦ omega (arith, distance-after n reviewer p p_after p_below, distance-round n reviewer q q_before reviewer_below)
      ]
      | inr p_before ↦ elim (cases_lt reviewer q) [
        | inl q_after ↦ omega (arith, distance-round n reviewer p p_before reviewer_below, distance-after n reviewer q q_after q_below)
        | inr q_before ↦ omega (arith, distance-round n reviewer p p_before reviewer_below, distance-round n reviewer q q_before reviewer_below)
      ]
    ]
