use Rattle.std.specs.Prelude.{◌≡◌, ℕ, ◌<◌, ◌≤◌, true, false, not, ◌&&◌}
use Rattle.peer_selection.specs.Counting.{count_below}
use Rattle.peer_selection.specs.Profile.{Pairs}
use Rattle.peer_selection.specs.Shortage.{Places}
use Rattle.assign_flow.specs.Residual.{Residual, IsClosed}

-- the pairs that are in the second set and not in the first
abbrev pub gained : Pairs → Pairs → Pairs
gained old new r p = new r p && not (old r p)

-- Each reviewer and each proposal gains at most one pair and loses at most one.
pub record ChangesFew (n : ℕ) (old new : Pairs) : Type 0 where
  pub reviewers_gain : (r : ℕ) → r < n → count_below (gained old new r) n ≤ 1
  pub reviewers_lose : (r : ℕ) → r < n → count_below (gained new old r) n ≤ 1
  pub proposals_gain : (p : ℕ) → p < n → count_below (λ r. gained old new r p) n ≤ 1
  pub proposals_lose : (p : ℕ) → p < n → count_below (λ r. gained new old r p) n ≤ 1

-- The pairs are rerouted to hold one pair more: among the free pairs alone, with as many for each reviewer and each
-- proposal as before.
pub record IsRerouted (n : ℕ) (free old new : Pairs) (reviewer proposal : ℕ) : Type 0 where
  pub holds : new reviewer proposal ≡ true
  pub reviewers : (r : ℕ) → r < n → count_below (new r) n ≡ count_below (old r) n
  pub proposals : (p : ℕ) → p < n → count_below (λ r. new r p) n ≡ count_below (λ r. old r p) n
  pub others : (r p : ℕ) → r < n → p < n → free r p ≡ false → new r p ≡ old r p
  pub few : ChangesFew n old new

-- no way leads from a proposal to a reviewer: some closed set has the one and not the other
pub record IsBlocked (g : Residual) (reviewer proposal : ℕ) : Type 0 where
  pub reviewers : Places
  pub proposals : Places
  pub closed : IsClosed g reviewers proposals
  pub inside : proposals proposal ≡ true
  pub outside : reviewers reviewer ≡ false
