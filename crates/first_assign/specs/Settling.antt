use Rattle.std.specs.Prelude.{◌≡◌, ℕ, ◌+◌, ◌%◌, ◌<◌, ◌≤◌, ◌↔◌, ◌==◌, ◌&&◌, Bool, true, false, Some, None, IsTrue, if◌then◌else◌}
use Rattle.house_base.specs.Grid.{Square, cell}
use Rattle.house_base.specs.Setting.{Setting, size, may}
use Rattle.peer_selection.specs.Counting.{count_below}
use Rattle.peer_selection.specs.Profile.{Pairs, is_valid}
use Rattle.peer_selection.specs.Shortage.{is_met}
use Rattle.assign_flow.specs.Flow.{FlowParts, Agrees, CanHold, flow_demand, settled}

-- the second square is the first one, with a value at one place
abbrev pub IsSet : {X : Type 0} → ℕ → ℕ → ℕ → X → (ℕ → ℕ → X) → (ℕ → ℕ → X) → Type 0
IsSet n r p value old new = (i q : ℕ) → i < n → q < n → new i q ≡ (if i == r && q == p then value else old i q)

-- a flow has settled one pair more: it is kept exactly where some pairs that agree with what was settled have it
pub record SettlesOne (old new : FlowParts) (r p : ℕ) (kept : Bool) : Type 0 where
  pub needs : new.needs ≡ old.needs
  pub rooms : new.rooms ≡ old.rooms
  pub may : new.may ≡ old.may
  pub settles : IsSet old.may.side r p (Some kept) (settled old) (settled new)
  pub held : IsTrue kept ↔ CanHold old r p

-- The order in which pairs are settled: reviewer by reviewer, and each one's proposals by rising distance.

-- the proposal at a distance behind a reviewer, round n places
abbrev pub proposal_at : ℕ → ℕ → ℕ → ℕ
proposal_at n r d = (r + 1 + d) % n

-- a fact of all pairs before a reviewer's at a distance
pub record HoldsBefore (n r d : ℕ) (P : ℕ → ℕ → Type 0) : Type 0 where
  pub rows : (i p : ℕ) → i < r → i < n → p < n → P i p
  pub row : (e : ℕ) → e < d → e < n → P r (proposal_at n r e)

-- a fact of a reviewer's pair at a distance and all pairs behind it
pub record HoldsFrom (n r d : ℕ) (P : ℕ → ℕ → Type 0) : Type 0 where
  pub row : r < n → (e : ℕ) → d ≤ e → e < n → P r (proposal_at n r e)
  pub rows : (i p : ℕ) → r < i → i < n → p < n → P i p

-- two assignments are the same before a reviewer's pair at a distance
abbrev pub AgreeBefore : ℕ → ℕ → ℕ → Pairs → Pairs → Type 0
AgreeBefore n r d a b = HoldsBefore n r d (λ i p. a i p ≡ b i p)

-- how many of a reviewer's pairs are kept, up to a distance
abbrev pub kept_within : ℕ → Pairs → ℕ → ℕ → ℕ
kept_within n kept r d = count_below (λ e. kept r (proposal_at n r e)) d

-- where a reviewer has a pair of an assignment that is the same before it, the pair is kept
abbrev pub KeepsNearest : ℕ → Pairs → Pairs → ℕ → ℕ → Type 0
KeepsNearest n kept other i e = AgreeBefore n i e kept other → other i (proposal_at n i e) ≡ true
    → kept i (proposal_at n i e) ≡ true

-- So it is for each valid assignment and all pairs before a reviewer's at a distance.
pub record IsNearest (s : Setting) (kept : Pairs) (r d : ℕ) : Type 0 where
  pub rows : (other : Pairs) → IsTrue (is_valid s other) → (i e : ℕ) → i < r → i < size s → e < size s
      → KeepsNearest (size s) kept other i e
  pub row : (other : Pairs) → IsTrue (is_valid s other) → (e : ℕ) → e < d → e < size s
      → KeepsNearest (size s) kept other r e

-- a valid assignment that agrees with what a flow has settled
pub record CanFollow (s : Setting) (f : FlowParts) : Type 0 where
  pub pairs : Pairs
  pub valid : IsTrue (is_valid s pairs)
  pub agrees : Agrees f pairs

-- a square has the pairs that may be
pub record HasAllowed (s : Setting) (square : Square) : Type 0 where
  pub side : square.side ≡ size s
  pub pairs : (r p : ℕ) → r < size s → p < size s → cell square r p ≡ may s r p

-- a flow is one of the pairs that may be and the assignments that are valid
pub record IsFlowFor (s : Setting) (f : FlowParts) : Type 0 where
  pub side : f.may.side ≡ size s
  pub allowed : (r p : ℕ) → r < size s → p < size s → cell f.may r p ≡ may s r p
  pub meets : (pairs : Pairs) → is_met (flow_demand f) pairs ≡ is_valid s pairs

-- and nothing is settled
pub record IsFlowOf (s : Setting) (f : FlowParts) : Type 0 where
  pub flow : IsFlowFor s f
  pub unsettled : (r p : ℕ) → r < size s → p < size s → settled f r p ≡ None

-- The pairs before a reviewer's at a distance are settled, in a flow and with the pairs that are kept: the valid
-- assignments that agree with the flow are those that agree with the pairs kept, there is one, and none that differs
-- has a pair at the first difference.
pub record IsSettledTo (s : Setting) (f : FlowParts) (kept : Pairs) (r d : ℕ) : Type 0 where
  pub flow : IsFlowFor s f
  pub some : CanFollow s f
  pub unsettled : HoldsFrom (size s) r d (λ i p. settled f i p ≡ None)
  pub none_kept : HoldsFrom (size s) r d (λ i p. kept i p ≡ false)
  pub agreed : (other : Pairs) → IsTrue (is_valid s other) → Agrees f other → AgreeBefore (size s) r d kept other
  pub agrees : (other : Pairs) → AgreeBefore (size s) r d kept other → Agrees f other
  pub nearest : IsNearest s kept r d
