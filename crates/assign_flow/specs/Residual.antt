use Rattle.std.specs.Prelude.{◌≡◌, ◌≢◌, ℕ, ◌+◌, ◌<◌, ◌≤◌, true, false, nat_lt, ◌==◌, if◌then◌else◌}
use Rattle.std.specs.Prelude.{Option, None, Some, List, slice_index}
use Rattle.std.specs.Option.{option_map_or}
use Rattle.house_base.specs.Grid.{Square, cell}
use Rattle.peer_selection.specs.Counting.{count_below}
use Rattle.peer_selection.specs.Profile.{Pairs}
use Rattle.peer_selection.specs.Shortage.{Places, IsWithin}
use Rattle.assign_flow.specs.declared.walk.End.{End}
use Rattle.assign_flow.specs.declared.walk.End.TheVariants.{AtReviewer, AtProposal}

-- The residual graph of the pairs that are held. Some pairs are free to change: from a reviewer one may go to a
-- proposal by a free pair that is not held, and from a proposal to a reviewer by a free pair that is held.
pub record Residual : Type 0 where
  pub side : ℕ
  pub free : Pairs
  pub held : Pairs

abbrev pub residual : Square → Square → Residual
residual free held = record { side = free.side; free = cell free; held = cell held }

-- the reviewers to whom pairs are wanting
abbrev pub wanting : List ℕ → Places
wanting unmet r = nat_lt 0 (slice_index unmet r)

-- no place
abbrev pub nowhere : Places
nowhere i = false

-- one place
abbrev pub only : ℕ → Places
only place i = i == place

-- no way leads out of these reviewers and proposals
pub record IsClosed (g : Residual) (a b : Places) : Type 0 where
  pub forward : (r p : ℕ) → r < g.side → p < g.side → a r ≡ true → g.free r p ≡ true → g.held r p ≡ false → b p ≡ true
  pub back : (r p : ℕ) → r < g.side → p < g.side → b p ≡ true → g.free r p ≡ true → g.held r p ≡ true → a r ≡ true

-- What a search has reached: how many reviewers; for each reviewer how many had been reached with it, 0 where it
-- is not reached, and from which proposal, none for a source; which proposals, and from which reviewer.
pub record Tree : Type 0 where
  pub count : ℕ
  pub order : ℕ → ℕ
  pub reviewer_from : ℕ → Option ℕ
  pub reached : Places
  pub proposal_from : ℕ → Option ℕ

-- the reviewers that are reached
abbrev pub reviewers_of : Tree → Places
reviewers_of t r = nat_lt 0 (t.order r)

-- the order of the reviewer from which a proposal was reached, 0 for a source
unfoldable pub height : Tree → ℕ → ℕ
height t p = option_map_or t.order (t.proposal_from p) 0

-- Each reviewer and proposal was reached along a way of the graph, from one that was reached earlier.
pub record IsTree (g : Residual) (t : Tree) : Type 0 where
  pub counted : t.count ≡ count_below (reviewers_of t) g.side
  pub latest : (r : ℕ) → r < g.side → t.order r ≤ t.count
  pub reviewer_below : (r p : ℕ) → r < g.side → 0 < t.order r → t.reviewer_from r ≡ Some p → p < g.side
  pub reviewer_after : (r p : ℕ) → r < g.side → 0 < t.order r → t.reviewer_from r ≡ Some p → t.reached p ≡ true
  pub reviewer_free : (r p : ℕ) → r < g.side → 0 < t.order r → t.reviewer_from r ≡ Some p → g.free r p ≡ true
  pub reviewer_held : (r p : ℕ) → r < g.side → 0 < t.order r → t.reviewer_from r ≡ Some p → g.held r p ≡ true
  pub reviewer_later : (r p : ℕ) → r < g.side → 0 < t.order r → t.reviewer_from r ≡ Some p → height t p < t.order r
  pub proposal_below : (p r : ℕ) → p < g.side → t.reached p ≡ true → t.proposal_from p ≡ Some r → r < g.side
  pub proposal_after : (p r : ℕ) → p < g.side → t.reached p ≡ true → t.proposal_from p ≡ Some r → 0 < t.order r
  pub proposal_free : (p r : ℕ) → p < g.side → t.reached p ≡ true → t.proposal_from p ≡ Some r → g.free r p ≡ true
  pub proposal_open : (p r : ℕ) → p < g.side → t.reached p ≡ true → t.proposal_from p ≡ Some r → g.held r p ≡ false

-- one reviewer more is reached
pub record ReachesReviewer (old new : Tree) (reviewer : ℕ) (from : Option ℕ) : Type 0 where
  pub count : new.count ≡ old.count + 1
  pub order : new.order reviewer ≡ old.count + 1
  pub here_from : new.reviewer_from reviewer ≡ from
  pub other_order : (r : ℕ) → r ≢ reviewer → new.order r ≡ old.order r
  pub other_from : (r : ℕ) → r ≢ reviewer → new.reviewer_from r ≡ old.reviewer_from r
  pub reached : (p : ℕ) → new.reached p ≡ old.reached p
  pub proposal_from : (p : ℕ) → new.proposal_from p ≡ old.proposal_from p

-- one proposal more is reached
pub record ReachesProposal (old new : Tree) (proposal : ℕ) (from : Option ℕ) : Type 0 where
  pub reached : new.reached proposal ≡ true
  pub here_from : new.proposal_from proposal ≡ from
  pub other_reached : (p : ℕ) → p ≢ proposal → new.reached p ≡ old.reached p
  pub other_from : (p : ℕ) → p ≢ proposal → new.proposal_from p ≡ old.proposal_from p
  pub count : new.count ≡ old.count
  pub order : (r : ℕ) → new.order r ≡ old.order r
  pub reviewer_from : (r : ℕ) → new.reviewer_from r ≡ old.reviewer_from r

-- From each of the first reviewers in the order of reaching, up to a height, a way leads back to a source along
-- pairs that are held and not held in turn.
pub record LeadsBack (n : ℕ) (held : Pairs) (t : Tree) (top : ℕ) : Type 0 where
  pub reviewer_below : (r p : ℕ) → r < n → 0 < t.order r → t.order r ≤ top → t.reviewer_from r ≡ Some p → p < n
  pub reviewer_after : (r p : ℕ) → r < n → 0 < t.order r → t.order r ≤ top → t.reviewer_from r ≡ Some p
      → t.reached p ≡ true
  pub reviewer_held : (r p : ℕ) → r < n → 0 < t.order r → t.order r ≤ top → t.reviewer_from r ≡ Some p → held r p ≡ true
  pub reviewer_later : (r p : ℕ) → r < n → 0 < t.order r → t.order r ≤ top → t.reviewer_from r ≡ Some p
      → height t p < t.order r
  pub proposal_below : (p r : ℕ) → p < n → t.reached p ≡ true → t.proposal_from p ≡ Some r → t.order r ≤ top → r < n
  pub proposal_after : (p r : ℕ) → p < n → t.reached p ≡ true → t.proposal_from p ≡ Some r → t.order r ≤ top
      → 0 < t.order r
  pub proposal_open : (p r : ℕ) → p < n → t.reached p ≡ true → t.proposal_from p ≡ Some r → t.order r ≤ top
      → held r p ≡ false

-- one where two places are the same
abbrev pub at_one : ℕ → ℕ → ℕ
at_one i j = if i == j then 1 else 0

-- the pair that a reviewer gains, where a walk ends at it
abbrev pub reviewer_gain : End → ℕ → ℕ
reviewer_gain (AtReviewer s) r = at_one r s
reviewer_gain (AtProposal s) r = 0

-- the pair that a proposal loses, where a walk ends at it
abbrev pub proposal_loss : End → ℕ → ℕ
proposal_loss (AtReviewer s) p = 0
proposal_loss (AtProposal s) p = at_one p s

-- a walk ends at a source
abbrev pub IsSource : ℕ → Tree → End → Type 0
IsSource n t (AtReviewer s) = (s < n) × (0 < t.order s) × (t.reviewer_from s ≡ None)
IsSource n t (AtProposal s) = (s < n) × (t.reached s ≡ true) × (t.proposal_from s ≡ None)

-- the pairs change along the tree alone
pub record ChangesAlong (n : ℕ) (t : Tree) (old new : Pairs) : Type 0 where
  pub gain_reached : (r p : ℕ) → r < n → p < n → old r p ≡ false → new r p ≡ true → t.reached p ≡ true
  pub gain_from : (r p : ℕ) → r < n → p < n → old r p ≡ false → new r p ≡ true → t.proposal_from p ≡ Some r
  pub loss_reached : (r p : ℕ) → r < n → p < n → old r p ≡ true → new r p ≡ false → 0 < t.order r
  pub loss_from : (r p : ℕ) → r < n → p < n → old r p ≡ true → new r p ≡ false → t.reviewer_from r ≡ Some p

-- A walk back from a proposal has come to a hole: each place stands in as many pairs as before, but the proposal in
-- one more and the hole in one less, and from the hole a way leads on.
pub record HasWalked (n : ℕ) (t : Tree) (old new : Pairs) (proposal hole : ℕ) : Type 0 where
  pub below : hole < n
  pub reached : t.reached hole ≡ true
  pub leads : LeadsBack n new t (height t hole)
  pub along : ChangesAlong n t old new
  pub reviewers : (r : ℕ) → r < n → count_below (new r) n ≡ count_below (old r) n
  pub proposals : (p : ℕ) → p < n
      → count_below (λ r. new r p) n + at_one p hole ≡ count_below (λ r. old r p) n + at_one p proposal

-- The pairs change along a walk back from a proposal: it gains a pair, the source at which the walk ends loses or
-- gains one, and all others stand in as many as before.
pub record WalksBack (n : ℕ) (t : Tree) (old new : Pairs) (proposal : ℕ) (end : End) : Type 0 where
  pub source : IsSource n t end
  pub along : ChangesAlong n t old new
  pub reviewers : (r : ℕ) → r < n → count_below (new r) n ≡ count_below (old r) n + reviewer_gain end r
  pub proposals : (p : ℕ) → p < n
      → count_below (λ r. new r p) n + proposal_loss end p ≡ count_below (λ r. old r p) n + at_one p proposal

-- What a search from some sources has reached so far: along ways of the graph, from no other source, and by no proposal
-- that has room.
pub record IsGrown (g : Residual) (reviewers proposals room : Places) (t : Tree) : Type 0 where
  pub grown : IsTree g t
  pub reviewer_sources : (r : ℕ) → r < g.side → 0 < t.order r → t.reviewer_from r ≡ None → reviewers r ≡ true
  pub proposal_sources : (p : ℕ) → p < g.side → t.reached p ≡ true → t.proposal_from p ≡ None → proposals p ≡ true
  pub by_full : (r p : ℕ) → r < g.side → 0 < t.order r → t.reviewer_from r ≡ Some p → room p ≡ false

-- A search has gone on from its sources as far as it can: what it has reached is closed, and within each closed set
-- that has the sources.
pub record HasReached (g : Residual) (reviewers proposals : Places) (t : Tree) : Type 0 where
  pub closed : IsClosed g (reviewers_of t) t.reached
  pub has_reviewers : IsWithin g.side reviewers (reviewers_of t)
  pub has_proposals : IsWithin g.side proposals t.reached
  pub least_reviewers : (a b : Places) → IsClosed g a b → IsWithin g.side reviewers a → IsWithin g.side proposals b
      → IsWithin g.side (reviewers_of t) a
  pub least_proposals : (a b : Places) → IsClosed g a b → IsWithin g.side reviewers a → IsWithin g.side proposals b
      → IsWithin g.side t.reached b

-- no proposal that is reached has room
abbrev pub IsFull : ℕ → Places → Tree → Type 0
IsFull n room t = (p : ℕ) → p < n → t.reached p ≡ true → room p ≡ false

-- a proposal is reached and has room
abbrev pub HasRoom : ℕ → Places → Tree → ℕ → Type 0
HasRoom n room t p = (p < n) × (t.reached p ≡ true) × (room p ≡ true)

-- What a search from some sources has reached while no proposal with room is: along ways of the graph, from no other
-- source, and within each closed set that has the sources.
pub record IsSought (g : Residual) (reviewers proposals room : Places) (t : Tree) : Type 0 where
  pub grown : IsTree g t
  pub reviewer_sources : (r : ℕ) → r < g.side → 0 < t.order r → t.reviewer_from r ≡ None → reviewers r ≡ true
  pub proposal_sources : (p : ℕ) → p < g.side → t.reached p ≡ true → t.proposal_from p ≡ None → proposals p ≡ true
  pub least_reviewers : (a b : Places) → IsClosed g a b → IsWithin g.side reviewers a → IsWithin g.side proposals b
      → IsWithin g.side (reviewers_of t) a
  pub least_proposals : (a b : Places) → IsClosed g a b → IsWithin g.side reviewers a → IsWithin g.side proposals b
      → IsWithin g.side t.reached b
  pub full : IsFull g.side room t

-- A search is under way. Near are its sources, and what the ways out of what is reached lead to.
pub record IsUnderWay (g : Residual) (reviewers proposals room near_reviewers near_proposals : Places) (t : Tree)
    : Type 0 where
  pub sought : IsSought g reviewers proposals room t
  pub has_reviewers : IsWithin g.side reviewers near_reviewers
  pub has_proposals : IsWithin g.side proposals near_proposals
  pub forward : (r p : ℕ) → r < g.side → p < g.side → 0 < t.order r → g.free r p ≡ true → g.held r p ≡ false
      → near_proposals p ≡ true
  pub back : (r p : ℕ) → r < g.side → p < g.side → t.reached p ≡ true → g.free r p ≡ true → g.held r p ≡ true
      → near_reviewers r ≡ true
  pub other_reviewers : (r : ℕ) → r < g.side → near_reviewers r ≡ true
      → ((p : ℕ) → p < g.side → t.reached p ≡ true → g.free r p ≡ true → g.held r p ≡ true → ⊥) → reviewers r ≡ true
  pub other_proposals : (p : ℕ) → p < g.side → near_proposals p ≡ true
      → ((r : ℕ) → r < g.side → 0 < t.order r → g.free r p ≡ true → g.held r p ≡ false → ⊥) → proposals p ≡ true
  pub near_full : (p : ℕ) → p < g.side → near_proposals p ≡ true → room p ≡ false
