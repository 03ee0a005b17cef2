-- The shortage of a demand as one pair of sets: what is common to all its least cuts.
use Rattle.std.specs.Prelude.{ℕ, zero, suc, Bool, false, not, ◌==◌, ◌&&◌, ◌||◌, List, [], ◌∷◌, flat_map, map, nat_le}
use Rattle.std.specs.List.{list_all, list_any}
use Rattle.peer_selection.specs.Shortage.{Demand, Places, capacity}

-- all sets of numbers below n
unfoldable pub all_sets : ℕ → List Places
all_sets zero = (λ i. false) ∷ []
all_sets (suc n) = flat_map (λ set. set ∷ (λ i. set i || i == n) ∷ []) (all_sets n)

-- all cuts: a set of reviewers and a set of proposals each
unfoldable pub all_cuts : Demand → List (Places × Places)
all_cuts d = flat_map (λ a. map (λ b. (a, b)) (all_sets d.side)) (all_sets d.side)

-- whether no cut has a smaller capacity
unfoldable pub has_least : Demand → Places × Places → Bool
has_least d cut = list_all (λ other. nat_le (capacity d cut.0 cut.1) (capacity d other.0 other.1)) (all_cuts d)

-- the reviewers of the shortage are those of each least cut
unfoldable pub shortage_reviewers : Demand → Places
shortage_reviewers d r = list_all (λ cut. not (has_least d cut) || cut.0 r) (all_cuts d)

-- and its proposals those of some
unfoldable pub shortage_proposals : Demand → Places
shortage_proposals d p = list_any (λ cut. has_least d cut && cut.1 p) (all_cuts d)
