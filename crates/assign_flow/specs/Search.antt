use Rattle.std.specs.Prelude.{ℕ, ◌+◌, None, List, slice_index_or, if◌then◌else◌}
use Rattle.assign_flow.specs.declared.search.ReviewerMark.{ReviewerMark}
use Rattle.assign_flow.specs.declared.search.ProposalMark.{ProposalMark}
use Rattle.assign_flow.specs.declared.search.Search.{Search}
use Rattle.assign_flow.specs.Places.{places_of}
use Rattle.peer_selection.specs.Shortage.{Places}
use Rattle.assign_flow.specs.Residual.{Residual, Tree, IsUnderWay}

abbrev pub reviewer_mark : List ReviewerMark → ℕ → ReviewerMark
reviewer_mark marks r = slice_index_or marks r (record { before = 0; from = None })

abbrev pub proposal_mark : List ProposalMark → ℕ → ProposalMark
proposal_mark marks p = slice_index_or marks p (record { from = None })

-- what a search has reached: its marks say how, of what is in its sets
abbrev pub tree_of : Search → Tree
tree_of s = record {
  count = s.count;
  order = λ r. if places_of s.reached_reviewers r then (reviewer_mark s.reviewers.items r).before + 1 else 0;
  reviewer_from = λ r. (reviewer_mark s.reviewers.items r).from;
  reached = places_of s.reached_proposals;
  proposal_from = λ p. (proposal_mark s.proposals.items p).from;
}

-- a search from these sources is under way
abbrev pub GoesFrom : Residual → Places → Places → Places → Search → Type 0
GoesFrom g reviewers proposals room s =
    IsUnderWay g reviewers proposals room (places_of s.near_reviewers) (places_of s.near_proposals) (tree_of s)
