use Rattle.std.specs.Prelude.{ℕ, ◌-◌, List, [], ◌∷◌, ◌++◌, map, filter, flat_map, decimal, codes}
use Rattle.house_base.specs.declared.plan.Owner.{Owner}
use Rattle.house_base.specs.Setting.{Setting, size, name_at}
use Rattle.peer_selection.specs.Counting.{numbers_below}
use Rattle.peer_selection.specs.Profile.{Pairs, proposals_of}
use Rattle.peer_selection.specs.Shortage.{Places, allowed, needed_in, room_outside, assignment_demand}
use Rattle.house_model.specs.Report.{line_of}

-- The texts of the answers that are not reports.

-- the words on a shortage: the pairs that it allows, and the pairs that its persons need within its applicants
unfoldable pub short_words : Setting → Places → Places → List (List ℕ)
short_words s a b = codes "short" ∷ codes "allowed" ∷ decimal (allowed (assignment_demand s) a b)
    ∷ codes "needed" ∷ decimal (needed_in (assignment_demand s) a - room_outside (assignment_demand s) b) ∷ []

-- the names of the persons whose first places are in a set, in place order
unfoldable pub reviewers_in : Setting → Places → List (List ℕ)
reviewers_in s a = map (λ owner. owner.name) (filter (λ owner. a owner.first) s.owners)

-- the names of the applicants whose places are in a set, in place order
unfoldable pub proposals_in : Setting → Places → List (List ℕ)
proposals_in s b = map (name_at s) (filter b (numbers_below (size s)))

-- the text of a shortage
unfoldable pub short_text : Setting → Places → Places → List ℕ
short_text s a b = line_of (short_words s a b) ++ line_of (codes "reviewers" ∷ reviewers_in s a)
    ++ line_of (codes "proposals" ∷ proposals_in s b)

-- the lines of a person's pairs, by rising distance
unfoldable pub pair_lines : Setting → Pairs → Owner → List ℕ
pair_lines s pairs owner =
    flat_map (λ p. line_of (codes "pair" ∷ owner.name ∷ name_at s p ∷ [])) (proposals_of s pairs owner.first)

-- the text of an assignment: its pairs, person by person in place order
unfoldable pub pairs_text : Setting → Pairs → List ℕ
pairs_text s pairs = flat_map (pair_lines s pairs) s.owners
