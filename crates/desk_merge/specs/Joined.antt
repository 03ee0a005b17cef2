-- Reviews with revisions, by reviewer and proposal, and their join.
use Rattle.std.specs.Prelude.{◌≡◌, ℕ, List, [], ◌∷◌, Option, Some, None}
use Rattle.std.specs.Coded.{Coded, coded×, coded_ℕ, coded_list}
use Rattle.std.specs.Cmp.Lexicographic.{slice_cmp}
use Rattle.std.specs.declared.cmp.Ordering.{Ordering}
use Rattle.std.specs.declared.cmp.Ordering.TheVariants.{Less, Equal, Greater}
use Rattle.std.specs.FinMap.{FinMap, code, empty, entries, get, insert}
use Rattle.std.specs.Ordering.{nat_cmp, ordering_then}
use Rattle.house_base.specs.Text.{Text}

-- the names of a reviewer and of a proposal
abbrev pub Key : Type 0
Key = Text × Text

-- a revision and points
abbrev pub Review : Type 0
Review = ℕ × ℕ

-- a key with its review
abbrev pub Item : Type 0
Item = Key × Review

-- the order of keys: by the bytes of the reviewer, then of the proposal
abbrev pub key_cmp : Key → Key → Ordering
key_cmp a b = ordering_then (slice_cmp nat_cmp a.0 b.0) (slice_cmp nat_cmp a.1 b.1)

-- the order of reviews: by revision, then by points
abbrev pub review_cmp : Review → Review → Ordering
review_cmp a b = ordering_then (nat_cmp a.0 b.0) (nat_cmp a.1 b.1)

-- the reviews of a desk, or of several that are joined
abbrev pub Joined : Type 0
Joined = FinMap key_cmp Review

abbrev pub joined_code : Coded Joined
joined_code = code (coded× (coded_list coded_ℕ) (coded_list coded_ℕ)) (coded× coded_ℕ coded_ℕ)

-- one of two reviews, by how the first compares with the second
abbrev pub picked : Ordering → Review → Review → Review
picked Less a b = b
picked Equal a b = a
picked Greater a b = a

-- the greater of two reviews
abbrev pub greater : Review → Review → Review
greater a b = picked (review_cmp a b) a b

-- the greater of two reviews that may be there; whichever is there where one is not
abbrev pub better : Option Review → Option Review → Option Review
better None b = b
better (Some a) None = Some a
better (Some a) (Some b) = Some (greater a b)

-- at each key the last map has the better of what the first two have
abbrev pub IsJoin : Joined → Joined → Joined → Type 0
IsJoin a b c = (key : Key) → get c key ≡ better (get a key) (get b key)

-- a review beside one that may be there
abbrev pub better_than : Option Review → Review → Review
better_than None new = new
better_than (Some old) new = greater old new

-- a map with items put in, each where none is better
unfoldable pub with_items : Joined → List Item → Joined
with_items m [] = m
with_items m (e ∷ es) = with_items (insert m e.0 (better_than (get m e.0) e.1)) es

-- the join of two maps
unfoldable pub join : Joined → Joined → Joined
join a b = with_items a (entries b)

-- the join of a list of maps
unfoldable pub join_of : List Joined → Joined
join_of [] = empty
join_of (m ∷ ms) = join m (join_of ms)
