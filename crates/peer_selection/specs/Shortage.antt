use Rattle.std.specs.Prelude.{◌≡◌, ℕ, ◌+◌, ◌<◌, ◌≤◌, Bool, not, ◌==◌, ◌&&◌, ◌||◌, if◌then◌else◌, IsTrue}
use Rattle.house_base.specs.Setting.{Setting, size, need, may}
use Rattle.peer_selection.specs.Counting.{count_below, sum_below, all_below}
use Rattle.peer_selection.specs.Profile.{Pairs}

-- What is asked of a set of pairs of reviewers and proposals: how many places there are on each side, in how
-- many pairs each reviewer is needed, for how many each proposal has room, and which pairs may be.
pub record Demand : Type 0 where
  pub side : ℕ
  pub need : ℕ → ℕ
  pub room : ℕ → ℕ
  pub may : Pairs

-- The pairs meet the needs and rooms: each of them may be, each reviewer stands in as many as it is needed in,
-- and each proposal in as many as it has room for.
unfoldable pub is_met : Demand → Pairs → Bool
is_met d pairs =
    all_below (λ r. all_below (λ p. not (pairs r p) || d.may r p) d.side) d.side
    && all_below (λ r. count_below (pairs r) d.side == d.need r) d.side
    && all_below (λ p. count_below (λ r. pairs r p) d.side == d.room p) d.side

-- what a valid assignment of a setting meets
abbrev pub assignment_demand : Setting → Demand
assignment_demand s = record { side = size s; need = need s; room = λ p. s.reviews; may = may s }

-- A cut is a set of reviewers and a set of proposals.
abbrev pub Places : Type 0
Places = ℕ → Bool

-- the pairs that reviewers of a set are needed in
unfoldable pub needed_in : Demand → Places → ℕ
needed_in d a = sum_below (λ r. if a r then d.need r else 0) d.side

-- the pairs that proposals outside a set have room for
unfoldable pub room_outside : Demand → Places → ℕ
room_outside d b = sum_below (λ p. if b p then 0 else d.room p) d.side

-- how many pairs of a reviewer of one set and a proposal of the other may be
unfoldable pub allowed : Demand → Places → Places → ℕ
allowed d a b = sum_below (λ r. if a r then count_below (λ p. b p && d.may r p) d.side else 0) d.side

-- The gap of a cut is what its reviewers need, less the room outside its proposals, less its allowed pairs.
-- It is short where its gap is above 0: its reviewers cannot all be served.
abbrev pub IsShort : Demand → Places → Places → Type 0
IsShort d a b = room_outside d b + allowed d a b < needed_in d a

-- The capacity of a cut is all that is needed, less its gap: what is needed outside its reviewers, the room
-- outside its proposals, and its allowed pairs. So a cut of the greatest gap is one of the least capacity.
unfoldable pub capacity : Demand → Places → Places → ℕ
capacity d a b = sum_below (λ r. if a r then 0 else d.need r) d.side + room_outside d b + allowed d a b

-- each place of one set, below n, is in the other
abbrev pub IsWithin : ℕ → Places → Places → Type 0
IsWithin n a b = (i : ℕ) → i < n → IsTrue (a i) → IsTrue (b i)

-- The shortage that is printed: a short cut of the greatest gap, whose reviewers are among those of each cut of
-- that gap, and whose proposals have those of each. (It is the source side of the least cuts that is smallest.)
pub record IsShortage (d : Demand) (a b : Places) : Type 0 where
  pub short : IsShort d a b
  pub greatest : (c e : Places) → capacity d a b ≤ capacity d c e
  pub least : (c e : Places) → capacity d c e ≡ capacity d a b → IsWithin d.side a c
  pub largest : (c e : Places) → capacity d c e ≡ capacity d a b → IsWithin d.side e b
