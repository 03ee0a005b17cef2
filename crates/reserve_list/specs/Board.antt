-- Who holds a seat, and with what chance, when some have withdrawn: the board of an outcome.
use Rattle.std.specs.Prelude.{◌≡◌, ℕ, ◌+◌, ◌-◌, ◌*◌, ◌^◌, ◌<◌, ◌≤◌, ◌⊎◌, ◌==◌, ◌&&◌, ◌||◌, nat_le, nat_lt, not, Bool, true, false, Option, Some, None, List, [], find, length, map, position, replicate, slice_get, slice_index_or, slice_set}
use Rattle.std.specs.Option.{option_map_or}
use Rattle.std.specs.Str.{bytes_eq}
use Rattle.house_base.specs.Text.{Text, among}
use Rattle.peer_selection.specs.Counting.{count_below, numbers_below, sum_below}
use Rattle.peer_selection.specs.Marks.{is_marked}
use Rattle.house_model.specs.Report.{OutcomeParts}
use Rattle.reserve_list.specs.Reserve.{Withdrawn, gone_ahead}
use Rattle.reserve_list.specs.declared.fault.Moved.{Moved}
use Rattle.reserve_list.specs.declared.fault.Moved.TheVariants as moved

-- The rows of an outcome.

-- how many applicants there are
abbrev pub count_of : OutcomeParts → ℕ
count_of o = length o.applicant_rows

-- the name, the cluster and the rank of a register number
unfoldable pub name_on : OutcomeParts → ℕ → Text
name_on o i = option_map_or (λ row. row.name) (slice_get o.applicant_rows i) []

unfoldable pub cluster_on : OutcomeParts → ℕ → ℕ
cluster_on o i = option_map_or (λ row. row.cluster) (slice_get o.applicant_rows i) 0

unfoldable pub rank_on : OutcomeParts → ℕ → ℕ
rank_on o i = option_map_or (λ row. row.rank) (slice_get o.applicant_rows i) 0

-- the seats and the quota of a cluster; clusters count from 1
unfoldable pub seats_on : OutcomeParts → ℕ → ℕ
seats_on o j = option_map_or (λ row. row.seats) (slice_get o.cluster_rows (j - 1)) 0

unfoldable pub quota_on : OutcomeParts → ℕ → ℕ
quota_on o j = option_map_or (λ row. row.quota) (slice_get o.cluster_rows (j - 1)) 0

-- those of the clusters 1 to j together
unfoldable pub seats_up_to : OutcomeParts → ℕ → ℕ
seats_up_to o j = sum_below (λ i. seats_on o (i + 1)) j

unfoldable pub quotas_up_to : OutcomeParts → ℕ → ℕ
quotas_up_to o j = sum_below (λ i. quota_on o (i + 1)) j

-- the register number of a name, if an applicant has it
unfoldable pub number_of : OutcomeParts → Text → Option ℕ
number_of o name = position (λ row. bytes_eq row.name name) o.applicant_rows

-- whether one is in the cluster of another and of greater rank
abbrev pub is_behind : OutcomeParts → ℕ → ℕ → Bool
is_behind o i k = cluster_on o i == cluster_on o k && nat_lt (rank_on o i) (rank_on o k)

-- how many are in the cluster of one
abbrev pub members_with : OutcomeParts → ℕ → ℕ
members_with o i = count_below (λ k. cluster_on o k == cluster_on o i) (count_of o)

-- an outcome whose numbers fit, and in each of whose clusters the ranks are 1 to its size, each once
pub record IsRanked (o : OutcomeParts) : Type 0 where
  pub few : count_of o < 2 ^ 32
  pub names_differ : (i k : ℕ) → i < count_of o → k < count_of o → name_on o i ≡ name_on o k → i ≡ k
  pub den : 1 ≤ o.den
  pub clusters : (i : ℕ) → i < count_of o → (1 ≤ cluster_on o i) × (cluster_on o i ≤ length o.cluster_rows)
  pub seats : seats_up_to o (length o.cluster_rows) < 2 ^ 63
  pub quotas : quotas_up_to o (length o.cluster_rows) ≡ o.seats * o.den
  pub ranks : (i : ℕ) → i < count_of o → (1 ≤ rank_on o i) × (rank_on o i ≤ members_with o i)
  pub ranks_differ : (i k : ℕ) → i < count_of o → k < count_of o → cluster_on o i ≡ cluster_on o k
      → rank_on o i ≡ rank_on o k → i ≡ k

-- A board: the parts of an outcome, and for each register number whether that applicant has withdrawn.
pub record BoardParts : Type 0 where
  pub outcome : OutcomeParts
  pub gone : List Bool

-- a board of a ranked outcome, with as many truth values as applicants
pub record IsBoard (b : BoardParts) : Type 0 where
  pub ranked : IsRanked b.outcome
  pub each : length b.gone ≡ count_of b.outcome

-- the board when nobody has withdrawn
abbrev pub fresh_board : OutcomeParts → BoardParts
fresh_board o = record { outcome = o; gone = replicate (count_of o) false }

-- whether a register number has withdrawn
unfoldable pub is_gone : BoardParts → Withdrawn
is_gone b i = slice_index_or b.gone i false

-- its rank less those ahead of it that have withdrawn
unfoldable pub reserve_rank_on : BoardParts → ℕ → ℕ
reserve_rank_on b i =
    rank_on b.outcome i - gone_ahead (cluster_on b.outcome) (rank_on b.outcome) (is_gone b) (count_of b.outcome) i

-- whether it holds a seat: it has not withdrawn, and this rank is within its cluster's seats
unfoldable pub holds_on : BoardParts → ℕ → Bool
holds_on b i = not (is_gone b i) && nat_le (reserve_rank_on b i) (seats_on b.outcome (cluster_on b.outcome i))

-- the seats of a cluster at another draw: the sampling points in its stretch of the line, on which the quotas lie end
-- to end
unfoldable pub seats_at : OutcomeParts → ℕ → ℕ → ℕ
seats_at o j v = count_below (is_marked (quotas_up_to o (j - 1)) (quota_on o j) o.den v) o.seats

-- whether it would hold a seat then
unfoldable pub holds_at : BoardParts → ℕ → ℕ → Bool
holds_at b i v = not (is_gone b i) && nat_le (reserve_rank_on b i) (seats_at b.outcome (cluster_on b.outcome i) v)

-- its chance, over the denominator: at how many of all draws it would
unfoldable pub chance_on : BoardParts → ℕ → ℕ
chance_on b i = count_below (holds_at b i) b.outcome.den

-- the seats that nobody holds
unfoldable pub empty_on : BoardParts → ℕ
empty_on b = seats_up_to b.outcome (length b.outcome.cluster_rows) - count_below (holds_on b) (count_of b.outcome)

-- One more withdraws.

-- the board when one more has withdrawn
abbrev pub and_gone : BoardParts → ℕ → BoardParts
and_gone b i = record b { gone = slice_set b.gone i true }

-- whether one gets a seat by it: it held none before, and holds one then
abbrev pub gains : BoardParts → ℕ → ℕ → Bool
gains b i k = not (holds_on b k) && holds_on (and_gone b i) k

-- who does
unfoldable pub moves_up : BoardParts → ℕ → Option ℕ
moves_up b i = find (gains b i) (numbers_below (count_of b.outcome))

-- the same, by name
abbrev pub moved_of : BoardParts → ℕ → Moved
moved_of b i = option_map_or (λ k. moved.Up (name_on b.outcome k)) (moves_up b i) moved.Nobody

-- whether one waits for a seat in a cluster: it is a member that has not withdrawn and holds none
abbrev pub waits : BoardParts → ℕ → ℕ → Bool
waits b j k = cluster_on b.outcome k == j && (not (is_gone b k) && not (holds_on b k))

-- who moves up: the one that withdraws held a seat, and of those who wait in its cluster this one has the least rank
pub record GetsTheSeat (b : BoardParts) (i k : ℕ) : Type 0 where
  pub below : k < count_of b.outcome
  pub held : holds_on b i ≡ true
  pub waiting : waits b (cluster_on b.outcome i) k ≡ true
  pub least : (m : ℕ) → m < count_of b.outcome → waits b (cluster_on b.outcome i) m ≡ true
      → rank_on b.outcome k ≤ rank_on b.outcome m
  pub holds : holds_on (and_gone b i) k ≡ true

-- Who moves up when one withdraws, if somebody does: nobody does where it held no seat or nobody waits in its cluster.
abbrev pub MovesUp : BoardParts → ℕ → Option ℕ → Type 0
MovesUp b i (Some k) = GetsTheSeat b i k
MovesUp b i None = (holds_on b i ≡ false)
    ⊎ ((m : ℕ) → m < count_of b.outcome → waits b (cluster_on b.outcome i) m ≡ false)

-- An applicant has withdrawn by its name, which nobody else has: its one truth value is set, and this one moves up.
pub record IsWithdrawal (before : BoardParts) (name : Text) (after : BoardParts) (up : Moved) : Type 0 where
  pub number : ℕ
  pub named : number_of before.outcome name ≡ Some number
  pub alone : (k : ℕ) → k < count_of before.outcome → name_on before.outcome k ≡ name → k ≡ number
  pub stayed : is_gone before number ≡ false
  pub gone : after ≡ and_gone before number
  pub moved : up ≡ moved_of before number
  pub next : MovesUp before number (moves_up before number)

-- The set of those that withdrew decides.

-- whether one is gone when those of these names have withdrawn too
abbrev pub is_gone_after : BoardParts → List Text → Withdrawn
is_gone_after b names i = is_gone b i || among names (name_on b.outcome i)

-- the truth values then
unfoldable pub gone_after : BoardParts → List Text → List Bool
gone_after b names = map (is_gone_after b names) (numbers_below (count_of b.outcome))

-- the board then
abbrev pub board_after : BoardParts → List Text → BoardParts
board_after b names = record b { gone = gone_after b names }
