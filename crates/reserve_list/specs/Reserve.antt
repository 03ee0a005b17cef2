-- Who holds a seat, and with what chance, when some have withdrawn: the mechanism.
use Rattle.std.specs.Prelude.{ℕ, ◌-◌, Bool, not, ◌==◌, ◌&&◌, nat_le, nat_lt}
use Rattle.house_base.specs.Setting.{size, cluster_at}
use Rattle.peer_selection.specs.Counting.{count_below}
use Rattle.peer_selection.specs.Lottery.{seats}
use Rattle.peer_selection.specs.Profile.{Profile, denominator, rank}

-- A test of who has withdrawn, by places or by register numbers.
abbrev pub Withdrawn : Type 0
Withdrawn = ℕ → Bool

-- of clusters and ranks: whether one is in the cluster of another and of smaller rank
abbrev pub is_ahead : (ℕ → ℕ) → (ℕ → ℕ) → ℕ → ℕ → Bool
is_ahead cluster rank k i = cluster k == cluster i && nat_lt (rank k) (rank i)

-- how many of those below n have withdrawn and are ahead of one
unfoldable pub gone_ahead : (ℕ → ℕ) → (ℕ → ℕ) → Withdrawn → ℕ → ℕ → ℕ
gone_ahead cluster rank gone n i = count_below (λ k. gone k && is_ahead cluster rank k i) n

-- the rank of an applicant less those ahead of it that have withdrawn
unfoldable pub reserve_rank : Profile → Withdrawn → ℕ → ℕ
reserve_rank f gone p = rank f p - gone_ahead (cluster_at f.setting) (rank f) gone (size f.setting) p

-- whether an applicant holds a seat of a draw: it has not withdrawn, and this rank is within its cluster's seats
unfoldable pub holds_after : Profile → Withdrawn → ℕ → ℕ → Bool
holds_after f gone p v = not (gone p) && nat_le (reserve_rank f gone p) (seats f (cluster_at f.setting p) v)

-- its chance, over the denominator: at how many of all draws it holds one
unfoldable pub chance_after : Profile → Withdrawn → ℕ → ℕ
chance_after f gone p = count_below (holds_after f gone p) (denominator f.setting)

-- the seats that nobody holds
unfoldable pub empty_after : Profile → Withdrawn → ℕ → ℕ
empty_after f gone v = f.setting.seats - count_below (λ p. holds_after f gone p v) (size f.setting)
