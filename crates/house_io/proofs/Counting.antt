-- A count of faults over several calls.
use Rattle.std.proofs.Common.{ℕ, ◌≤◌, arith}
use Rattle.house_io.specs.Faults.{Rose}

-- what rose in a later call rose since before
pub Rose-from_earlier : (first before now : ℕ) → first ≤ before → Rose before now → Rose first now
Rose-from_earlier first before now no_more rose = grind arith

-- what rose in an earlier call has risen afterwards
pub Rose-until_later : (before now last : ℕ) → before ≤ now → Rose before now → now ≤ last → Rose before last
Rose-until_later before now last no_less rose no_more = grind arith
