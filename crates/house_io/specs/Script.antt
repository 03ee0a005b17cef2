-- Calls that go by a script.
use Rattle.std.specs.Prelude.{ℕ, List, Contains}
use Rattle.house_io.specs.Faults.{next_count}

-- how many bytes a call passes at most, the numbers of the calls that fail, how many calls there were, and how many
-- faults
pub record Script : Type 0 where
  pub piece : ℕ
  pub fails : List ℕ
  pub calls : ℕ
  pub faults : ℕ

-- no call yet
abbrev pub script_of : ℕ → List ℕ → Script
script_of piece fails = record { piece = piece; fails = fails; calls = 0; faults = 0 }

-- the script lets the next call fail
abbrev pub FailsNext : Script → Type 0
FailsNext script = Contains script.fails (next_count script.calls)

-- one more call
abbrev pub script_after : Script → Script
script_after script = record script { calls = next_count script.calls }

-- one more call, and one more fault
abbrev pub script_after_fault : Script → Script
script_after_fault script = record script { calls = next_count script.calls; faults = next_count script.faults }

-- an object whose calls go by a script
pub record Scripted (T : Type 0) : Type 0 where
  pub object : T
  pub script : Script
