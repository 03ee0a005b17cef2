-- A reader or a writer, and a count beside it.
use Rattle.std.specs.Prelude.{ℕ}

-- what is read from or written to, and how many faults there were
pub record Adapted (T : Type 0) : Type 0 where
  pub inner : T
  pub faults : ℕ
