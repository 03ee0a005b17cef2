-- What a sink in memory has collected.
use Rattle.std.specs.Prelude.{ℕ, Bool, true, ◌&&◌, nat_le, List, [], ◌++◌, length, take, Option, Some, None, if◌then◌else◌}

-- the first bytes that were given, as many as the room holds, and whether they are all that was given
pub record Collected : Type 0 where
  pub bytes : List ℕ
  pub room : ℕ
  pub is_complete : Bool

-- nothing was given yet
abbrev pub nothing_collected : ℕ → Collected
nothing_collected room = record { bytes = []; room = room; is_complete = true }

-- after one more piece was given
abbrev pub collected_with : Collected → List ℕ → Collected
collected_with sink piece =
    record {
      bytes = take sink.room (sink.bytes ++ piece);
      room = sink.room;
      is_complete = sink.is_complete && nat_le (length (sink.bytes ++ piece)) sink.room;
    }

-- what was given, where all of it is there
abbrev pub told_bytes : Collected → Option (List ℕ)
told_bytes sink = if sink.is_complete then Some sink.bytes else None
