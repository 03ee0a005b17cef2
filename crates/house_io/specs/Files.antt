-- Files by their names, and what one call does to them.
use Rattle.std.specs.Prelude.{◌≡◌, ◌≢◌, ℕ, ◌<◌, Bool, true, false, List, length, Option, Some, None, IsSomeAnd, Result, Ok, Err}
use Rattle.std.specs.Option.{option_map}
use Rattle.std.specs.Ordering.{nat_cmp}
use Rattle.std.specs.Cmp.Lexicographic.{slice_cmp}
use Rattle.std.specs.FinMap.{FinMap, get, insert}
use Rattle.house_io.specs.declared.files.LoadFault.{LoadFault}
use Rattle.house_io.specs.declared.files.LoadFault.TheVariants.{Failed, Long, Memory}

-- from the bytes of each name to the content of the file
abbrev pub Contents : Type 0
Contents = FinMap (slice_cmp nat_cmp) (List ℕ)

-- the file holds more bytes than that
abbrev pub IsLonger : Contents → List ℕ → ℕ → Type 0
IsLonger files name most = IsSomeAnd (get files name) (λ bytes. most < length bytes)

-- the file under one name holds these bytes, and all other files are as before, where they are told
abbrev pub told_with : Option Contents → List ℕ → List ℕ → Option Contents
told_with told name bytes = option_map (λ files. insert files name bytes) told

-- every file but the named one is as before, where they are told
abbrev pub KeepsOthers : Option Contents → Option Contents → List ℕ → Type 0
KeepsOthers (Some before) (Some after) name = (other : List ℕ) → other ≢ name → get after other ≡ get before other
KeepsOthers (Some before) None name = Unit {0}
KeepsOthers None after name = Unit {0}

-- every name that was ready is ready
abbrev pub StaysReady : (List ℕ → Type 0) → (List ℕ → Type 0) → Type 0
StaysReady before after = (name : List ℕ) → before name → after name

-- whether a load answers that it found no memory
abbrev pub lacks_memory : {T : Type 0} → Result T LoadFault → Bool
lacks_memory (Ok bytes) = false
lacks_memory (Err Failed) = false
lacks_memory (Err Long) = false
lacks_memory (Err Memory) = true
