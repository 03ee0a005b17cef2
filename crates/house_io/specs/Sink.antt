-- What one call gives to a sink.
use Rattle.std.specs.Prelude.{◌≡◌, ℕ, List, ◌++◌, Option, Some, IfSome, IsSomeAnd}

-- where it is told afterwards what was given, it was told before, and is that with these bytes at its end
abbrev pub AppendsWhereTold : Option (List ℕ) → Option (List ℕ) → List ℕ → Type 0
AppendsWhereTold before after bytes = IfSome after (λ now. IsSomeAnd before (λ past. now ≡ past ++ bytes))

-- where it is told afterwards what was given, it was told before, and is the same
abbrev pub SameWhereTold : Option (List ℕ) → Option (List ℕ) → Type 0
SameWhereTold before after = IfSome after (λ now. before ≡ Some now)
