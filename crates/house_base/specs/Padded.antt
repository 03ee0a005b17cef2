use Rattle.std.specs.Prelude.{◌≡◌, ℕ, ◌-◌, ◌≤◌, Bool, IsTrue, List, ◌++◌, length, take, replicate}

-- an array of so many bytes of which the first `len` spell a word of a form and the rest are 0
pub record IsPadded (most : ℕ) (is_formed : List ℕ → Bool) (bytes : List ℕ) (len : ℕ) : Type 0 where
  pub short : len ≤ most
  pub full : length bytes ≡ most
  pub padded : bytes ≡ take len bytes ++ replicate (most - len) 0
  pub form : IsTrue (is_formed (take len bytes))
