-- The keys of a table.
use Rattle.std.proofs.Common.{◌≡◌, Bool, false, not, ◌||◌, List, [], ◌∷◌, String, Global, string_bytes, refl, ap}
use Rattle.std.specs.Map.{keys_of as keys_of_entries}
use Rattle.toml.specs.declared.value.Value.{Value}
use Rattle.toml.specs.View.{members_view}
use Rattle.call_file.specs.Keys.{has_strange_key, is_named}

-- one of these words has no meaning
abbrev pub any_strange : List (String Global) → Bool
any_strange [] = false
any_strange (word ∷ words) = not (is_named (string_bytes word)) || any_strange words

-- a key without a meaning stands among the members that a map stands for where it stands among its keys
pub strange_in_view : (entries : List (String Global × Value)) → has_strange_key (members_view entries) ≡ any_strange (keys_of_entries entries)
unfolding has_strange_key
strange_in_view [] = refl
strange_in_view (e ∷ es) = ap (λ b. not (is_named (string_bytes e.0)) || b) (strange_in_view es)
