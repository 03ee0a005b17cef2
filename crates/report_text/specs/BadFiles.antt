-- The words of the lines that say why a file is refused.
use Rattle.std.specs.Prelude.{ℕ, List, [], ◌∷◌, codes, decimal}
use Rattle.house_base.specs.Text.{Text}

-- a call file is no TOML document
abbrev pub bad_toml_words : List Text
bad_toml_words = codes "bad" ∷ codes "toml" ∷ []

-- what stands under a key of a call file, or is missing there, is not as it has to be
abbrev pub bad_key_words : Text → List Text
bad_key_words key = codes "bad" ∷ codes "key" ∷ key ∷ []

-- the record of a register with this number is not of its form
abbrev pub bad_record_words : ℕ → List Text
bad_record_words number = codes "bad" ∷ codes "record" ∷ decimal number ∷ []
