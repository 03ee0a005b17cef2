-- The words of the ChaCha8 generator of a seed, by their index from 0.
use Rattle.std.specs.Prelude.{ℕ, ◌++◌, List, replicate}
use Rattle.std.specs.Int.{w64, to_le_bytes}
use Rattle.rand_chacha.specs.ChaCha.{key_of, word_at}

-- the 32 bytes of a seed's key: the seed in 8 bytes, the low ones first, and 24 bytes 0
unfoldable pub key_bytes : ℕ → List ℕ
key_bytes seed = to_le_bytes w64 seed ++ replicate 24 0

-- the word with an index of the stream of a key, after 4 double rounds
unfoldable pub key_words : List ℕ → ℕ → ℕ
key_words key i = word_at 4 key 0 i

-- the word with an index of the stream of a seed
unfoldable pub seed_words : ℕ → ℕ → ℕ
seed_words seed = key_words (key_of (key_bytes seed))
