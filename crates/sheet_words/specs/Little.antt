-- "Sheets (added)": "Little-endian u64 words".
use Rattle.std.specs.Prelude.{List, [], ◌∷◌, ℕ, zero, suc, ◌+◌, ◌*◌, ◌/◌, length, take, drop}

-- "Little-endian": the lowest byte first.
unfoldable pub little : List ℕ → ℕ
little [] = 0
little (b ∷ bs) = b + 256 * little bs

-- "u64 words": so many words, of eight bytes each.
unfoldable pub words_of : ℕ → List ℕ → List ℕ
words_of zero bs = []
words_of (suc n) bs = little (take 8 bs) ∷ words_of n (drop 8 bs)

abbrev pub whole_words : List ℕ → List ℕ
whole_words bs = words_of (length bs / 8) bs
