-- No rule, but how the code tells a part: an option of the words that it is lent.
use denote.Ref.{Bor}
use Rattle.std.specs.Prelude.{List, [], ℕ, Option, Some, None}

-- The words of a part; one that is not there has none.
abbrev pub words_of : Option (Bor (List ℕ)) → List ℕ
words_of (Some part) = part.now
words_of None = []
