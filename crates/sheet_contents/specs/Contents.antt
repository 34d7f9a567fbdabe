-- "Sheets (added)": what the words of a sheet hold.
use Rattle.std.specs.Prelude.{Bool, true, cond, ◌&&◌, List, [], ◌∷◌, Option, Some, None, ℕ, ◌+◌, ◌*◌, eqb, leb, length, take, drop, get_or}
use Rattle.type_numbers.specs.Limit as limit

-- From 1 to a limit.
abbrev pub up_to : ℕ → ℕ → Bool
up_to most n = leb 1 n && leb n most

-- "a count 1 to 32,": the first word.
abbrev pub count : List ℕ → ℕ
count ws = get_or ws 0 0

-- "then each type's layer count 1 to 16,"
abbrev pub layer_counts : List ℕ → List ℕ
layer_counts ws = take (count ws) (drop 1 ws)

unfoldable pub good_counts : List ℕ → Bool
good_counts [] = true
good_counts (c ∷ cs) = up_to limit.layers c && good_counts cs

unfoldable pub total : List ℕ → ℕ
total [] = 0
total (c ∷ cs) = c + total cs

-- The layers of all types together, where every count is good.
abbrev pub layers_of : List ℕ → Option ℕ
layers_of cs = cond (good_counts cs) (Some (total cs)) None

-- "then the bodies. Any other length or count: 16."
unfoldable pub is_sheet : List ℕ → Bool
is_sheet ws =
    up_to limit.sheet_types (count ws)
    && good_counts (layer_counts ws)
    && eqb (length ws) (1 + count ws + 3 * total (layer_counts ws))

-- How many types a sheet has; of other words none.
abbrev pub types_in : List ℕ → Option ℕ
types_in ws = cond (is_sheet ws) (Some (count ws)) None

-- The bodies: each type's words stand behind those of the type before it.
unfoldable pub bodies : List ℕ → List ℕ → List (List ℕ)
bodies [] ws = []
bodies (c ∷ cs) ws = take (3 * c) ws ∷ bodies cs (drop (3 * c) ws)

-- The types of a sheet; of other words none.
unfoldable pub types : List ℕ → List (List ℕ)
types ws = cond (is_sheet ws) (bodies (layer_counts ws) (drop (1 + count ws) ws)) []

-- The words of type k, from 0; past the last type no words.
abbrev pub type_at : ℕ → List ℕ → List ℕ
type_at k ws = get_or (types ws) k []
