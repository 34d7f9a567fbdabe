-- No rule, but what contracts of the code need: a table's records in six columns of words.
use Rattle.std.specs.Prelude.{ℕ, zero, suc, ◌+◌, Bool, cond, List, [], ◌∷◌, eqb, ltb, get_or, set}
use Rattle.type_numbers.specs.Limit as limit
use Rattle.symbol_columns.specs.declared.symbol.Symbol.{Symbol}
use Rattle.symbol_columns.specs.Record.{vacant}

-- Where each column of a table starts; the ids stand first. Each has room for as many records as a table may have; the sums
-- are written out, since the facts that the kit makes have them so.
abbrev pub authorities : ℕ
authorities = 128

abbrev pub places : ℕ
places = 256

abbrev pub states : ℕ
states = 384

abbrev pub layer_counts : ℕ
layer_counts = 512

abbrev pub marks : ℕ
marks = 640

-- All six.
abbrev pub column_words : ℕ
column_words = 768

-- A record's row in the columns: written there, and read.
abbrev pub bit : Bool → ℕ
bit b = cond b 1 0

abbrev pub six_set : List ℕ → ℕ → Symbol → List ℕ
six_set ws i s =
    set (set (set (set (set (set ws i s.id) (i + authorities) (bit s.authority)) (i + places) s.place) (i + states) s.state) (i + layer_counts) s.layers) (i + marks) s.mark

unfoldable pub put_row : List ℕ → ℕ → Symbol → List ℕ
put_row ws i s = cond (ltb i limit.records) (six_set ws i s) ws

-- The record in row i; and the k records from row i on.
unfoldable pub row_at : List ℕ → ℕ → Symbol
row_at ws i =
    record {
      id = get_or ws i 0;
      authority = eqb (get_or ws (i + authorities) 0) 1;
      place = get_or ws (i + places) 0;
      state = get_or ws (i + states) 0;
      layers = get_or ws (i + layer_counts) 0;
      mark = get_or ws (i + marks) 0;
    }

unfoldable pub read_from : List ℕ → ℕ → ℕ → List Symbol
read_from ws i zero = []
read_from ws i (suc k) = row_at ws i ∷ read_from ws (suc i) k

-- The record in row i under an id; past the last row, a free one.
abbrev pub under : ℕ → Symbol → Symbol
under id s = record { id = id; authority = s.authority; place = s.place; state = s.state; layers = s.layers; mark = s.mark }

unfoldable pub row_under : List ℕ → ℕ → ℕ → Symbol
row_under ws i id = cond (ltb i limit.records) (under id (row_at ws i)) (under id vacant)
