-- What the program `pairs` prints, as bytes.
use Rattle.std.specs.Prelude.{Bool, cond, List, [], ◌∷◌, ◌++◌, ℕ, ◌+◌}
use Rattle.sheet_text.specs.Decimal.{decimal}
use Rattle.type_layers.specs.Answer.{Answer, given, nothing, refused}
use Rattle.type_layers.specs.Layers.{layers}
use Rattle.relation_equals.specs.Equals.{equals}
use Rattle.relation_declared.specs.Declared as relation
use Rattle.relation_coerces.specs.Coerces as coercion
use Rattle.sheet_words.specs.Little.{whole_words}
use Rattle.sheet_contents.specs.Contents.{types}
use Rattle.sheet_read.specs.Sheet.{read_sheet}

abbrev space : ℕ
space = 32

abbrev newline : ℕ
newline = 10

-- "left"
abbrev left_word : List ℕ
left_word = 108 ∷ 101 ∷ 102 ∷ 116 ∷ []

-- "right"
abbrev right_word : List ℕ
right_word = 114 ∷ 105 ∷ 103 ∷ 104 ∷ 116 ∷ []

-- "equals"
abbrev equals_word : List ℕ
equals_word = 101 ∷ 113 ∷ 117 ∷ 97 ∷ 108 ∷ 115 ∷ []

-- "declared"
abbrev declared_word : List ℕ
declared_word = 100 ∷ 101 ∷ 99 ∷ 108 ∷ 97 ∷ 114 ∷ 101 ∷ 100 ∷ []

-- "concrete"
abbrev concrete_word : List ℕ
concrete_word = 99 ∷ 111 ∷ 110 ∷ 99 ∷ 114 ∷ 101 ∷ 116 ∷ 101 ∷ []

-- "coerces"
abbrev coerces_word : List ℕ
coerces_word = 99 ∷ 111 ∷ 101 ∷ 114 ∷ 99 ∷ 101 ∷ 115 ∷ []

-- "address"
abbrev address_word : List ℕ
address_word = 97 ∷ 100 ∷ 100 ∷ 114 ∷ 101 ∷ 115 ∷ 115 ∷ []

-- "autoderef"
abbrev autoderef_word : List ℕ
autoderef_word = 97 ∷ 117 ∷ 116 ∷ 111 ∷ 100 ∷ 101 ∷ 114 ∷ 101 ∷ 102 ∷ []

-- "refused "
abbrev pub refused_text : List ℕ
refused_text = 114 ∷ 101 ∷ 102 ∷ 117 ∷ 115 ∷ 101 ∷ 100 ∷ space ∷ []

-- "left right equals declared concrete coerces address autoderef"
abbrev pub header : List ℕ
header = left_word ++ space ∷ right_word ++ space ∷ equals_word ++ space ∷ declared_word ++ space ∷ concrete_word ++ space ∷ coerces_word ++ space ∷ address_word ++ space ∷ autoderef_word ++ newline ∷ []

-- "with yes as 1"
abbrev pub digit : Bool → ℕ
digit b = cond b 49 48

-- "the six relations, parted by single spaces"
unfoldable pub answers : List ℕ → List ℕ → List ℕ
answers a b =
    space ∷ digit (equals (layers a) (layers b))
    ∷ space ∷ digit (relation.declared (layers a) (layers b))
    ∷ space ∷ digit (relation.concretization (layers a) (layers b))
    ∷ space ∷ digit (coercion.coerces (layers a) (layers b))
    ∷ space ∷ digit (coercion.address_coerces (layers a) (layers b))
    ∷ space ∷ digit (coercion.autoderefs (layers a) (layers b))
    ∷ newline ∷ []

-- "positions from 1, then the six relations"
unfoldable pub line : ℕ → ℕ → List ℕ → List ℕ → List ℕ
line i j a b = decimal i ++ (space ∷ []) ++ decimal j ++ answers a b

-- The texts of all types, one after the other, each by its position, which is counted from i.
unfoldable pub each : (ℕ → List ℕ → List ℕ) → ℕ → List (List ℕ) → List ℕ
each f i [] = []
each f i (a ∷ ts) = f i a ++ each f (i + 1) ts

-- "one line for each ordered pair, left slowest: positions from 1"
abbrev pub row : List (List ℕ) → ℕ → List ℕ → List ℕ
row ts i a = each (λ j b. line i j a b) 1 ts

abbrev pub rows : List (List ℕ) → List ℕ
rows ts = each (row ts) 1 ts

-- "A refusal prints only one line such as `refused 16`."
abbrev pub refusal : ℕ → List ℕ
refusal n = refused_text ++ decimal n ++ newline ∷ []

-- What is printed for the bytes that were read.
abbrev pub printed : List (List ℕ) → Answer ℕ → List ℕ
printed ts (given n) = header ++ rows ts
printed ts nothing = []
printed ts (refused n p) = refusal n

unfoldable pub text : List ℕ → List ℕ
text bs = printed (types (whole_words bs)) (read_sheet bs)
