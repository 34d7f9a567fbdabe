-- "Sheets (added)": how the bytes of a sheet are read.
use Rattle.std.specs.Prelude.{cond, List, [], ◌∷◌, ℕ, ◌%◌, eqb, length}
use Rattle.type_numbers.specs.Refusal as refusal
use Rattle.sheet_words.specs.Little.{whole_words}
use Rattle.type_layers.specs.Answer.{Answer, given, refused, next}
use Rattle.type_checks.specs.Check.{check_of}
use Rattle.sheet_contents.specs.Contents.{count, is_sheet, types}

-- The first refusal of a type, in the sheet's order; else what follows.
unfoldable pub check_all : List (List ℕ) → Answer ℕ → Answer ℕ
check_all [] c = c
check_all (t ∷ ts) c = next (check_of t) (check_all ts c)

abbrev pub bad_sheet : Answer ℕ
bad_sheet = refused refusal.bad_sheet 0

-- "A sheet's 16 comes before all of these." How many types a sheet has.
unfoldable pub read_words : List ℕ → Answer ℕ
read_words ws = cond (is_sheet ws) (check_all (types ws) (given (count ws))) bad_sheet

unfoldable pub read_sheet : List ℕ → Answer ℕ
read_sheet bs = cond (eqb (length bs % 8) 0) (read_words (whole_words bs)) bad_sheet
