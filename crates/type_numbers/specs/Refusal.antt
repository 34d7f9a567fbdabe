-- "Refusal numbers and order"
use Rattle.std.specs.Prelude.{ℕ, ◌≡◌}
use Rattle.type_numbers.specs.declared.refusal.Refusal.{Refusal}
use Rattle.type_numbers.specs.declared.refusal.Refusal.TheVariants as refusal

-- "1 word count 0, over 48 or not a multiple of 3"
abbrev pub bad_count : ℕ
bad_count = 1

-- "2 a bad layer"
abbrev pub bad_layer : ℕ
bad_layer = 2

-- "3 leaf early or missing"
abbrev pub bad_leaf : ℕ
bad_leaf = 3

-- "4 ill formed"
abbrev pub ill_formed : ℕ
ill_formed = 4

-- "5 bad context, step, step count or rounds", and by request g "5 for another width"
abbrev pub bad_request : ℕ
bad_request = 5

-- "6 not allowed in extern"
abbrev pub not_in_extern : ℕ
not_in_extern = 6

-- "7 conflicting types"
abbrev pub conflict : ℕ
conflict = 7

-- "8 no step fits"
abbrev pub no_step_fits : ℕ
no_step_fits = 8

-- "9 address of a temporary address"
abbrev pub address_of_address : ℕ
address_of_address = 9

-- "10 slice pointer without a settling"
abbrev pub slice_pointer_unsettled : ℕ
slice_pointer_unsettled = 10

-- "11 member absent or poisoned"
abbrev pub no_member : ℕ
no_member = 11

-- "12 table not in order"
abbrev pub table_not_in_order : ℕ
table_not_in_order = 12

-- "13 an insertion with no free record"
abbrev pub table_full : ℕ
table_full = 13

-- "14 output too short for this result"
abbrev pub output_too_short : ℕ
output_too_short = 14

-- "15 result over 16 layers"
abbrev pub too_many_layers : ℕ
too_many_layers = 15

-- "16 bad sheet"
abbrev pub bad_sheet : ℕ
bad_sheet = 16

-- "17 stored size over 2^64-1 at any layer measured"
abbrev pub size_too_large : ℕ
size_too_large = 17

-- The number of each.
abbrev pub number_of : Refusal → ℕ
number_of refusal.BadCount = bad_count
number_of refusal.BadLayer = bad_layer
number_of refusal.BadLeaf = bad_leaf
number_of refusal.IllFormed = ill_formed
number_of refusal.BadRequest = bad_request
number_of refusal.NotInExtern = not_in_extern
number_of refusal.Conflict = conflict
number_of refusal.NoStepFits = no_step_fits
number_of refusal.AddressOfAddress = address_of_address
number_of refusal.SlicePointerUnsettled = slice_pointer_unsettled
number_of refusal.NoMember = no_member
number_of refusal.TableNotInOrder = table_not_in_order
number_of refusal.TableFull = table_full
number_of refusal.OutputTooShort = output_too_short
number_of refusal.TooManyLayers = too_many_layers
number_of refusal.BadSheet = bad_sheet
number_of refusal.SizeTooLarge = size_too_large

abbrev pub Numbers : Refusal → ℕ → Type 0
Numbers r n = n ≡ number_of r
