-- What each of the code's operations is.
use Rattle.std.specs.Prelude.{Bool, true, false}
use Rattle.symbol_operations.specs.Act as act
use Rattle.symbol_operations.specs.Act.{Act}
use Rattle.symbol_operations.specs.Operation.{Operation, put_nothing, acts}
use Rattle.symbol_operations.specs.declared.operation.Offer.{Offer}
use Rattle.symbol_operations.specs.declared.operation.Offer.TheVariants as offer
use Rattle.symbol_operations.specs.declared.operation.Declared.{Declared}
use Rattle.symbol_operations.specs.declared.operation.Declared.TheVariants as declared

-- Put is of nothing, poison or a type; a forward declaration of poison or a type.
abbrev pub put : Offer → Operation
put offer.Nothing = put_nothing
put offer.Poison = acts act.put_poison
put offer.Type = acts act.put_type

abbrev pub forward : Declared → Operation
forward declared.Poison = acts act.forward_poison
forward declared.Type = acts act.forward_type

-- Whether it has a type: of poison there is none.
abbrev pub offers_type : Act → Bool
offers_type act.put_poison = false
offers_type act.put_type = true
offers_type act.forward_poison = false
offers_type act.forward_type = true
