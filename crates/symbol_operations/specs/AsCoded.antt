-- No rule, but what contracts of the code need: what each operation of the code is in the rule's terms.
use Rattle.std.specs.Prelude.{◌≡◌, Option, Some, None}
use Rattle.symbol_operations.specs.Act as act
use Rattle.symbol_operations.specs.Act.{Act}
use Rattle.symbol_operations.specs.Operation.{Operation, put_nothing, acts}
use Rattle.symbol_operations.specs.declared.operation.Act as coded-act
use Rattle.symbol_operations.specs.declared.operation.Act.TheVariants as code-act
use Rattle.symbol_operations.specs.declared.operation.Operation as coded-operation
use Rattle.symbol_operations.specs.declared.operation.Operation.TheVariants as code
use Rattle.symbol_operations.specs.declared.operation.Offer.{Offer}
use Rattle.symbol_operations.specs.declared.operation.Declared.{Declared}
use Rattle.symbol_operations.specs.Operations.{put, forward}

abbrev pub of_act : coded-act.Act → Act
of_act code-act.PutPoison = act.put_poison
of_act code-act.PutType = act.put_type
of_act code-act.ForwardPoison = act.forward_poison
of_act code-act.ForwardType = act.forward_type

abbrev pub of_operation : coded-operation.Operation → Operation
of_operation code.PutNothing = put_nothing
of_operation code.PutPoison = acts act.put_poison
of_operation code.PutType = acts act.put_type
of_operation code.ForwardPoison = acts act.forward_poison
of_operation code.ForwardType = acts act.forward_type

abbrev pub of_asked : Option coded-act.Act → Operation
of_asked None = put_nothing
of_asked (Some a) = acts (of_act a)

-- The operation that an offer is, and a declaration.
abbrev pub Puts : Offer → coded-operation.Operation → Type 0
Puts offer operation = of_operation operation ≡ put offer

abbrev pub Declares : Declared → coded-operation.Operation → Type 0
Declares declared operation = of_operation operation ≡ forward declared
