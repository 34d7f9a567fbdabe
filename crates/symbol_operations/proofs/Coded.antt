-- The code's operations are told apart by what they are.
-- Assumes nothing.
use mathlib.Core.Path.{◌≡◌, refl, ap, ◌∙◌}
use Rattle.std.specs.Prelude.{Option, Some, None}
use Rattle.symbol_operations.specs.Act as act
use Rattle.symbol_operations.specs.Operation as operation
use Rattle.symbol_operations.specs.AsCoded.{of_act, of_operation, of_asked}
use Rattle.symbol_operations.specs.declared.operation.Act.{Act}
use Rattle.symbol_operations.specs.declared.operation.Act.TheVariants as code-act
use Rattle.symbol_operations.specs.declared.operation.Operation.{Operation}
use Rattle.symbol_operations.specs.declared.operation.Operation.TheVariants as code

abbrev coded-act : act.Act → Act
coded-act act.put_poison = code-act.PutPoison
coded-act act.put_type = code-act.PutType
coded-act act.forward_poison = code-act.ForwardPoison
coded-act act.forward_type = code-act.ForwardType

is-act : (a : Act) → a ≡ coded-act (of_act a)
is-act code-act.PutPoison = refl
is-act code-act.PutType = refl
is-act code-act.ForwardPoison = refl
is-act code-act.ForwardType = refl

-- the code's operation that an operation is
abbrev of-act : act.Act → Operation
of-act act.put_poison = code.PutPoison
of-act act.put_type = code.PutType
of-act act.forward_poison = code.ForwardPoison
of-act act.forward_type = code.ForwardType

abbrev pub coded : operation.Operation → Operation
coded operation.put_nothing = code.PutNothing
coded (operation.acts a) = of-act a

pub is-coded : (o : Operation) → o ≡ coded (of_operation o)
is-coded code.PutNothing = refl
is-coded code.PutPoison = refl
is-coded code.PutType = refl
is-coded code.ForwardPoison = refl
is-coded code.ForwardType = refl

pub coded_by : (o : Operation) (p : operation.Operation) → of_operation o ≡ p → o ≡ coded p
coded_by o p e = is-coded o ∙ ap coded e

-- the same, of what it asks for
abbrev pub coded-asked : operation.Operation → Option Act
coded-asked operation.put_nothing = None
coded-asked (operation.acts a) = Some (coded-act a)

pub is-asked : (x : Option Act) → x ≡ coded-asked (of_asked x)
is-asked None = refl
is-asked (Some a) = ap Some (is-act a)
