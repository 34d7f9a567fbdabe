-- Each public contract allows one result: any two that it allows of the same arguments coincide.
-- Assumes nothing.
use mathlib.Core.Path.{◌≡◌, refl, sym, ◌∙◌}
use Rattle.type_layers.proofs.Single.{Single}
use Rattle.relation_coerces.specs.AsCoded.{of_coercion}
use Rattle.relation_coerces.specs.declared.coercion.Coercion.{Coercion}
use Rattle.relation_coerces.specs.declared.coercion.Coercion.TheVariants as coded
use Rattle.relation_coerces.proofs.coercion.U64FromCoercion.from.Kinds as number-kinds
use Rattle.relation_coerces.proofs.coercion.U64FromCoercion.from.Reads as from
use Rattle.relation_coerces.proofs.coercion.Coercion.is_as_value.Kinds as of-kinds
use Rattle.relation_coerces.proofs.coercion.Coercion.is_as_value.Reads as is-as-value
use Rattle.relation_coerces.proofs.coercion.Coercion.is_by_address.Reads as is-by-address
use Rattle.relation_coerces.proofs.coercion.coerces.Kinds as coerces-kinds
use Rattle.relation_coerces.proofs.coercion.coerces.Reads as coerces
use Rattle.relation_coerces.proofs.autoderefs.can_autoderef_into.Kinds.{ps, r}
use Rattle.relation_coerces.proofs.autoderefs.can_autoderef_into.Reads as can-autoderef-into
use Rattle.relation_coerces.proofs.autoderefs.can_subautoderef_into.Reads as can-subautoderef-into

-- the three answers are apart
pub coercion-apart : (x y : Coercion) → of_coercion x ≡ of_coercion y → x ≡ y
coercion-apart coded.None coded.None e = refl
coercion-apart coded.None coded.AsValue e = cc
coercion-apart coded.None coded.ByAddress e = cc
coercion-apart coded.AsValue coded.None e = cc
coercion-apart coded.AsValue coded.AsValue e = refl
coercion-apart coded.AsValue coded.ByAddress e = cc
coercion-apart coded.ByAddress coded.None e = cc
coercion-apart coded.ByAddress coded.AsValue e = cc
coercion-apart coded.ByAddress coded.ByAddress e = refl

pub number-single : Single 0 number-kinds.ps number-kinds.r from.Post
number-single κs a x y s t p q = p ∙ sym q

pub is-as-value-single : Single 0 of-kinds.ps of-kinds.r is-as-value.Post
is-as-value-single κs a x y s t p q = p ∙ sym q

pub is-by-address-single : Single 0 of-kinds.ps of-kinds.r is-by-address.Post
is-by-address-single κs a x y s t p q = p ∙ sym q

pub coerces-single : Single 2 coerces-kinds.ps coerces-kinds.r coerces.Post
coerces-single κs a x y s t p q = coercion-apart x y (p ∙ sym q)

pub can-autoderef-into-single : Single 2 ps r can-autoderef-into.Post
can-autoderef-into-single κs a x y s t p q = p ∙ sym q

pub can-subautoderef-into-single : Single 2 ps r can-subautoderef-into.Post
can-subautoderef-into-single κs a x y s t p q = p ∙ sym q
