-- The public contract allows one result: any two that it allows of the same arguments coincide.
-- Assumes nothing.
use mathlib.Core.Path.{◌≡◌, refl, sym, ap, ◌∙◌}
use Rattle.type_layers.proofs.Single.{Single}
use Rattle.symbol_update_rule.specs.Line as line
use Rattle.symbol_update_rule.specs.AsCoded.{of_line}
use Rattle.symbol_update_rule.specs.declared.lines.Line.{Line}
use Rattle.symbol_update_rule.specs.declared.lines.Line.TheVariants as code
use Rattle.symbol_update_rule.proofs.lines.decide.Kinds.{ps, r}
use Rattle.symbol_update_rule.proofs.lines.decide.Reads.{Post}

-- the code's line that a line comes from
abbrev coded : line.Line → Line
coded line.poisoned = code.Poisoned
coded line.ill_formed = code.IllFormed
coded line.kept = code.Kept
coded line.type_replaced = code.TypeReplaced
coded line.both_replaced = code.BothReplaced
coded line.conflicting = code.Conflicting

is-coded : (l : Line) → l ≡ coded (of_line l)
is-coded code.Poisoned = refl
is-coded code.IllFormed = refl
is-coded code.Kept = refl
is-coded code.TypeReplaced = refl
is-coded code.BothReplaced = refl
is-coded code.Conflicting = refl

pub decide-single : Single 2 ps r Post
decide-single κs a x y s t p q = is-coded x ∙ ap coded (p ∙ sym q) ∙ sym (is-coded y)
