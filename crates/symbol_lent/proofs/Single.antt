-- Each public contract allows one outcome: any two that it allows of the same arguments coincide, in the result or in the
-- columns.
-- Assumes nothing.
use mathlib.Core.Path.{◌≡◌, refl, sym, ◌∙◌}
use seplogic.Ra.Ura.{Ura}
use base.Logic.{SProp}
use prog.Memory.{Memory}
use prog.Routine.{Routine}
use types.Logic.{Logic}
use contract.Lifetimes.{Lfts}
use contract.Monad.{Fun}
use denote.Triple.Entry.{Args}
use Rattle.symbol_columns.proofs.Single.{Walked}
use Rattle.symbol_lent.specs.contracts.gather_rows.gather as gather
use Rattle.symbol_lent.specs.contracts.search_lent.find_symbol as find-symbol

module _ {M : Type 1} {𝓤 : Ura M} (𝓛 : Logic 𝓤) (mem : Memory → SProp 𝓤) (run : Routine → Fun 𝓤) where
  pub gather-single : (κs : Lfts 2) (a : Args gather.signature κs) →
      Walked 𝓤 ((gather.clauses 𝓛 mem run κs a).ensures tt) (λ x s y t. s.1.0.now ≡ t.1.0.now)
  gather-single κs a = (_, (λ x s. refl, λ x y s t p q. p ∙ sym q))

  pub find-symbol-single : (κs : Lfts 1) (a : Args find-symbol.signature κs) →
      Walked 𝓤 ((find-symbol.clauses 𝓛 mem run κs a).ensures tt) (λ x s y t. x ≡ y)
  find-symbol-single κs a = (_, (λ x s. refl, λ x y s t p q. p ∙ sym q))
