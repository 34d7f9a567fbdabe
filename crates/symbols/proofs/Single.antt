-- Each public contract allows one outcome: any two that it allows of the same arguments coincide, in the answer and in
-- everything that was lent.
-- Assumes nothing.
use mathlib.Core.Path.{◌≡◌, refl, sym, ◌∙◌}
use seplogic.Ra.Ura.{Ura}
use base.Logic.{SProp}
use prog.Memory.{Memory}
use prog.Routine.{Routine}
use types.Logic.{Logic}
use contract.Lifetimes.{Lfts}
use contract.Monad.{Fun}
use denote.Triple.Entry.{Args}
use Rattle.symbol_columns.proofs.Single.{Walked}
use Rattle.symbols.specs.contracts.change.change_symbol as change-symbol
use Rattle.symbols.specs.contracts.put.put_symbol as put-symbol
use Rattle.symbols.specs.contracts.put.poison_symbol as poison-symbol
use Rattle.symbols.specs.contracts.put.forward_declare_symbol as forward-declare-symbol
use Rattle.symbols.specs.contracts.get.get_symbol as get-symbol
use Rattle.symbols.specs.contracts.get.get_type as get-type

module _ {M : Type 1} {𝓤 : Ura M} (𝓛 : Logic 𝓤) (mem : Memory → SProp 𝓤) (run : Routine → Fun 𝓤) where
  pub change-symbol-single : (κs : Lfts 3) (a : Args change-symbol.signature κs) →
      Walked 𝓤 ((change-symbol.clauses 𝓛 mem run κs a).ensures tt)
      (λ x s y t. (x ≡ y) × (s.0.now ≡ t.0.now) × (s.1.0.now ≡ t.1.0.now))
  change-symbol-single κs a =
      (_, (λ x s. refl, λ x y s t p q. (p.0 ∙ sym q.0, p.1 ∙ sym q.1, p.2 ∙ sym q.2)))

  pub put-symbol-single : (κs : Lfts 3) (a : Args put-symbol.signature κs) →
      Walked 𝓤 ((put-symbol.clauses 𝓛 mem run κs a).ensures tt)
      (λ x s y t. (x ≡ y) × (s.0.now ≡ t.0.now) × (s.1.0.now ≡ t.1.0.now))
  put-symbol-single κs a =
      (_, (λ x s. refl, λ x y s t p q. (p.0 ∙ sym q.0, p.1 ∙ sym q.1, p.2 ∙ sym q.2)))

  pub poison-symbol-single : (κs : Lfts 2) (a : Args poison-symbol.signature κs) →
      Walked 𝓤 ((poison-symbol.clauses 𝓛 mem run κs a).ensures tt)
      (λ x s y t. (x ≡ y) × (s.0.now ≡ t.0.now) × (s.1.0.now ≡ t.1.0.now))
  poison-symbol-single κs a =
      (_, (λ x s. refl, λ x y s t p q. (p.0 ∙ sym q.0, p.1 ∙ sym q.1, p.2 ∙ sym q.2)))

  pub forward-declare-symbol-single : (κs : Lfts 3) (a : Args forward-declare-symbol.signature κs) →
      Walked 𝓤 ((forward-declare-symbol.clauses 𝓛 mem run κs a).ensures tt)
      (λ x s y t. (x ≡ y) × (s.0.now ≡ t.0.now) × (s.1.0.now ≡ t.1.0.now))
  forward-declare-symbol-single κs a =
      (_, (λ x s. refl, λ x y s t p q. (p.0 ∙ sym q.0, p.1 ∙ sym q.1, p.2 ∙ sym q.2)))

  pub get-symbol-single : (κs : Lfts 3) (a : Args get-symbol.signature κs) →
      Walked 𝓤 ((get-symbol.clauses 𝓛 mem run κs a).ensures tt)
      (λ x s y t. (x ≡ y) × (s.1.1.1.1.0.now ≡ t.1.1.1.1.0.now))
  get-symbol-single κs a = (_, (λ x s. refl, λ x y s t p q. (p.0 ∙ sym q.0, p.1 ∙ sym q.1)))

  pub get-type-single : (κs : Lfts 2) (a : Args get-type.signature κs) →
      Walked 𝓤 ((get-type.clauses 𝓛 mem run κs a).ensures tt) (λ x s y t. x.now ≡ y.now)
  get-type-single κs a = (_, (λ x s. refl, λ x y s t p q. p ∙ sym q))
