-- Each public contract allows one outcome: any two that it allows of the same arguments coincide, in the answer and in
-- everything that was lent.
-- Assumes nothing.
use mathlib.Core.Path.{◌≡◌, refl, sym, ◌∙◌}
use seplogic.Ra.Ura.{Ura}
use base.Logic.{SProp}
use prog.Memory.{Memory}
use prog.Routine.{Routine}
use types.Logic.{Logic}
use contract.Monad.{Fun}
use contract.Lifetimes.{Lfts}
use denote.Triple.Entry.{Args}
use denote.Triple.Clauses.{AtExit}
use borrow.Fn.Kinds.{Dens, res_t, ended_of}
use Rattle.symbol_columns.proofs.Single.{Walked}
use Rattle.symbol_update.proofs.Told.{told-apart}
use Rattle.symbol_update_lone.proofs.lone.update_lone.Kinds as update-lone-kinds
use Rattle.symbol_update_lone.proofs.lone.update_lone.Reads as update-lone
use Rattle.symbol_update_lone.specs.contracts.lone.do_update_symbol as do-update-symbol

pub update-lone-single : (κs : Lfts 3) (a : Dens κs update-lone-kinds.ps) (x y : (res_t update-lone-kinds.r κs).Denot) (s t : AtExit (ended_of 3 update-lone-kinds.ps update-lone-kinds.r) κs) →
    update-lone.Post κs a x s → update-lone.Post κs a y t → (x ≡ y) × (s.0.now ≡ t.0.now) × (s.1.0.now ≡ t.1.0.now)
update-lone-single κs a x y s t p q = (told-apart x y (p.0 ∙ sym q.0), p.1.0 ∙ sym q.1.0, p.1.1 ∙ sym q.1.1)

module _ {M : Type 1} {𝓤 : Ura M} (𝓛 : Logic 𝓤) (mem : Memory → SProp 𝓤) (run : Routine → Fun 𝓤) (κs : Lfts 3) where
  pub do-update-symbol-single : (a : Args do-update-symbol.signature κs) → Walked 𝓤 ((do-update-symbol.clauses 𝓛 mem run κs a).ensures tt)
      (λ x s y t. (x ≡ y) × (s.0.now ≡ t.0.now) × (s.1.0.now ≡ t.1.0.now))
  do-update-symbol-single a = (_, (λ x s. refl, λ x y s t p q. (p.0 ∙ sym q.0, p.1 ∙ sym q.1, p.2 ∙ sym q.2)))
