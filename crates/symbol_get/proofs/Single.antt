-- Each public contract allows one outcome: any two that it allows of the same arguments coincide. Of a part that is handed
-- back, the words.
-- Assumes nothing.
use mathlib.Core.Path.{◌≡◌, sym, ◌∙◌}
use contract.Lifetimes.{Lfts}
use denote.Triple.Clauses.{AtExit}
use borrow.Fn.Kinds.{Dens, res_t, ended_of}
use Rattle.symbol_get.proofs.get.get_among.Kinds as get-among-kinds
use Rattle.symbol_get.proofs.get.get_among.Reads as get-among
use Rattle.symbol_get.proofs.get.type_among.Kinds as type-among-kinds
use Rattle.symbol_get.proofs.get.type_among.Reads as type-among

pub get-among-single : (κs : Lfts 4) (a : Dens κs get-among-kinds.ps) (x y : (res_t get-among-kinds.r κs).Denot) (s t : AtExit (ended_of 4 get-among-kinds.ps get-among-kinds.r) κs) →
    get-among.Post κs a x s → get-among.Post κs a y t → (x ≡ y) × (s.1.1.1.0.now ≡ t.1.1.1.0.now)
get-among-single κs a x y s t p q = (p.0 ∙ sym q.0, p.1 ∙ sym q.1)

pub type-among-single : (κs : Lfts 3) (a : Dens κs type-among-kinds.ps) (x y : (res_t type-among-kinds.r κs).Denot) (s t : AtExit (ended_of 3 type-among-kinds.ps type-among-kinds.r) κs) →
    type-among.Post κs a x s → type-among.Post κs a y t → x.now ≡ y.now
type-among-single κs a x y s t p q = p ∙ sym q
