-- Each public contract allows one result: any two that it allows of the same arguments coincide.
-- Assumes nothing.
use mathlib.Core.Path.{◌≡◌, sym, ◌∙◌}
use seplogic.Ra.Ura.{Ura}
use base.Logic.{SProp}
use contract.Monad.{fact}
use contract.Lifetimes.{Lfts}
use denote.Triple.Clauses.{AtExit}
use borrow.Fn.Kinds.{Dens, res_t, ended_of}
use Rattle.type_layers.proofs.Single.{Single}
use Rattle.symbol_columns.proofs.rows.row.Kinds as row-kinds
use Rattle.symbol_columns.proofs.rows.row.Reads as row
use Rattle.symbol_columns.proofs.rows.put_row.Kinds as put-row-kinds
use Rattle.symbol_columns.proofs.rows.put_row.Reads as put-row
use Rattle.symbol_columns.proofs.stored_type.slot_words.Kinds as slot-words-kinds
use Rattle.symbol_columns.proofs.stored_type.slot_words.Reads as slot-words
use Rattle.symbol_columns.proofs.stored_type.stored_words.Kinds as stored-words-kinds
use Rattle.symbol_columns.proofs.stored_type.stored_words.Reads as stored-words

pub row-single : Single 1 row-kinds.ps row-kinds.r row.Post
row-single κs a x y s t p q = p ∙ sym q

pub put-row-single : (κs : Lfts 1) (a : Dens κs put-row-kinds.ps) (x y : (res_t put-row-kinds.r κs).Denot) (s t : AtExit (ended_of 1 put-row-kinds.ps put-row-kinds.r) κs) →
    put-row.Post κs a x s → put-row.Post κs a y t → s.0.now ≡ t.0.now
put-row-single κs a x y s t p q = p ∙ sym q

-- Of a part that is handed back, the words.
pub slot-words-single : (κs : Lfts 1) (a : Dens κs slot-words-kinds.ps) (x y : (res_t slot-words-kinds.r κs).Denot) (s t : AtExit (ended_of 1 slot-words-kinds.ps slot-words-kinds.r) κs) →
    slot-words.Post κs a x s → slot-words.Post κs a y t → x.now ≡ y.now
slot-words-single κs a x y s t p q = p ∙ sym q

pub stored-words-single : (κs : Lfts 1) (a : Dens κs stored-words-kinds.ps) (x y : (res_t stored-words-kinds.r κs).Denot) (s t : AtExit (ended_of 1 stored-words-kinds.ps stored-words-kinds.r) κs) →
    stored-words.Post κs a x s → stored-words.Post κs a y t → x.now ≡ y.now
stored-words-single κs a x y s t p q = p ∙ sym q

-- A function's contract, taken whole: what it ensures is a fact, and of two results of which the fact holds Same holds.
abbrev pub Walked : {M : Type 1} (𝓤 : Ura M) {R S : Type 0} → (R → S → SProp 𝓤) → (R → S → R → S → Type 0) → Type 2
Walked 𝓤 {R} {S} ensures Same =
    (Q : R → S → Type 0) × (((x : R) (s : S) → ensures x s ≡ fact 𝓤 (Q x s)) × ((x y : R) (s t : S) → Q x s → Q y t → Same x s y t))
