-- Each public contract allows one result: any two that it allows of the same arguments coincide.
-- Assumes nothing.
use mathlib.Core.Path.{sym, ◌∙◌}
use Rattle.type_layers.proofs.Single.{Single}
use Rattle.symbol_search.proofs.search.first_free.Kinds as first-free-kinds
use Rattle.symbol_search.proofs.search.first_free.Reads as first-free
use Rattle.symbol_search.proofs.search.slot_of.Kinds as slot-of-kinds
use Rattle.symbol_search.proofs.search.slot_of.Reads as slot_of
use Rattle.symbol_search.proofs.search.slot_with.Kinds as slot-with-kinds
use Rattle.symbol_search.proofs.search.slot_with.Reads as slot-with

pub first-free-single : Single 3 first-free-kinds.ps first-free-kinds.r first-free.Post
first-free-single κs a x y s t p q = p ∙ sym q

pub slot-of-single : Single 3 slot-of-kinds.ps slot-of-kinds.r slot_of.Post
slot-of-single κs a x y s t p q = p ∙ sym q

pub slot-with-single : Single 3 slot-with-kinds.ps slot-with-kinds.r slot-with.Post
slot-with-single κs a x y s t p q = p ∙ sym q
