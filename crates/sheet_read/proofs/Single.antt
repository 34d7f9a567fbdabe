-- Each public contract allows one result: any two that it allows of the same arguments coincide.
-- Assumes nothing.
use mathlib.Core.Path.{sym, ◌∙◌}
use Rattle.type_layers.proofs.Apart.{result-apart}
use Rattle.type_layers.proofs.Single.{Single}
use Rattle.sheet_read.proofs.reading.read_words.Kinds as read-words-kinds
use Rattle.sheet_read.proofs.reading.read_words.Reads as read-words
use Rattle.sheet_read.proofs.reading.read_sheet.Kinds as read-sheet-kinds
use Rattle.sheet_read.proofs.reading.read_sheet.Reads as read-sheet

pub read-words-single : Single 1 read-words-kinds.ps read-words-kinds.r read-words.Post
read-words-single κs a x y s t p q = result-apart x y (p ∙ sym q)

pub read-sheet-single : Single 1 read-sheet-kinds.ps read-sheet-kinds.r read-sheet.Post
read-sheet-single κs a x y s t p q = result-apart x y (p ∙ sym q)
