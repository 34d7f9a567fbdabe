-- The public contract allows one result: any two that it allows of the same arguments coincide.
-- Assumes nothing.
use mathlib.Core.Path.{◌≡◌, sym, ap, ◌∙◌}
use Rattle.std.specs.Prelude.{Result, Ok, Err}
use Rattle.type_numbers.specs.Refusal.{number_of}
use Rattle.type_layers.specs.declared.answers.Refused.{Refused}
use Rattle.type_layers.proofs.Apart.{same-place}
use Rattle.type_layers.proofs.Single.{Single}
use Rattle.symbol_slot.specs.AsCoded.{of_way}
use Rattle.symbol_slot.specs.declared.slot.Way.{Way}
use Rattle.symbol_slot.specs.declared.slot.Way.TheVariants as code
use Rattle.symbol_slot.proofs.slot.way_of.Kinds.{ps, r}
use Rattle.symbol_slot.proofs.slot.way_of.Reads.{Post}

pub way-apart : (x y : Result Way Refused) → of_way x ≡ of_way y → x ≡ y
way-apart (Ok (code.Found i)) (Ok (code.Found j)) e = cc
way-apart (Ok (code.Found i)) (Ok (code.Free j)) e = cc
way-apart (Ok (code.Free i)) (Ok (code.Found j)) e = cc
way-apart (Ok (code.Free i)) (Ok (code.Free j)) e = cc
way-apart (Ok (code.Found i)) (Err d) e = cc
way-apart (Ok (code.Free i)) (Err d) e = cc
way-apart (Err d) (Ok (code.Found i)) e = cc
way-apart (Err d) (Ok (code.Free i)) e = cc
way-apart (Err d) (Err e) p =
    let n : number_of d.refusal ≡ number_of e.refusal = cc in
    let q : d.place ≡ e.place = cc in
    ap Err (same-place d e n q)

pub way-of-single : Single 4 ps r Post
way-of-single κs a x y s t p q = way-apart x y (p ∙ sym q)
