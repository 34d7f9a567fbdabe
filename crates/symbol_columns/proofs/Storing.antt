-- The words of a slot and of a stored type, by what the code cuts off.
-- Assumes nothing.
use mathlib.Core.Path.{◌≡◌, ap, ◌∙◌, sym}
use mathlib.Core.List.{List}
use Prim.Native.Nat.{ℕ, ◌*◌, ◌/◌, ◌≤◌, ◌<◌}
use native.Mathlib.Omega.{arith}
use lib.ListN.{length, take, drop}
use Rattle.std.proofs.Common.{min}
use Rattle.std.proofs.lemmas.List.{take_min}
use Rattle.type_layers.proofs.Words.{part, part-is}
use Rattle.symbol_columns.specs.StoredWords.{slot_words, stored_words}
use lib.Seq.{take_all}
use borrow.Author.Tests.{lt-ltb}

pub slot_cut : (store : List ℕ) (k m : ℕ) → m ≡ min (length (part store (k * 48))) 48 → take m (part store (k * 48)) ≡ slot_words store k
slot_cut store k m e =
    let least : m ≡ min 48 (length (part store (k * 48))) = omega (arith, e) in
    ap (λ (j : ℕ). take j (part store (k * 48))) least ∙ take_min 48 (part store (k * 48)) ∙ ap (take 48) (part-is store (k * 48))

-- a slot that is not whole
pub slot-cut : (store : List ℕ) (k : ℕ) → length (part store (k * 48)) < 48 → part store (k * 48) ≡ slot_words store k
slot-cut store k h =
    let e = part-is store (k * 48) in
    let few : length (drop (k * 48) store) ≤ 48 = omega (arith, h, ap length e) in
    e ∙ sym (take_all 48 (drop (k * 48) store) few)

-- a stored type whose words are not there
pub absent : (n : ℕ) (ws : List ℕ) → length ws / 3 < n → take 0 ws ≡ stored_words n ws
unfolding stored_words
absent n ws h = rw (lt-ltb (length ws / 3) n h)
