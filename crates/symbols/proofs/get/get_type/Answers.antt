use mathlib.Core.Path.{◌≡◌, ap, ◌∙◌}
use mathlib.Core.List.{List}
use Prim.Native.Nat.{ℕ}
use lib.ListN.{length}
use Rattle.symbol_columns.specs.AsCoded.{read_from}
use Rattle.symbol_get.specs.Get.{type_of}
use Rattle.symbol_lent.specs.AsCoded.{gathered}
use Rattle.symbols.proofs.Whole.{type-same}
use Rattle.symbols.proofs.get.get_type.Goals as goal

pub returns : goal.returns
returns c =
    let a = c.args in
    let columns : c.gather.new.flat ≡ gathered a.table.now = c.gather.ensures in
    c.type_among.ensures
    ∙ ap (λ (ws : List ℕ). type_of a.id (read_from ws 0 (length a.table.now)) a.store.now) columns
    ∙ type-same a.id a.table.now a.store.now
