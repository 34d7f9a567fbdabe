use mathlib.Core.Path.{◌≡◌, ap, ◌∙◌}
use mathlib.Core.List.{List}
use Prim.Native.Nat.{ℕ}
use lib.ListN.{length}
use Rattle.symbol_columns.specs.AsCoded.{read_from}
use Rattle.symbol_get.specs.Get.{got, told, found_after}
use Rattle.symbol_get.specs.Got.{Got}
use Rattle.symbol_lent.specs.AsCoded.{gathered}
use Rattle.symbols.proofs.Whole.{got_same}
use Rattle.symbols.proofs.get.get_symbol.Goals as goal

pub returns : goal.returns
returns c =
    let a = c.args in
    let columns : c.gather.new.flat ≡ gathered a.table.now = c.gather.ensures in
    let same : got a.id a.authority (read_from c.gather.new.flat 0 (length a.table.now)) a.store.now ≡ got a.id a.authority a.table.now a.store.now =
    ap (λ (ws : List ℕ). got a.id a.authority (read_from ws 0 (length a.table.now)) a.store.now) columns
    ∙ got_same a.id a.table.now a.store.now a.authority in
    (c.get_among.ensures.0 ∙ ap told same, c.get_among.ensures.1 ∙ ap (λ (g : Got). found_after g a.found.now) same)
