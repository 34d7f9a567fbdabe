use mathlib.Core.Path.{◌≡◌, ap, ◌∙◌}
use mathlib.Core.List.{List}
use Prim.Native.Nat.{ℕ}
use lib.ListN.{length}
use Rattle.type_layers.specs.Layers.{Layer}
use Rattle.type_layers.specs.Answer as paper
use Rattle.symbol_columns.specs.AsCoded.{read_from}
use Rattle.symbol_lent.specs.AsCoded.{gathered}
use Rattle.write_answer.specs.Flat.{flat}
use Rattle.write_type.specs.Outcome.{answer_in, buffer_in}
use Rattle.walker_run.specs.Walked.{walk_to}
use Rattle.walker_run.proofs.Stepping.{walk_same}
use Rattle.walker_run.proofs.walk_lent.walk.Goals as goal

pub returns : goal.returns
returns c =
    let a = c.args in
    let columns : c.gather.new.flat ≡ gathered a.table.now = c.gather.ensures in
    let same : walk_to a.known.now a.steps.now a.address (read_from c.gather.new.flat 0 (length a.table.now)) a.store.now
    ≡ walk_to a.known.now a.steps.now a.address a.table.now a.store.now =
    ap (λ (ws : List ℕ). walk_to a.known.now a.steps.now a.address (read_from ws 0 (length a.table.now)) a.store.now) columns
    ∙ walk_same a.known.now a.steps.now a.store.now a.address a.table.now in (
      c.walk_among.ensures.0 ∙ ap (λ (z : paper.Answer (List Layer)). flat (answer_in a.out.now z)) same,
      c.walk_among.ensures.1 ∙ ap (λ (z : paper.Answer (List Layer)). buffer_in a.out.now z) same,
    )
