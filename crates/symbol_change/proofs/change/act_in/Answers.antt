use mathlib.Core.Path.{◌≡◌, ◌∙◌}
use Rattle.std.proofs.Common.{arith}
use Rattle.std.proofs.lemmas.Grind.{common_steps}
use Rattle.type_numbers.specs.Refusal.{number_of}
use Rattle.write_answer.specs.Flat.{not_accepted}
use Rattle.symbol_change.specs.AsCoded.{of_change, nowhere, change_of}
use Rattle.symbol_change.proofs.Decided.{kept-refused, found_part, chose-found, kept-found, new_part, chose-new, kept-new, refused-stays}
use Rattle.symbol_change.proofs.change.act_in.Goals as goal

pub slice_bounds-slot-end : goal.slice_bounds-slot-end
slice_bounds-slot-end c = found_part _ _ _ _ _ _ _ c.in_ok-at.ensures _ c.in-Found.is

pub slice_bounds-slot-end-in-Free : goal.slice_bounds-slot-end-in-Free
slice_bounds-slot-end-in-Free c = new_part _ _ _ _ _ _ _ c.in_ok-at.ensures _ c.in-Free.is

pub returns-in_err-at : goal.returns-in_err-at
unfolding change_of
returns-in_err-at c =
    let x = c.in_err-at.field-0.0 in
    let i : of_change c.from_residual.result ≡ nowhere (not_accepted (number_of x.refusal) x.place) = grind (arith, common_steps) in
    (i ∙ rw (← c.in_err-at.ensures), kept-refused _ _ _ _ _ _ _ _ c.way_of.result c.way_of.ensures x c.in_err-at.was)

pub returns-in_err-effect-in-Found : goal.returns-in_err-effect-in-Found
returns-in_err-effect-in-Found c =
    let x = c.in_err-effect-in-Found.field-0.0 in
    let i : of_change c.from_residual-in_err-effect-in-Found.result ≡ nowhere (not_accepted (number_of x.refusal) x.place) = grind (arith, common_steps) in (
      chose-found _ _ _ _ _ _ _ c.in_ok-at.ensures _ c.in-Found.is _ _ _ _ c.row-symbol.ensures _ _ _
          c.in_err-effect-in-Found.ensures.0 c.in_err-effect-in-Found.ensures.1 (i ∙ refused-stays _ _ x),
      kept-found _ _ _ _ _ _ _ c.in_ok-at.ensures _ c.in-Found.is _ _ _ _ c.row-symbol.ensures _ c.in_err-effect-in-Found.ensures.2,
    )

pub returns-in_ok-effect-in-Found : goal.returns-in_ok-effect-in-Found
returns-in_ok-effect-in-Found c = (
  chose-found _ _ _ _ _ _ _ c.in_ok-at.ensures _ c.in-Found.is _ _ _ _ c.row-symbol.ensures _ _ _
      c.in_ok-effect-in-Found.ensures.0 c.in_ok-effect-in-Found.ensures.1 c.if_changed.ensures,
  kept-found _ _ _ _ _ _ _ c.in_ok-at.ensures _ c.in-Found.is _ _ _ _ c.row-symbol.ensures _ c.in_ok-effect-in-Found.ensures.2,
)

pub returns-in-Free : goal.returns-in-Free
returns-in-Free c = (
  chose-new _ _ _ _ _ _ _ c.in_ok-at.ensures _ c.in-Free.is _ _ _ _ c.fill-symbol.ensures.0,
  kept-new _ _ _ _ _ _ _ c.in_ok-at.ensures _ c.in-Free.is _ _ _ _ c.fill-symbol.ensures.1,
)
