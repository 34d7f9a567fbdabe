-- "Settle current c, target t, depth n, first that applies".
use Rattle.std.specs.Prelude.{Bool, true, false, cond, ◌&&◌, List, [], ◌∷◌, ◌++◌, ℕ, ◌+◌, ◌-◌, eqb, ltb, leb, drop, replicate}
use Rattle.type_numbers.specs.Refusal as refusal
use Rattle.type_numbers.specs.Kind as kind
use Rattle.type_layers.specs.Layers.{Layer, layer, outer, inside}
use Rattle.type_layers.specs.Answer.{Answer, given, refused}
use Rattle.type_parts.specs.Parts.{references}
use Rattle.type_size_and_depth.specs.Depth.{pointer_depth}
use Rattle.relation_equals.specs.Equals.{identical}
use Rattle.relation_coerces.specs.Coerces.{coerces, address_coerces}
use Rattle.type_numbers.specs.StepKind as of-step
use Rattle.plan_steps.specs.Steps.{Step, step}
use Rattle.plan_settling.specs.Line as line
use Rattle.plan_settling.specs.Line.{Line}

-- What the settling adds to the rounds: further steps, the reported type, and two flags.
pub record Settled : Type 0 where
  pub steps : List Step
  pub type : List Layer
  pub address : Bool
  pub coerced : Bool

abbrev pub settled : List Step → List Layer → Bool → Bool → Settled
settled ss c a b = record { steps = ss; type = c; address = a; coerced = b }

abbrev pub pointer : Layer
pointer = layer kind.pointer 0 0

-- "an address adds one Pointer to it"
abbrev pub by_address : List Layer → Bool → Settled
by_address c b = settled [] (pointer ∷ c) true b

-- "n=0, t of depth 0"
abbrev pub plainly : List Layer → ℕ → Bool
plainly t n = eqb n 0 && eqb (pointer_depth t) 0

-- "c fully dereferenced under n Pointers, with p-n Autoderefs added"
abbrev pub dereferenced : List Layer → ℕ → ℕ → Settled
dereferenced c n p =
    settled (replicate (p - n) (step of-step.autoderef 0 0 0)) (replicate n pointer ++ drop (references c) c) false false

-- "(vii) p = depth of c: n≥p+2: 9; n=p+1: address; c a SlicePointer: 10; else ..."
unfoldable pub settle_otherwise : List Layer → ℕ → ℕ → Answer Settled
settle_otherwise c n p =
    cond (leb (p + 2) n) (refused refusal.address_of_address 0)
    (cond (eqb n (p + 1)) (given (by_address c false))
    (cond (eqb (outer c) kind.slice_pointer) (refused refusal.slice_pointer_unsettled 0)
    (given (dereferenced c n p))))

-- Which line applies: the first of them.
unfoldable pub line_of : List Layer → List Layer → ℕ → Line
line_of c t n =
    -- "(i) n=0, t of depth 0, c identical to t."
    cond (plainly t n && identical c t) line.i
    -- "(ii) same n and t, c a View of t: Autoview, type t."
    (cond (plainly t n && eqb (outer c) kind.view && identical (inside c) t) line.ii
    -- "(iii) same n and t, c coerces into t: coerced."
    (cond (plainly t n && coerces c t) line.iii
    -- "(iv) n=1, c a SlicePointer identical to t."
    (cond (eqb n 1 && eqb (outer c) kind.slice_pointer && identical c t) line.iv
    -- "(v) n>0, t points to c: address."
    (cond (ltb 0 n && eqb (outer t) kind.pointer && identical (inside t) c) line.v
    -- "(vi) n>0, c address coerces into t: address, coerced."
    (cond (ltb 0 n && address_coerces c t) line.vi
    line.vii)))))

-- What each line gives. "The reported type is c where no line says otherwise".
unfoldable pub settle_by : Line → List Layer → List Layer → ℕ → Answer Settled
settle_by line.i c t n = given (settled [] c false false)
settle_by line.ii c t n = given (settled (step of-step.autoview 0 0 0 ∷ []) t false false)
settle_by line.iii c t n = given (settled [] c false true)
settle_by line.iv c t n = given (settled [] c false false)
settle_by line.v c t n = given (by_address c false)
settle_by line.vi c t n = given (by_address c true)
settle_by line.vii c t n = settle_otherwise c n (pointer_depth c)

unfoldable pub settle : List Layer → List Layer → ℕ → Answer Settled
settle c t n = settle_by (line_of c t n) c t n
