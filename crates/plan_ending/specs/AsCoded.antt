-- No rule, but what contracts of the code need: what a settling adds to the rounds, in numbers.
use Rattle.std.specs.Prelude.{Bool, true, false, List, ℕ, ◌-◌, Result, Ok, Err}
use Rattle.type_parts.specs.Parts.{fully_dereferenced}
use Rattle.type_numbers.specs.StepKind as of-step
use Rattle.plan_settling.specs.declared.settling.Settling.{Settling}
use Rattle.plan_settling.specs.declared.settling.Settling.TheVariants as settling
use Rattle.plan_ending.specs.declared.ending.Ending.{Ending}

abbrev pub ending : ℕ → ℕ → ℕ → Bool → Bool → Ending
ending extra kind lead address coerced = record { extra = extra; kind = kind; lead = lead; address = address; coerced = coerced }

-- Of a settling that is refused, the refusal.
abbrev pub ending_of : {E : Type 0} → Result Settling E → ℕ → ℕ → Result Ending E
ending_of (Ok settling.Identical) p n = Ok (ending 0 of-step.autoderef 0 false false)
ending_of (Ok settling.Viewed) p n = Ok (ending 1 of-step.autoview 0 false false)
ending_of (Ok settling.Coerced) p n = Ok (ending 0 of-step.autoderef 0 false true)
ending_of (Ok settling.SlicePointer) p n = Ok (ending 0 of-step.autoderef 0 false false)
ending_of (Ok settling.PointedTo) p n = Ok (ending 0 of-step.autoderef 1 true false)
ending_of (Ok settling.AddressCoerced) p n = Ok (ending 0 of-step.autoderef 1 true true)
ending_of (Ok settling.Addressed) p n = Ok (ending 0 of-step.autoderef 1 true false)
-- "p-n Autoderefs"
ending_of (Ok settling.Dereferenced) p n = Ok (ending (p - n) of-step.autoderef n false false)
ending_of (Err e) p n = Err e

-- The words of the reported type after its Pointers, of the current type's and the target's.
abbrev pub body_of : {E : Type 0} → Result Settling E → List ℕ → List ℕ → List ℕ
body_of (Ok settling.Identical) c t = c
body_of (Ok settling.Viewed) c t = t
body_of (Ok settling.Coerced) c t = c
body_of (Ok settling.SlicePointer) c t = c
body_of (Ok settling.PointedTo) c t = c
body_of (Ok settling.AddressCoerced) c t = c
body_of (Ok settling.Addressed) c t = c
body_of (Ok settling.Dereferenced) c t = fully_dereferenced c
body_of (Err e) c t = c
