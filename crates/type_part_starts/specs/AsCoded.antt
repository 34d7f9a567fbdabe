-- No rule, but what contracts of the code need: where a part starts that is handed back.
use denote.Ref.{Bor}
use Rattle.std.specs.Prelude.{◌≡◌, ◌-◌, ◌≤◌, length, List, ℕ, Option, Some, None}
use Rattle.type_layers.specs.Layers.{layers}
use Rattle.type_layers.specs.Answer.{given, nothing}
use Rattle.type_part_starts.specs.PartStarts.{start_in}
use Rattle.type_part_starts.specs.declared.part_starts.Part.{Part}

-- A part reaches to the last word of the type.
abbrev pub ReachesToTheEnd : Part → List ℕ → Option (Bor (List ℕ)) → Type 0
ReachesToTheEnd p ws (Some l) = (length l.now ≤ length ws) × (start_in p (layers ws) ≡ given (length ws - length l.now))
ReachesToTheEnd p ws None = start_in p (layers ws) ≡ nothing
