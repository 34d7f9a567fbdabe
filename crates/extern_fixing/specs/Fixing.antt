-- Extern fixing of a type.
use Rattle.std.specs.Prelude.{Bool, cond, ◌||◌, List, [], ◌∷◌, ◌++◌, ℕ, ◌+◌, eqb, ltb}
use Rattle.type_numbers.specs.Refusal as refusal
use Rattle.type_numbers.specs.Context as of-context
use Rattle.type_numbers.specs.Kind as kind
use Rattle.type_layers.specs.Layers.{Layer, layer, outer, inside, is_reference}
use Rattle.type_layers.specs.Answer.{Answer, given, nothing, refused}
use Rattle.extern_plain.specs.Plain.{fixed_plain}
use Rattle.type_wellformed.specs.WellFormed.{well_formed}

-- Layers around a type that was made. A refusal stands.
unfoldable pub under : List Layer → Answer (List Layer) → Answer (List Layer)
under front (given a) = given (front ++ a)
under front nothing = nothing
under front (refused n p) = refused n p

-- "Externalizing keeps Int8-Int64, Uint8-Uint64, Usize, Char8"
abbrev pub kept : ℕ → Bool
kept k =
    eqb k kind.int8
    || eqb k kind.int16
    || eqb k kind.int32
    || eqb k kind.int64
    || eqb k kind.uint8
    || eqb k kind.uint16
    || eqb k kind.uint32
    || eqb k kind.uint64
    || eqb k kind.usize
    || eqb k kind.char8

-- "goes inside Pointer and View; makes Arraylike an EndlessArray; refuses the rest with 6 and the layer."
-- The type handed to it starts at layer p of the type given.
unfoldable pub externalized : ℕ → List Layer → Answer (List Layer)
externalized p [] = refused refusal.not_in_extern p
externalized p (x ∷ a) =
    cond (kept x.kind) (given (x ∷ a))
    (cond (is_reference x.kind) (under (x ∷ []) (externalized (p + 1) a))
    (cond (eqb x.kind kind.arraylike) (under (layer kind.endless_array 0 0 ∷ []) (externalized (p + 1) a))
    (refused refusal.not_in_extern p)))

-- "The type handed to externalizing must be well formed, else 4."
unfoldable pub externalize : ℕ → List Layer → Answer (List Layer)
externalize p a = cond (well_formed a) (externalized p a) (refused refusal.ill_formed 0)

-- "Extern: Arraylike of e becomes View of EndlessArray of e externalized; anything else is externalized."
unfoldable pub fixed_extern : List Layer → Answer (List Layer)
fixed_extern a =
    cond (eqb (outer a) kind.arraylike)
    (under (layer kind.view 0 0 ∷ layer kind.endless_array 0 0 ∷ []) (externalize 1 (inside a)))
    (externalize 0 a)

-- "5 bad context"
unfoldable pub fixed : Bool → ℕ → List Layer → Answer (List Layer)
fixed external context a =
    cond (ltb of-context.member context) (refused refusal.bad_request 0)
    (cond external (fixed_extern a) (given (fixed_plain context a)))
