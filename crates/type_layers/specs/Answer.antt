-- "When an answer is an enum, a definition gives this paper's number and values for each of its cases, and the promises use that definition."
use Rattle.std.specs.Prelude.{Bool, true, false, ℕ, Result, Ok, Err, Option, Some, None, ◌≡◌}
use Rattle.type_numbers.specs.declared.refusal.Refusal.{Refusal}
use Rattle.type_numbers.specs.Refusal.{number_of}
use Rattle.type_layers.specs.declared.answers.Refused.{Refused}

-- A value; that there is none; or a refusal with its number and its place.
pub data Answer (A : Type 0) : Type 0 where
  given : A → Answer A
  nothing : Answer A
  refused : ℕ → ℕ → Answer A

-- Whether there is a value.
abbrev pub is_given : {A : Type 0} → Answer A → Bool
is_given (given v) = true
is_given nothing = false
is_given (refused n p) = false

-- A refusal without a place: 0.
abbrev pub IsUnplaced : Refusal → Refused → Type 0
IsUnplaced r e = e ≡ record { refusal = r; place = 0 }

-- A value, or why there is none.
abbrev pub of_result : {A : Type 0} → Result A Refused → Answer A
of_result (Ok v) = given v
of_result (Err e) = refused (number_of e.refusal) e.place

-- The same, where there may be no value.
abbrev pub of_found : {A : Type 0} → Result (Option A) Refused → Answer A
of_found (Ok (Some v)) = given v
of_found (Ok None) = nothing
of_found (Err e) = refused (number_of e.refusal) e.place

abbrev pub truth : Bool → Answer ℕ
truth true = given 1
truth false = given 0

-- Yes is 1, no is 0.
abbrev pub of_verdict : Result Bool Refused → Answer ℕ
of_verdict (Ok b) = truth b
of_verdict (Err e) = refused (number_of e.refusal) e.place

-- A refusal stands; else what follows.
abbrev pub next : {A B : Type 0} → Answer A → Answer B → Answer B
next (refused n p) c = refused n p
next (given v) c = c
next nothing c = c
