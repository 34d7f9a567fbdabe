-- Two refusals of one number are the same.
-- Assumes nothing.
use mathlib.Core.Path.{◌≡◌, refl, sym, ap, ◌∙◌}
use mathlib.Core.List.{List, [], ◌∷◌}
use Prim.Native.Nat.{ℕ}
use lib.ListN.{get_or}
use Rattle.type_numbers.specs.Refusal.{number_of}
use Rattle.type_numbers.specs.declared.refusal.Refusal.{Refusal}
use Rattle.type_numbers.specs.declared.refusal.Refusal.TheVariants as refusal

-- the refusals in the order of their numbers, from 1
abbrev all : List Refusal
all = refusal.BadCount ∷ refusal.BadCount ∷ refusal.BadLayer ∷ refusal.BadLeaf ∷ refusal.IllFormed ∷ refusal.BadRequest ∷ refusal.NotInExtern ∷ refusal.Conflict ∷ refusal.NoStepFits ∷ refusal.AddressOfAddress ∷ refusal.SlicePointerUnsettled ∷ refusal.NoMember ∷ refusal.TableNotInOrder ∷ refusal.TableFull ∷ refusal.OutputTooShort ∷ refusal.TooManyLayers ∷ refusal.BadSheet ∷ refusal.SizeTooLarge ∷ []

abbrev at : ℕ → Refusal
at n = get_or all n refusal.BadCount

at-number : (r : Refusal) → at (number_of r) ≡ r
at-number refusal.BadCount = refl
at-number refusal.BadLayer = refl
at-number refusal.BadLeaf = refl
at-number refusal.IllFormed = refl
at-number refusal.BadRequest = refl
at-number refusal.NotInExtern = refl
at-number refusal.Conflict = refl
at-number refusal.NoStepFits = refl
at-number refusal.AddressOfAddress = refl
at-number refusal.SlicePointerUnsettled = refl
at-number refusal.NoMember = refl
at-number refusal.TableNotInOrder = refl
at-number refusal.TableFull = refl
at-number refusal.OutputTooShort = refl
at-number refusal.TooManyLayers = refl
at-number refusal.BadSheet = refl
at-number refusal.SizeTooLarge = refl

pub number_of-apart : (r s : Refusal) → number_of r ≡ number_of s → r ≡ s
number_of-apart r s e = sym (at-number r) ∙ (ap at e ∙ at-number s)
